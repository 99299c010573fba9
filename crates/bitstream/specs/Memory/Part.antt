-- A part of a slice up to its end, as code lends it and gets it back, and its laws. Assumes nothing.
use Rattle.std.specs.Prelude.{ℕ, ◌+◌, ◌-◌, ◌≤◌, ◌≡◌, List, [], ◌++◌, length, take, drop}
use Rattle.std.proofs.Common.{arith, sym, append_assoc, append-nil, length-drop, drop-drop, drop_of_length-le}
use borrow.Author.Rules.{part_to_end}
use borrow.Rule.Slice.PartMut.{mid_of, put_mid}
use Rattle.bitstream.specs.Memory.{overwritten}

-- the memory m from the place a on; and m when y comes back for it
abbrev pub part_from : ℕ → List ℕ → List ℕ
part_from a m = mid_of a (length m - a) m

abbrev pub with_part : ℕ → List ℕ → List ℕ → List ℕ
with_part a m y = put_mid a (length m - a) m y

pub part-is : (a : ℕ) (m : List ℕ) → part_from a m ≡ drop a m
part-is a m = part_to_end m a

pub part-back : (a : ℕ) (m y : List ℕ) → with_part a m y ≡ take a m ++ y
part-back a m y =
    let short : length (drop a m) ≤ length m - a = omega (arith, length-drop a m) in
    let none : drop (length m - a) (drop a m) ≡ [] = drop_of_length-le (drop a m) short in
    rw (none, append-nil y)

-- n bytes from the place a on, lent and given back as y
pub part-overwritten : (a n : ℕ) (m y : List ℕ) → length y ≡ n → put_mid a (a + n - a) m y ≡ overwritten m a y
part-overwritten a n m y e =
    let size : a + n - a ≡ length y = omega arith in
    rw (size, drop-drop (length y) a m) (sym (append_assoc (take a m) y (drop (a + length y) m)))
