-- How many bytes the first of a line's numbers take, number by number. Assumes nothing.
use Prim.Native.Nat.{ℕ, ◌+◌, ◌*◌, ◌≤◌, ◌<◌}
use native.Mathlib.Numerals.{add-one}
use native.Mathlib.Omega.{arith}
use mathlib.Core.Path.{◌≡◌, refl, sym, ap, ◌∙◌}
use mathlib.Core.List.{List, [], ◌∷◌, ◌++◌, append-nil}
use lib.ListN.{length, take, drop, get_or, length-append, take-append-drop}
use lib.Seq.{take-suc, take_all, length-take-le}
use lib.IntN.{ℤ, pos}
use Rattle.adaptive.specs.Number.{signed_type, shortest}
use Rattle.sheet_format.specs.Line.{line_bytes}
use Rattle.sheet_format.specs.Line.Laws.{length-line_bytes}
use Rattle.sheet_format.specs.Line.Steps.{line_bytes-append}

-- the bytes of number i
abbrev pub bytes_at : List ℤ → ℕ → List ℕ
bytes_at vs i = shortest signed_type (get_or vs i (pos 0))

-- the first i of the numbers vs take so many bytes
pub record NumbersReached (vs : List ℤ) (bytes i : ℕ) : Type 0 where
  pub within : i ≤ length vs
  pub sum : bytes ≡ length (line_bytes (take i vs))

module _ (vs : List ℤ) (i : ℕ) (h : i < length vs) where
  pub line_bytes-next : line_bytes (take (i + 1) vs) ≡ line_bytes (take i vs) ++ bytes_at vs i
  unfolding line_bytes
  line_bytes-next =
      rw (add-one i, take-suc vs i (pos 0) h)
      (line_bytes-append (take i vs) (get_or vs i (pos 0) ∷ []) ∙ rw (append-nil (bytes_at vs i)))

  module _ (bytes : ℕ) (r : NumbersReached vs bytes i) where
    pub reached-more : (n : ℕ) → n ≡ length (bytes_at vs i) → NumbersReached vs (bytes + n) (i + 1)
    reached-more n e = record {
      within = omega arith;
      sum = sym (rw line_bytes-next (length-append (line_bytes (take i vs)) (bytes_at vs i) ∙ omega (arith, r.sum)));
    }

    -- the next number has room where all have
    pub reached-room : bytes + length (bytes_at vs i) ≤ length (line_bytes vs)
    reached-room =
        let whole : length (line_bytes vs) ≡ length (line_bytes (take (i + 1) vs)) + length (line_bytes (drop (i + 1) vs)) =
        ap (λ l. length (line_bytes l)) (sym (take-append-drop (i + 1) vs))
        ∙ ap length (line_bytes-append (take (i + 1) vs) (drop (i + 1) vs))
        ∙ length-append (line_bytes (take (i + 1) vs)) (line_bytes (drop (i + 1) vs)) in
        omega (arith, whole, (reached-more (length (bytes_at vs i)) refl).sum)

module _ (vs : List ℤ) where
  pub reached-none : NumbersReached vs 0 0
  unfolding line_bytes
  reached-none = record { within = omega arith; sum = refl }

  pub reached-most : (bytes i : ℕ) → NumbersReached vs bytes i → bytes ≤ 5 * i
  reached-most bytes i r =
      omega (arith, r.sum, length-line_bytes (take i vs), length-take-le i vs r.within)

  pub reached-all : (bytes i : ℕ) → NumbersReached vs bytes i → length vs ≤ i → bytes ≡ length (line_bytes vs)
  reached-all bytes i r g = r.sum ∙ ap (λ l. length (line_bytes l)) (take_all i vs g)
