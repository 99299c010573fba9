-- The lines of a listing: blocks of them make it up, none has more than 128 bytes, and as many fit as are within the room.
-- Assumes nothing.
use Rattle.std.specs.Prelude.{ℕ, zero, suc, ◌+◌, ◌-◌, ◌*◌, ◌≤◌, ◌≡◌, refl, List, [], ◌∷◌, ◌++◌, map, length, take, drop, get_or, leb, ltb}
use Rattle.std.proofs.Common.{arith, sym, ap, ◌∙◌, append_assoc, length-append, take-append-drop, drop-drop, take-add, le-leb, leb-true, ltb-true, ltb-false}
use Rattle.std.proofs.lemmas.List.{length-map}
use Rattle.std.proofs.Math.ListN.{get_or-eq_default}
use Rattle.bitstream.specs.Bits.{words_of}
use Rattle.row_format.specs.Lists.Laws.{by-test}
use Rattle.row_format.specs.Table.{codeword_at, table_number}
use Rattle.row_format.proofs.Theorems.Numbers.{table_number-in}
use Rattle.code_table.specs.Check.Laws.{length-words, whole-table-words}
use Rattle.text.specs.Text.{ascii, field, decimal}
use Rattle.text.specs.Text.Laws.{length-decimal}
use Rattle.text.specs.Lines.{newline, refused_line}
use Rattle.table_listing.specs.Order.Once.{length-order}
use Rattle.table_listing.specs.Line.{line}
use Rattle.table_listing.specs.Line.Laws.{get_d_map, line-most}
use Rattle.table_listing.specs.Listing.{tree_order, string_lines, lines_for, lines, joined, fitting}
use Rattle.table_listing.specs.Listing.Laws.{strings-count, accepted-whole, tree_order-below, lines-accepted, codeword_at-bits}

-- ---- one block after the other
joined-append : (ks ls : List (List ℕ)) → joined (ks ++ ls) ≡ joined ks ++ joined ls
unfolding joined
joined-append [] ls = refl
joined-append (k ∷ ks) ls = rw (joined-append ks ls) (sym (append_assoc k (joined ks) (joined ls)))

-- the lines from one on are some of them and then the rest
pub block-then : (b : List ℕ) (first n : ℕ)
    → joined (drop first (lines b)) ≡ joined (take n (drop first (lines b))) ++ joined (drop (first + n) (lines b))
block-then b first n =
    sym (ap joined (take-append-drop n (drop first (lines b))))
    ∙ joined-append (take n (drop first (lines b))) (drop n (drop first (lines b)))
    ∙ ap (λ (ls : List (List ℕ)). joined (take n (drop first (lines b))) ++ joined ls) (drop-drop n first (lines b))

-- so many lines and then some more
pub joined-more : (first n : ℕ) (ls : List (List ℕ))
    → joined (take (first + n) ls) ≡ joined (take first ls) ++ joined (take n (drop first ls))
joined-more first n ls = ap joined (take-add first n ls) ∙ joined-append (take first ls) (take n (drop first ls))

-- ---- no line has more than 128 bytes
pub table_number-most : (b : List ℕ) → table_number b ≤ 3
table_number-most b = table_number-in (λ e. e ≤ 3) b (omega arith) (omega arith) (omega arith) (omega arith)

refused_line-most : (e : ℕ) → e ≤ 3 → length (refused_line e) ≤ 128
refused_line-most e h =
    rw (length-append (field (ascii "refused ") e) newline, length-append (ascii "refused ") (decimal e))
    (omega (arith, length-decimal 0 e (omega arith)))

pub strings-most : (b : List ℕ) → table_number b ≡ 0 → (k : ℕ) → length (get_or (string_lines (words_of b)) k []) ≤ 128
strings-most b ok k =
    let t = words_of b in
    let ps = tree_order t in
    by-test (ltb k (length ps))
    (λ e. rw (get_d_map (line t) ps k 0 [] (ltb-true k (length ps) e))
    (line-most t (get_or ps k 0) (λ i is. omega (arith, (tree_order-below b ok).below k, whole-table-words b (accepted-whole b ok)))))
    (λ e.
    let past : length (map (line t) ps) ≤ k = omega (arith, ltb-false k (length ps) e, length-map ps (line t)) in
    rw (get_or-eq_default (map (line t) ps) [] past) (omega arith))

refusal-most : (e : ℕ) (t : List ℕ) → suc e ≤ 3 → (k : ℕ) → length (get_or (lines_for (suc e) t) k []) ≤ 128
unfolding lines_for
refusal-most e t h zero = refused_line-most (suc e) h
refusal-most e t h (suc k) = omega arith

pub lines-most : (b : List ℕ) (k : ℕ) → length (get_or (lines b) k []) ≤ 128
lines-most b k = go (table_number b) refl
  where
    go : (e : ℕ) → table_number b ≡ e → length (get_or (lines b) k []) ≤ 128
    go zero is = rw (lines-accepted b is) (strings-most b is k)
    go (suc e) is =
        let most : suc e ≤ 3 = omega (arith, table_number-most b) in
        let these : lines b ≡ lines_for (suc e) (words_of b) = unfold lines in rw is in
        rw these (refusal-most e (words_of b) most k)

-- ---- a block has a line where the next one fits, and stays within the listing and the room
pub fitting-some : (room : ℕ) (ls : List (List ℕ)) → 1 ≤ length ls → length (get_or ls 0 []) ≤ room → 1 ≤ fitting room ls
unfolding fitting
fitting-some room [] h g = absurd (omega arith)
fitting-some room (l ∷ ls) h g = rw (le-leb (length l) room g) (omega arith)

pub fitting-within : (room : ℕ) (ls : List (List ℕ)) → fitting room ls ≤ length ls
unfolding fitting
fitting-within room [] = omega arith
fitting-within room (l ∷ ls) =
    by-test (leb (length l) room)
    (λ e. rw e (omega (arith, fitting-within (room - length l) ls)))
    (λ e. rw e (omega arith))

pub fitting-room : (room : ℕ) (ls : List (List ℕ)) → length (joined (take (fitting room ls) ls)) ≤ room
unfolding fitting joined
fitting-room room [] = omega arith
fitting-room room (l ∷ ls) =
    by-test (leb (length l) room)
    (λ e.
    let rest = fitting-room (room - length l) ls in
    rw (e, length-append l (joined (take (fitting (room - length l) ls) ls))) (omega (arith, leb-true (length l) room e)))
    (λ e. rw e (omega arith))

pub lines-few : (b : List ℕ) → length (lines b) ≤ 8190
lines-few b = go (table_number b) refl
  where
    go : (e : ℕ) → table_number b ≡ e → length (lines b) ≤ 8190
    go zero is =
        let t = words_of b in
        rw (lines-accepted b is, length-map (tree_order t) (line t), length-order (codeword_at t) (codeword_at-bits t) 27 (length t - 3))
        (omega (arith, length-words b, strings-count b is, whole-table-words b (accepted-whole b is)))
    go (suc e) is =
        let these : lines b ≡ refused_line (suc e) ∷ [] = unfold lines lines_for in rw is in
        rw these (omega arith)

-- ---- the bytes of some lines
joined-most : (ls : List (List ℕ)) → ((k : ℕ) → length (get_or ls k []) ≤ 128) → length (joined ls) ≤ length ls * 128
unfolding joined
joined-most [] h = omega arith
joined-most (l ∷ ls) h = omega (arith, length-append l (joined ls), h 0, joined-most ls (λ k. h (suc k)))

pub listing-few : (b : List ℕ) → length (joined (lines b)) ≤ 1048320
listing-few b = omega (arith, joined-most (lines b) (lines-most b), lines-few b)

-- those of the first lines are no more than those of all
pub joined-within : (n : ℕ) (ls : List (List ℕ)) → length (joined (take n ls)) ≤ length (joined ls)
joined-within n ls =
    let whole : joined ls ≡ joined (take n ls) ++ joined (drop n ls) =
    sym (ap joined (take-append-drop n ls)) ∙ joined-append (take n ls) (drop n ls) in
    omega (arith, ap length whole, length-append (joined (take n ls)) (joined (drop n ls)))
