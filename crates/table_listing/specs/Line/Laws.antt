-- The laws of lines. Assumes nothing.
use Rattle.std.specs.Prelude.{ℕ, zero, suc, ◌+◌, ◌%◌, ◌^◌, ◌≤◌, ◌<◌, ◌≡◌, refl, List, [], ◌∷◌, ◌++◌, map, ltb, nat_abs, length, get_or}
use Rattle.std.proofs.Common.{le_of_suc-le-suc, arith, ap, ◌∙◌, length-append}
use Rattle.std.proofs.lemmas.List.{length-map}
use Rattle.text.specs.Text.{ascii, digit}
use Rattle.text.specs.Text.Laws.{length-integer}
use Rattle.row_format.specs.Lists.Laws.{by-test}
use Rattle.row_format.specs.Table.{codeword, codeword_at, signed_difference, entry_difference}
use Rattle.row_format.specs.Table.Laws.{length-codeword}
use Rattle.table_listing.specs.Line.{name, line}

-- ---- the bits
pub get_d_map : {A B : Type 0} (f : A → B) (l : List A) (i : ℕ) (d : A) (e : B) → i < length l → get_or (map f l) i e ≡ f (get_or l i d)
get_d_map f [] i d e h = absurd (omega arith)
get_d_map f (x ∷ l) zero d e h = refl
get_d_map f (x ∷ l) (suc i) d e h = get_d_map f l i d e (le_of_suc-le-suc h)

pub length-bits : (w : ℕ) → length (map digit (codeword w)) ≡ w % 32
length-bits w = length-map (codeword w) digit ∙ length-codeword w

-- ---- a line is short
nat_abs-signed : (k : ℕ) → k ≤ 8186 → nat_abs (signed_difference k) < 10 ^ 4
nat_abs-signed k h = by-test (ltb k 4093) (λ e. rw e (omega arith)) (λ e. rw e (omega arith))

name-most : (t : List ℕ) (p : ℕ) → ((i : ℕ) → p ≡ 3 + i → entry_difference t i ≤ 8186) → length (name t p) ≤ 9
unfolding name
name-most t zero small = omega arith
name-most t (suc zero) small = omega arith
name-most t (suc (suc zero)) small = omega arith
name-most t (suc (suc (suc i))) small =
    omega (arith, length-integer 3 (signed_difference (entry_difference t i)) (nat_abs-signed (entry_difference t i) (small i (omega arith))))

pub line-most : (t : List ℕ) (p : ℕ) → ((i : ℕ) → p ≡ 3 + i → entry_difference t i ≤ 8186) → length (line t p) ≤ 128
unfolding line codeword_at
line-most t p small =
    let w = get_or t (3 + p) 0 in
    let parts : length (name t p ++ ascii " " ++ map digit (codeword w) ++ ascii "\n")
    ≡ length (name t p) + 1 + length (map digit (codeword w)) + 1 =
    length-append (name t p ++ ascii " " ++ map digit (codeword w)) (ascii "\n")
    ∙ ap (◌+ 1) (length-append (name t p ++ ascii " ") (map digit (codeword w))
    ∙ ap (◌+ length (map digit (codeword w))) (length-append (name t p) (ascii " "))) in
    omega (arith, name-most t p small, length-bits w)
