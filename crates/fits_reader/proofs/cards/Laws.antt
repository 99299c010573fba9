-- A header's cards as the chunks of its file. Assumes nothing.
use Rattle.std.proofs.Common.{arith, ℕ, zero, suc, min, ◌/◌, ◌≡◌, refl, sym, ap, ◌∙◌, Bool, List, [], ◌∷◌, length, take, drop, length-drop}
use Rattle.std.specs.List.{list_any}
use Rattle.std.specs.Simd.{first_chunks}
use borrow.Author.Tests.{ltb-true, ltb-false}
use Rattle.std.specs.Prelude.{ltb}
use Rattle.row_format.specs.Lists.{any}
use Rattle.row_format.specs.Lists.Laws.{by-test}
use Rattle.fits_format.specs.Header.{cards_of, header_cards}

take-chunks : (n j k : ℕ) (s : List ℕ) → take j (first_chunks n k s) ≡ first_chunks n (min j k) s
take-chunks n zero k s = rw (let none : min 0 k ≡ 0 = omega arith in none)
take-chunks n (suc j) zero s = rw (let none : min (suc j) 0 ≡ 0 = omega arith in none)
take-chunks n (suc j) (suc k) s =
    let one : min (suc j) (suc k) ≡ suc (min j k) = omega arith in
    rw (one, take-chunks n j k (drop n s))

cards-chunks : (n : ℕ) (s : List ℕ) → cards_of n s ≡ first_chunks 80 (min n (length s / 80)) s
unfolding cards_of
cards-chunks zero s = rw (let none : min 0 (length s / 80) ≡ 0 = omega arith in none)
cards-chunks (suc n) s =
    by-test (ltb (length s) 80)
    (λ t.
    let none : min (suc n) (length s / 80) ≡ 0 = omega (arith, ltb-true (length s) 80 t) in
    rw (t, none))
    (λ t.
    let one : min (suc n) (length s / 80) ≡ suc (min n (length (drop 80 s) / 80)) = omega (arith, ltb-false (length s) 80 t, length-drop 80 s) in
    rw (t, one, cards-chunks n (drop 80 s)))

pub header-part : (s : List ℕ) (n : ℕ) (cs : List (List ℕ)) → cs ≡ first_chunks 80 (length s / 80) s → length cs ≡ length s / 80
    → n ≡ min (length cs) 360 → take n cs ≡ header_cards s
header-part s n cs is size least =
    let same : min n (length s / 80) ≡ min 360 (length s / 80) = omega arith in
    ap (take n) is ∙ take-chunks 80 n (length s / 80) s ∙ ap (λ (k : ℕ). first_chunks 80 k s) same ∙ sym (cards-chunks 360 s)

pub any_is : {A : Type 0} (f : A → Bool) (xs : List A) → list_any f xs ≡ any f xs
unfolding any
any_is f [] = refl
any_is f (x ∷ xs) = rw (any_is f xs)
