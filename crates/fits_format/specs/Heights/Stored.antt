-- Rows that are stored under numbers that rise by one: which stand there, and that there are no others. Assumes nothing.
use Rattle.std.specs.Prelude.{ℕ, zero, suc, ◌+◌, ◌≤◌, ◌<◌, ◌≡◌, refl, List, [], ◌∷◌, length, get_or}
use Rattle.std.proofs.Common.{add-zero, le_of_suc-le-suc, arith, ap, ◌∙◌, eq-eqb, ne_eqb}
use Rattle.sheet_format.specs.Sheet.{absent, present, heights_of}
use Rattle.fits_format.specs.Heights.{numbered}

pub length-numbered : (r : ℕ) (ls : List (List ℕ)) → length (numbered r ls) ≡ length ls
unfolding numbered
length-numbered r [] = refl
length-numbered r (l ∷ ls) = ap suc (length-numbered (suc r) ls)

pub numbered-stand : (r : ℕ) (ls : List (List ℕ)) (i : ℕ) → i < length ls → heights_of (r + i) (numbered r ls) ≡ present (get_or ls i [])
unfolding numbered heights_of
numbered-stand r [] i h = absurd (omega arith)
numbered-stand r (l ∷ ls) zero h = rw (add-zero r, eq-eqb r r refl)
numbered-stand r (l ∷ ls) (suc i) h =
    let e : r + suc i ≡ suc r + i = omega arith in
    rw (ne_eqb (r + suc i) r (λ z. absurd (omega (arith, z))))
    (ap (λ n. heights_of n (numbered (suc r) ls)) e ∙ numbered-stand (suc r) ls i (le_of_suc-le-suc h))

pub numbered-others : (r : ℕ) (ls : List (List ℕ)) (n : ℕ) → r + length ls ≤ n → heights_of n (numbered r ls) ≡ absent
unfolding numbered heights_of
numbered-others r [] n h = refl
numbered-others r (l ∷ ls) n h =
    rw (ne_eqb n r (λ z. absurd (omega (arith, z, h)))) (numbered-others (suc r) ls n (omega (arith, h)))
