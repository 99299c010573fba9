-- Laws of counts in memory. Assumes nothing.
use Rattle.std.specs.Prelude.{ℕ, zero, suc, ◌+◌, ◌-◌, ◌*◌, ◌/◌, ◌≤◌, ◌<◌, ◌≡◌, refl, List, [], ◌∷◌, ◌++◌, length, take, drop, get_or, set, replicate}
use Rattle.std.proofs.Common.{mod-eq_of_lt, le_of_suc-le-suc, not-suc-le-zero, arith, sym, ap, ◌∙◌, append_assoc, length-drop, length-set, take-append-drop, take-add, take_at, drop_at, take_all, length-take-le, drop-set-lt, get_or-take, get_or-drop}
use Rattle.std.proofs.Math.Nat.{sub-zero, suc-sub-suc, zero-sub}
use Rattle.std.proofs.lemmas.List.{set_at, take-set-le, drop-set-add}
use Rattle.std.proofs.Math.Seq.{take-set-lt}
use Rattle.bitstream.specs.Bits.{digits, num_of, cut, bits_of, bytes_of, halves_of}
use Rattle.bitstream.specs.Bits.Laws.{length_digits, below-digits, num_of-digits, length-flat, flat_append, length_cut, cut-append, flat-cut}
use Rattle.bitstream.specs.Memory.{overwritten}
use Rattle.bitstream.specs.Memory.Laws.{length-overwritten}
use Rattle.row_format.specs.BitLaws.{pad-within}
use Rattle.map_format.specs.Reading.{photon}
use Rattle.mat_map.specs.Step.{part, Around}

-- ---- a count put into its two bytes
-- counts before two bytes, in them, and after them
halves-split : (a t d : List ℕ) (i r : ℕ) → length a ≡ 2 * i → length t ≡ 2
    → cut 16 (i + suc r) (bits_of (a ++ t ++ d)) ≡ cut 16 i (bits_of a) ++ num_of (bits_of t) ∷ cut 16 r (bits_of d)
unfolding cut
halves-split a t d i r la lt =
    let long : length (bits_of a) ≡ 16 * i = length-flat 8 a ∙ (omega (arith, la)) in
    let two : length (bits_of t) ≡ 16 = length-flat 8 t ∙ (omega (arith, lt)) in
    let e : bits_of (a ++ t ++ d) ≡ bits_of a ++ (bits_of t ++ bits_of d) =
    flat_append 8 (a ++ t) d ∙ ap (◌++ bits_of d) (flat_append 8 a t) ∙ append_assoc (bits_of a) (bits_of t) (bits_of d) in
    ap (cut 16 (i + suc r)) e
    ∙ cut-append 16 i (suc r) (bits_of a) (bits_of t ++ bits_of d) long
    ∙ rw (take_at (bits_of t) (bits_of d) 16 two, drop_at (bits_of t) (bits_of d) 16 two)

number_put : (v : ℕ) → v < 65536 → num_of (bits_of (bytes_of 2 (digits 16 v))) ≡ v
number_put v h =
    let long : length (digits 16 v) ≡ 16 = length_digits 16 v in
    ap num_of (flat-cut 8 2 (digits 16 v) (below-digits 16 v))
    ∙ ap num_of (pad-within 16 (digits 16 v) (omega arith) ∙ take_all 16 (digits 16 v) (omega arith))
    ∙ num_of-digits 16 v
    ∙ mod-eq_of_lt h

three-parts : (m : List ℕ) (i n : ℕ) → m ≡ take i m ++ take n (drop i m) ++ drop (i + n) m
three-parts m i n = sym (ap (◌++ drop (i + n) m) (sym (take-add i n m)) ∙ take-append-drop (i + n) m)

pub halves-put : (m : List ℕ) (i v : ℕ) → i < length m / 2 → v < 65536
    → halves_of (overwritten m (2 * i) (bytes_of 2 (digits 16 v))) ≡ set (halves_of m) i v
halves-put m i v h low =
    let two : length (bytes_of 2 (digits 16 v)) ≡ 2 = length_cut 8 2 (digits 16 v) in
    let r : ℕ = length m / 2 - suc i in
    let count : length m / 2 ≡ i + suc r = omega arith in
    let front : length (take (2 * i) m) ≡ 2 * i = length-take-le (2 * i) m (omega arith) in
    let here : length (take 2 (drop (2 * i) m)) ≡ 2 = length-take-le 2 (drop (2 * i) m) (omega (arith, length-drop (2 * i) m)) in
    let before
    : halves_of m ≡ cut 16 i (bits_of (take (2 * i) m)) ++ num_of (bits_of (take 2 (drop (2 * i) m))) ∷ cut 16 r (bits_of (drop (2 * i + 2) m)) =
    ap (λ (k : ℕ). cut 16 k (bits_of m)) count
    ∙ ap (λ (l : List ℕ). cut 16 (i + suc r) (bits_of l)) (three-parts m (2 * i) 2)
    ∙ halves-split (take (2 * i) m) (take 2 (drop (2 * i) m)) (drop (2 * i + 2) m) i r front here in
    ap (λ (k : ℕ). cut 16 (k / 2) (bits_of (overwritten m (2 * i) (bytes_of 2 (digits 16 v)))))
    (length-overwritten m (2 * i) (bytes_of 2 (digits 16 v)) (omega (arith, two)))
    ∙ ap (λ (k : ℕ). cut 16 k (bits_of (overwritten m (2 * i) (bytes_of 2 (digits 16 v))))) count
    ∙ halves-split (take (2 * i) m) (bytes_of 2 (digits 16 v)) (drop (2 * i + length (bytes_of 2 (digits 16 v))) m) i r front two
    ∙ rw (two, number_put v low)
    (sym (ap (λ (l : List ℕ). set l i v) before
    ∙ set_at (cut 16 i (bits_of (take (2 * i) m))) _ _ v i (length_cut 16 i (bits_of (take (2 * i) m)))))

-- ---- a photon
photon-set : (p : ℕ) (xs : List ℕ) → photon p xs ≡ set xs p (get_or xs p 0 + 1)
unfolding photon
photon-set p [] = refl
photon-set zero (x ∷ xs) = ap (◌∷ xs) (omega arith)
photon-set (suc p) (x ∷ xs) = ap (x ∷◌) (photon-set p xs)

pub photon-most : (p : ℕ) (xs : List ℕ) (i : ℕ) → get_or (photon p xs) i 0 ≤ get_or xs i 0 + 1
unfolding photon
photon-most p [] i = omega arith
photon-most zero (x ∷ xs) zero = omega arith
photon-most zero (x ∷ xs) (suc i) = omega arith
photon-most (suc p) (x ∷ xs) zero = omega arith
photon-most (suc p) (x ∷ xs) (suc i) = photon-most p xs i

-- ---- some counts among all
pub around-none : (place n : ℕ) (l : List ℕ) → Around place n l l
around-none place n l = record { size = refl; front = refl; back = refl }

pub around-both : {place n : ℕ} {l l' l'' : List ℕ} → Around place n l l' → Around place n l' l'' → Around place n l l''
around-both a d = record { size = d.size ∙ a.size; front = d.front ∙ a.front; back = d.back ∙ a.back }

module _ (place n : ℕ) (l : List ℕ) (p : ℕ) (inside : p < n) where
  pub get_d_part : get_or (part place n l) p 0 ≡ get_or l (place + p) 0
  get_d_part = get_or-take n (drop place l) p 0 inside ∙ get_or-drop place l p 0

  module _ (v : ℕ) where
    pub part-set : part place n (set l (place + p) v) ≡ set (part place n l) p v
    part-set = ap (take n) (drop-set-add place l p v) ∙ take-set-lt n (drop place l) p v inside

    pub around-set : Around place n l (set l (place + p) v)
    around-set = record {
      size = length-set l (place + p) v;
      front = take-set-le place l (place + p) v (omega arith);
      back = drop-set-lt (place + n) l (place + p) v (omega arith);
    }

  -- one photon more
  pub part-photon : (xs : List ℕ) → part place n l ≡ xs → part place n (set l (place + p) (get_or l (place + p) 0 + 1)) ≡ photon p xs
  part-photon xs e =
      part-set (get_or l (place + p) 0 + 1)
      ∙ ap (λ (k : ℕ). set (part place n l) p (k + 1)) (sym get_d_part)
      ∙ ap (λ (q : List ℕ). set q p (get_or q p 0 + 1)) e
      ∙ sym (photon-set p xs)

-- ---- counts that are 0
pub take-zeros : (m n : ℕ) → m ≤ n → take {A = ℕ} m (replicate n 0) ≡ replicate m 0
take-zeros zero n h = refl
take-zeros (suc m) zero h = absurd (not-suc-le-zero h)
take-zeros (suc m) (suc n) h = ap (0 ∷◌) (take-zeros m n (le_of_suc-le-suc h))

pub drop-zeros : (m n : ℕ) → drop {A = ℕ} m (replicate n 0) ≡ replicate (n - m) 0
drop-zeros zero n = ap (λ (k : ℕ). replicate k 0) (sym (sub-zero n))
drop-zeros (suc m) zero = ap (λ (k : ℕ). replicate k 0) (sym (zero-sub (suc m)))
drop-zeros (suc m) (suc n) = drop-zeros m n ∙ ap (λ (k : ℕ). replicate k 0) (sym (suc-sub-suc n m))
