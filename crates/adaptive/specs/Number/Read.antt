-- Laws of reading and writing, for every lawful type of number. Assumes nothing.
use Rattle.std.specs.Prelude.{ℕ, suc, ◌-◌, ◌*◌, ◌%◌, ◌^◌, ◌≤◌, ◌<◌, Bool, length}
use Rattle.std.proofs.Common.{le_refl, arith, sym, ◌∙◌, subst, ⊎_elim}
use Rattle.std.proofs.Math.Path.{◌≡◌, refl, ap}
use Rattle.std.proofs.Math.Bool.{true, false, cond}
use mathlib.Core.List.{List, ◌++◌}
use Rattle.std.proofs.Math.ListN.{take}
use Rattle.adaptive.specs.Number.{NumberFront, whole, fault, front, NumberType, NumberReading, accepted, rejected, number_judged, read_as, data_of, data_bytes, form_of, fewest, shortest}
use Rattle.adaptive.specs.Number.Laws.{front-data_bytes, front-fair, front-take, Fair, FoundNumber, length-data_bytes, later_bytes-le, later_bytes-least, later_bytes-holds, holds_more}
use Rattle.adaptive.specs.Number.Own.{Bytes, data_bytes-mod, whole-own}
use Rattle.adaptive.specs.Number.Lawful.{LawfulType}

-- an accepted reading taken apart
pub record AcceptedNumber {A : Type 0} (K : NumberType A) (s : List ℕ) (v : A) (n : ℕ) : Type 0 where
  pub bytes : List ℕ
  pub found : front 5 s ≡ whole bytes
  pub value : K.value_of bytes ≡ v
  pub used : length bytes ≡ n
  pub range : K.in_range v ≡ true

-- the number of a refusal is in P
abbrev pub RejectedIn : {A : Type 0} → (ℕ → Type 0) → NumberReading A → Type 0
RejectedIn P (accepted v n) = Unit {0}
RejectedIn P (rejected e) = P e

module _ {A : Type 0} (K : NumberType A) where
  pub read_as-accepted : (s : List ℕ) (v : A) (n : ℕ) → read_as K s ≡ accepted v n → AcceptedNumber K s v n
  unfolding read_as
  read_as-accepted s v n e = by_front (front 5 s) refl e
    where
      by-range : (bs : List ℕ) → front 5 s ≡ whole bs → (t : Bool) → K.in_range (K.value_of bs) ≡ t
          → cond t (accepted (K.value_of bs) (length bs)) (rejected 13) ≡ accepted v n → AcceptedNumber K s v n
      by-range bs f true r e = record { bytes = bs; found = f; value = cc; used = cc; range = cc }
      by-range bs f false r e = let z : ◌≡◌ {A = ℕ} 0 1 = cc in absurd (omega arith)

      by_front : (f : NumberFront) → front 5 s ≡ f → number_judged K f ≡ accepted v n → AcceptedNumber K s v n
      by_front (whole bs) f e = by-range bs f (K.in_range (K.value_of bs)) refl e
      by_front (fault x) f e = let z : ◌≡◌ {A = ℕ} 0 1 = cc in absurd (omega arith)

  pub accepted-found : (s : List ℕ) (v : A) (n : ℕ) (a : AcceptedNumber K s v n) → FoundNumber 5 s a.bytes
  accepted-found s v n a = subst (Fair 5 s) a.found (front-fair 5 s)

  -- what is accepted is accepted with anything else after its bytes
  pub read_as-local : (s : List ℕ) (v : A) (n : ℕ) → read_as K s ≡ accepted v n
      → (rest : List ℕ) → read_as K (take n s ++ rest) ≡ accepted v n
  unfolding read_as
  read_as-local s v n e rest =
      let a = read_as-accepted s v n e in
      let f = accepted-found s v n a in
      let own : take n s ≡ a.bytes = ap (λ (m : ℕ). take m s) (sym a.used) ∙ f.same in
      rw (own, f.local rest) (rw (a.value, a.range, a.used))

  -- it uses one to five of the bytes that are there
  pub read_as-used : (s : List ℕ) (v : A) (n : ℕ) → read_as K s ≡ accepted v n → (0 < n) × (n ≤ 5) × (n ≤ length s)
  read_as-used s v n e =
      let a = read_as-accepted s v n e in
      let f = accepted-found s v n a in
      (rw (← a.used) f.some, rw (← a.used) f.within, rw (← a.used) f.there)

  -- to show something of the number of a refusal, show it of 12 and 13
  module _ (P : ℕ → Type 0) (p12 : P 12) (p13 : P 13) where
    range-in : (t : Bool) (v : A) (n : ℕ) → RejectedIn P (cond t (accepted v n) (rejected 13))
    range-in true v n = tt
    range-in false v n = p13

    number_judged-in : (s : List ℕ) (f : NumberFront) → Fair 5 s f → RejectedIn P (number_judged K f)
    number_judged-in s (whole bs) p = range-in (K.in_range (K.value_of bs)) (K.value_of bs) (length bs)
    number_judged-in s (fault e) p = ⊎_elim (λ q. rw q p12) (λ q. rw q p13) p

    pub read_as-in : (s : List ℕ) → RejectedIn P (read_as K s)
    unfolding read_as
    read_as-in s = number_judged-in s (front 5 s) (front-fair 5 s)

  -- it is not 0
  pub read_as-rejected : (s : List ℕ) (x : ℕ) → read_as K s ≡ rejected x → 0 < x
  read_as-rejected s x e = subst (RejectedIn (λ k. 0 < k)) e (read_as-in (λ k. 0 < k) (omega arith) (omega arith) s)

  -- nor is any byte after the fifth looked at, whatever the answer
  pub read_as-take : (s : List ℕ) → read_as K (take 5 s) ≡ read_as K s
  unfolding read_as
  read_as-take s = ap (number_judged K) (front-take 5 s)

  -- ---- the shortest form
  pub data_bytes-shortest : {k d : ℕ} (v : A) → k ≡ fewest K v → d ≡ K.data_for v → data_bytes k d ≡ shortest K v
  unfolding shortest
  data_bytes-shortest v ek ed = cc

  pub length-shortest : (v : A) → length (shortest K v) ≡ suc (fewest K v)
  unfolding shortest
  length-shortest v = length-data_bytes (fewest K v) (K.data_for v)

  pub fewest-le : (v : A) → fewest K v ≤ 4
  fewest-le v = later_bytes-le 4 K.first (K.magnitude v)

  pub shortest-count : (v : A) → (0 < length (shortest K v)) × (length (shortest K v) ≤ 5)
  shortest-count v = omega (arith, length-shortest v, fewest-le v)

  module _ (L : LawfulType K) where
    -- a form with room for the value is read as the value
    pub read_as-form : (k : ℕ) (v : A) → k ≤ 4 → K.magnitude v < K.first * 128 ^ k → K.in_range v ≡ true
        → (rest : List ℕ) → read_as K (form_of K k v ++ rest) ≡ accepted v (suc k)
    unfolding read_as
    read_as-form k v hk h r rest =
        rw (front-data_bytes k (K.data_for v) rest hk) (rw (L.form-value k v hk h, r, length-data_bytes k (K.data_for v)))

    -- every form from the shortest to five bytes has that room
    pub read_as-longer : (k : ℕ) (v : A) → fewest K v ≤ k → k ≤ 4 → K.in_range v ≡ true
        → (rest : List ℕ) → read_as K (form_of K k v ++ rest) ≡ accepted v (suc k)
    read_as-longer k v h hk r rest =
        let held = later_bytes-holds 4 K.first (K.magnitude v) (L.range-fits v r) in
        read_as-form k v hk (holds_more K.first (K.magnitude v) h held) r rest

    pub read_as-shortest : (v : A) → K.in_range v ≡ true
        → (rest : List ℕ) → read_as K (shortest K v ++ rest) ≡ accepted v (length (shortest K v))
    unfolding shortest
    read_as-shortest v r rest =
        read_as-longer (fewest K v) v (le_refl (fewest K v)) (fewest-le v) r rest
        ∙ ap (accepted v) (sym (length-shortest v))

    -- and nothing shorter is read as the value
    pub shortest-least : (s : List ℕ) (v : A) (n : ℕ) → read_as K s ≡ accepted v n → length (shortest K v) ≤ n
    shortest-least s v n e =
        let a = read_as-accepted s v n e in
        let some : 0 < n = (read_as-used s v n e).0 in
        let count : length a.bytes ≡ suc (n - 1) = omega (arith, a.used) in
        let fits : K.magnitude v < K.first * 128 ^ (n - 1) =
        rw a.value at (L.value-fits a.bytes (n - 1) count) in
        let least : fewest K v ≤ n - 1 = later_bytes-least 4 K.first (K.magnitude v) (n - 1) fits in
        rw (length-shortest v) (omega arith)

    -- what is accepted, of bytes, is the form of the value in that many bytes
    pub read_as-own : (s : List ℕ) (v : A) (n : ℕ) → Bytes s → read_as K s ≡ accepted v n → take n s ≡ form_of K (n - 1) v
    read_as-own s v n h e =
        let a = read_as-accepted s v n e in
        let f = accepted-found s v n a in
        let k : n - 1 ≤ 4 = omega (arith, a.used, f.within) in
        let count : length a.bytes ≡ suc (n - 1) = omega (arith, a.used, f.some) in
        let first : take n s ≡ a.bytes = ap (λ (m : ℕ). take m s) (sym a.used) ∙ f.same in
        let own : a.bytes ≡ data_bytes (n - 1) (data_of a.bytes) =
        rw a.used at (whole-own 5 s a.bytes h a.found) in
        let bits : K.data_for v % 128 ^ suc (n - 1) ≡ data_of a.bytes =
        rw a.value at (L.value-data a.bytes (n - 1) count k) in
        first ∙ own ∙ ap (data_bytes (n - 1)) (sym bits) ∙ data_bytes-mod (n - 1) (K.data_for v)
