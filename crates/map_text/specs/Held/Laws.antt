-- The laws of counts that are kept. Assumes nothing.
use Rattle.std.specs.Prelude.{ℕ, ◌+◌, ◌*◌, ◌≤◌, ◌<◌, ◌≡◌, refl, List, [], ◌∷◌, ◌++◌, length, take, ltb}
use Rattle.std.proofs.Common.{arith, sym, ap, ◌∙◌, append-nil, length-append, length-take, take_all, length-take-le, ltb-true, ltb-false}
use Rattle.std.proofs.lemmas.List.{take-append-le}
use Rattle.row_format.specs.Lists.Laws.{by-test}
use Rattle.bitstream.specs.Bits.{digits, flat, cut, bytes_of}
use Rattle.bitstream.specs.Bits.Laws.{length-flat, flat_append, cut-append, length_cut}
use Rattle.bitstream.specs.Memory.{overwritten}
use Rattle.bitstream.specs.Memory.Laws.{take-overwritten}
use Rattle.row_format.specs.Row.{pixel_bytes}
use Rattle.map_text.specs.Held.{kept, Held}

-- ---- what is kept
pub kept-all : (xs : List ℕ) → length xs ≤ 16385 → kept xs ≡ xs
unfolding kept
kept-all xs h = take_all 16385 xs h

pub length-kept : (xs : List ℕ) → length xs < 16385 → length (kept xs) ≡ length xs
length-kept xs h = ap length (kept-all xs (omega arith))

pub length-kept-most : (xs : List ℕ) → 16385 ≤ length xs → length (kept xs) ≡ 16385
unfolding kept
length-kept-most xs h = length-take-le 16385 xs h

pub kept-most : (xs : List ℕ) → length (kept xs) ≤ 16385
unfolding kept
kept-most xs = omega (arith, length-take 16385 xs)

kept_full : (xs ys : List ℕ) → 16385 ≤ length xs → kept (xs ++ ys) ≡ kept xs
unfolding kept
kept_full xs ys h = take-append-le 16385 xs ys h

-- fewer are kept exactly where there are fewer
few : (xs : List ℕ) → length (kept xs) < 16385 → length xs < 16385
few xs h =
    by-test (ltb (length xs) 16385)
    (λ t. ltb-true (length xs) 16385 t)
    (λ t. absurd (omega (arith, length-kept-most xs (ltb-false (length xs) 16385 t))))

many : (xs : List ℕ) → 16385 ≤ length (kept xs) → 16385 ≤ length xs
many xs h =
    by-test (ltb (length xs) 16385)
    (λ t.
    let less : length xs < 16385 = ltb-true (length xs) 16385 t in
    absurd (omega (arith, length-kept xs less)))
    (λ t. ltb-false (length xs) 16385 t)

-- ---- in memory
pub held_none : (m : List ℕ) → Held [] 0 m
unfolding kept cut flat
held_none m = record { size = refl; bytes = refl }

pixel_bytes-last : (xs : List ℕ) (v : ℕ) → pixel_bytes (xs ++ (v ∷ [])) ≡ pixel_bytes xs ++ bytes_of 2 (digits 16 v)
unfolding flat
pixel_bytes-last xs v =
    let count : 2 * length (xs ++ (v ∷ [])) ≡ 2 * length xs + 2 = omega (arith, length-append xs (v ∷ [])) in
    let front : length (flat 16 xs) ≡ 8 * (2 * length xs) = omega (arith, length-flat 16 xs) in
    let last : flat 16 (xs ++ (v ∷ [])) ≡ flat 16 xs ++ digits 16 v =
    flat_append 16 xs (v ∷ []) ∙ ap (flat 16 xs ++◌) (append-nil (digits 16 v)) in
    rw (count, last) (cut-append 8 (2 * length xs) 2 (flat 16 xs) (digits 16 v) front)

module _ {xs : List ℕ} {count : ℕ} {m : List ℕ} (v : ℕ) (held : Held xs count m) where
  -- one count more
  pub held_more : {m' : List ℕ} → count < 16385 → 2 * count ≤ length m → m' ≡ overwritten m (2 * count) (bytes_of 2 (digits 16 v))
      → Held (xs ++ (v ∷ [])) (count + 1) m'
  held_more {m'} h room e =
      let less : length xs < 16385 = few xs (omega (arith, held.size)) in
      let before : kept xs ≡ xs = kept-all xs (omega arith) in
      let longer : length (xs ++ (v ∷ [])) ≡ length xs + 1 = length-append xs (v ∷ []) in
      let after : kept (xs ++ (v ∷ [])) ≡ xs ++ (v ∷ []) = kept-all (xs ++ (v ∷ [])) (omega arith) in
      let place : 2 * (count + 1) ≡ 2 * count + length (bytes_of 2 (digits 16 v)) = omega (arith, length_cut 8 2 (digits 16 v)) in
      record {
        size = omega (arith, ap length after, held.size, ap length before);
        bytes =
            let front : take (2 * count) m ≡ pixel_bytes xs = held.bytes ∙ ap pixel_bytes before in
            let stored = take-overwritten m (2 * count) (bytes_of 2 (digits 16 v)) room in
            rw (after, e, place, stored, front) (sym (pixel_bytes-last xs v));
      }

  -- none where enough are kept
  pub held-full : 16385 ≤ count → Held (xs ++ (v ∷ [])) count m
  held-full h =
      let same : kept (xs ++ (v ∷ [])) ≡ kept xs = kept_full xs (v ∷ []) (many xs (omega (arith, held.size))) in
      record { size = rw same held.size; bytes = rw same held.bytes }
