-- Of the bits that stand for something or are faulty none can be left away: every proper part of them is refused 19. Assumes nothing.
use Prim.Native.Nat.{ℕ, zero, suc, ◌+◌, ◌-◌, ◌^◌, ◌<◌}
use Rattle.std.proofs.Common.{arith, sym, ap, ◌∙◌, subst, length-append, length-take-le, ltb-true, ltb-false, lt-ltb}
use Rattle.std.specs.Prelude.{◌≡◌, refl, length, take, ltb, eqb, cond}
use mathlib.Core.List.{List, [], ◌∷◌, ◌++◌, append_assoc}
use Rattle.std.proofs.lemmas.List.{take-append-le}
use Rattle.std.proofs.Math.Seq.{take-append-add}
use Rattle.bitstream.specs.Msb.{msb_digits, msb_num}
use Rattle.bitstream.specs.Msb.Laws.{length-msb_digits}
use Rattle.row_format.specs.Lists.Laws.{by-test}
use Rattle.map_format.specs.Reading.{Parse, stops, got, ◌then◌, read_field, wide_value, four_bits, two_bits, read_pixel, read_pixels, Code}
use Rattle.map_format.specs.Reading.{zeros, one, two, direct, read_code, photon, dark, three_or_more, read_body, read_group, read_groups}
use Rattle.map_format.specs.Reading.Laws.{read_field-append, read_field-digits, read_field-bit}
use Rattle.map_format.specs.Grammar.{sixteen_bits, PixelCode, small, middle, wide, PixelsCode, no-pixel, pixel, GroupCode, no-photon}
use Rattle.map_format.specs.Grammar.{one-photon, two-photons, three-or-more, GroupsCode, no-group, group, GroupFault, low-pixel}
use Rattle.map_format.specs.Grammar.{few-photons, fault_after, Fault20}
use Rattle.map_format.proofs.Grammar.Read.{pixel-read, read_code-zeros, read_code-one, read_code-two, read_code-direct, group-read}

-- ---- any reading f: it is refused 19 on every proper part of p
abbrev Exact : {A : Type 0} → (List ℕ → Parse A) → List ℕ → Type 0
Exact f p = (j : ℕ) → j < length p → f (take j p) ≡ stops 19

nothing-exact : {A : Type 0} (f : List ℕ → Parse A) → Exact f []
nothing-exact f j h = absurd (omega arith)

module _ {A B : Type 0} (f : List ℕ → Parse A) (g : A → List ℕ → Parse B) where
  first-exact : (p : List ℕ) → Exact f p → Exact (λ b. f b then g) p
  first-exact p exact j h = rw (exact j h)

  -- p is read as v, and g goes on
  then-exact : (v : A) (p q : List ℕ) → Exact f p → ((r : List ℕ) → f (p ++ r) ≡ got v r) → Exact (g v) q
      → Exact (λ b. f b then g) (p ++ q)
  then-exact v p q exact read rest j h =
      by-test (ltb j (length p))
      (λ e. let less = ltb-true j (length p) e in rw (take-append-le j p q (omega arith), exact j less))
      (λ e.
      let enough = ltb-false j (length p) e in
      let place : length p + (j - length p) ≡ j = omega arith in
      let part : take j (p ++ q) ≡ p ++ take (j - length p) q =
      subst (λ (i : ℕ). take i (p ++ q) ≡ p ++ take (j - length p) q) place (take-append-add p q (j - length p)) in
      rw (part, read (take (j - length p) q)) (rest (j - length p) (omega (arith, length-append p q))))

field-exact : (n : ℕ) (p : List ℕ) → length p ≡ n → Exact (read_field n) p
unfolding read_field
field-exact n p size j h =
    rw (lt-ltb (length (take j p)) n (omega (arith, length-take-le j p (omega arith))))

digits-exact : (n x : ℕ) → Exact (read_field n) (msb_digits n x)
digits-exact n x = field-exact n (msb_digits n x) (length-msb_digits n x)

-- ---- pixels
two-ones-exact : (q : List ℕ) → Exact (λ b. read_field 4 b then four_bits) q → Exact read_pixel (1 ∷ 1 ∷ q)
unfolding read_pixel msb_num
two-ones-exact q =
    then-exact (read_field 2) two_bits 3 (1 ∷ 1 ∷ []) q (field-exact 2 (1 ∷ 1 ∷ []) refl)
    (λ r. read_field-append 2 (1 ∷ 1 ∷ []) r refl)

sixteen-exact : (x : ℕ) → Exact read_pixel (sixteen_bits x)
unfolding msb_num
sixteen-exact x =
    two-ones-exact (1 ∷ 1 ∷ 1 ∷ 1 ∷ msb_digits 16 x)
    (then-exact (read_field 4) four_bits 15 (1 ∷ 1 ∷ 1 ∷ 1 ∷ []) (msb_digits 16 x) (field-exact 4 (1 ∷ 1 ∷ 1 ∷ 1 ∷ []) refl)
    (λ r. read_field-append 4 (1 ∷ 1 ∷ 1 ∷ 1 ∷ []) r refl)
    (first-exact (read_field 16) wide_value (msb_digits 16 x) (digits-exact 16 x)))

pixel-exact : {x : ℕ} {p : List ℕ} → PixelCode x p → Exact read_pixel p
unfolding read_pixel
pixel-exact (small x h) = first-exact (read_field 2) two_bits (msb_digits 2 x) (digits-exact 2 x)
pixel-exact (middle f h) =
    two-ones-exact (msb_digits 4 f) (first-exact (read_field 4) four_bits (msb_digits 4 f) (digits-exact 4 f))
pixel-exact (wide x above h) = sixteen-exact x

-- one more pixel in front
pixel-more : (n x : ℕ) (p q : List ℕ) → PixelCode x p → Exact (read_pixels n) q → Exact (read_pixels (suc n)) (p ++ q)
unfolding read_pixels
pixel-more n x p q first rest =
    then-exact read_pixel (λ y r. read_pixels n r then λ ys s. got (y ∷ ys) s) x p q (pixel-exact first) (pixel-read first)
    (first-exact (read_pixels n) (λ ys s. got (x ∷ ys) s) q rest)

pixels-exact : {n : ℕ} {xs p : List ℕ} → PixelsCode n xs p → Exact (read_pixels n) p
pixels-exact no-pixel = nothing-exact (read_pixels 0)
pixels-exact (pixel {n = n} {x = x} {p = p} {q = q} first rest) = pixel-more n x p q first (pixels-exact rest)

-- some pixels, and a 16-bit one after them
low-exact : {i : ℕ} {xs p : List ℕ} → PixelsCode i xs p → (n x : ℕ) → i < n → Exact (read_pixels n) (p ++ sixteen_bits x)
unfolding read_pixels
low-exact no-pixel zero x h = absurd (omega arith)
low-exact no-pixel (suc n) x h =
    first-exact read_pixel (λ y r. read_pixels n r then λ ys s. got (y ∷ ys) s) (sixteen_bits x) (sixteen-exact x)
low-exact (pixel first rest) zero x h = absurd (omega arith)
low-exact (pixel {x = y} {p = p} {q = q} first rest) (suc n) x h =
    rw (append_assoc p q (sixteen_bits x)) (pixel-more n y p (q ++ sixteen_bits x) first (low-exact rest n x (omega arith)))

-- ---- a group's code
bit-exact : {A : Type 0} (g : ℕ → List ℕ → Parse A) (x : ℕ) (q : List ℕ) → Exact (g x) q
    → Exact (λ b. read_field 1 b then g) (x ∷ q)
bit-exact g x q rest =
    then-exact (read_field 1) g x (x ∷ []) q (field-exact 1 (x ∷ []) refl) (λ r. read_field-bit x r) rest

abbrev third_bit : ℕ → List ℕ → Parse Code
third_bit z t = cond (eqb z 1) (got two t) (got direct t)

abbrev second_bit : ℕ → List ℕ → Parse Code
second_bit y s = cond (eqb y 1) (got one s) (read_field 1 s then third_bit)

abbrev first_bit : ℕ → List ℕ → Parse Code
first_bit x r = cond (eqb x 1) (got zeros r) (read_field 1 r then second_bit)

code-exact : (p : List ℕ) → Exact (λ b. read_field 1 b then first_bit) p → Exact read_code p
unfolding read_code
code-exact p exact = exact

-- ---- groups
module _ (k : ℕ) where
  body-exact : (c : Code) (p q : List ℕ) → Exact read_code p → ((r : List ℕ) → read_code (p ++ r) ≡ got c r)
      → Exact (read_body k c) q → Exact (read_group k) (p ++ q)
  unfolding read_group
  body-exact c p q exact read rest = then-exact read_code (read_body k) c p q exact read rest

  direct-exact : (q : List ℕ) → Exact (read_pixels (2 ^ k)) q → Exact (read_group k) (0 ∷ 0 ∷ 0 ∷ q)
  unfolding read_body
  direct-exact q rest =
      body-exact direct (0 ∷ 0 ∷ 0 ∷ []) q
      (code-exact (0 ∷ 0 ∷ 0 ∷ []) (bit-exact first_bit 0 (0 ∷ 0 ∷ []) (bit-exact second_bit 0 (0 ∷ [])
      (bit-exact third_bit 0 [] (nothing-exact (third_bit 0))))))
      read_code-direct (first-exact (read_pixels (2 ^ k)) three_or_more q rest)

  group-exact : {xs p : List ℕ} → GroupCode k xs p → Exact (read_group k) p
  unfolding read_body
  group-exact no-photon =
      body-exact zeros (1 ∷ []) [] (code-exact (1 ∷ []) (bit-exact first_bit 1 [] (nothing-exact (first_bit 1))))
      read_code-zeros (nothing-exact (read_body k zeros))
  group-exact (one-photon n h) =
      body-exact one (0 ∷ 1 ∷ []) (msb_digits k n)
      (code-exact (0 ∷ 1 ∷ []) (bit-exact first_bit 0 (1 ∷ []) (bit-exact second_bit 1 [] (nothing-exact (second_bit 1)))))
      read_code-one (first-exact (read_field k) (λ i r. got (photon i (dark k)) r) (msb_digits k n) (digits-exact k n))
  group-exact (two-photons n m h g) =
      body-exact two (0 ∷ 0 ∷ 1 ∷ []) (msb_digits k n ++ msb_digits k m)
      (code-exact (0 ∷ 0 ∷ 1 ∷ []) (bit-exact first_bit 0 (0 ∷ 1 ∷ []) (bit-exact second_bit 0 (1 ∷ [])
      (bit-exact third_bit 1 [] (nothing-exact (third_bit 1))))))
      read_code-two
      (then-exact (read_field k) (λ i r. read_field k r then λ j s. got (photon j (photon i (dark k))) s) n (msb_digits k n)
      (msb_digits k m) (digits-exact k n) (λ r. read_field-digits k n r h)
      (first-exact (read_field k) (λ j s. got (photon j (photon n (dark k))) s) (msb_digits k m) (digits-exact k m)))
  group-exact (three-or-more xs p codes h) = direct-exact p (pixels-exact codes)

  -- a faulty group, without what follows it
  faulty-exact : (b : List ℕ) (f : GroupFault k b) → (q : List ℕ) × (b ≡ q ++ fault_after f) × Exact (read_group k) q
  faulty-exact b (low-pixel c f) = (
    0 ∷ 0 ∷ 0 ∷ (f.before ++ sixteen_bits f.value),
    rw f.bits (ap (λ (l : List ℕ). 0 ∷ 0 ∷ 0 ∷ l) (sym (append_assoc f.before (sixteen_bits f.value) f.after))),
    direct-exact (f.before ++ sixteen_bits f.value) (low-exact f.codes (2 ^ k) f.value f.fewer),
  )
  faulty-exact b (few-photons c f) =
      (0 ∷ 0 ∷ 0 ∷ f.before, rw f.bits, direct-exact f.before (pixels-exact f.codes))

  groups-exact : {i : ℕ} {xs p : List ℕ} → GroupsCode k i xs p → (n : ℕ) (q : List ℕ) → i < n → Exact (read_group k) q
      → Exact (read_groups k n) (p ++ q)
  unfolding read_groups
  groups-exact no-group zero q h last = absurd (omega arith)
  groups-exact no-group (suc n) q h last =
      first-exact (read_group k) (λ xs r. read_groups k n r then λ ys s. got (xs ++ ys) s) q last
  groups-exact (group first rest) zero q h last = absurd (omega arith)
  groups-exact (group {xs = xs} {p = p} {q = p'} first rest) (suc n) q h last =
      rw (append_assoc p p' q)
      (then-exact (read_group k) (λ ys r. read_groups k n r then λ zs s. got (ys ++ zs) s) xs p (p' ++ q) (group-exact first)
      (group-read k first)
      (first-exact (read_groups k n) (λ zs s. got (xs ++ zs) s) (p' ++ q) (groups-exact rest n q (omega arith) last)))

  -- so 20 needs every bit of the fault
  pub fault20-exact : (n : ℕ) (b : List ℕ) (f : Fault20 k n b) (j : ℕ) → j + length (fault_after f.faulty) < length b
      → read_groups k n (take j b) ≡ stops 19
  fault20-exact n b f j h =
      let after = fault_after f.faulty in
      let found = faulty-exact f.rest f.faulty in
      let q = found.0 in
      let p = f.before ++ q in
      let bits : b ≡ f.before ++ q ++ after =
      f.bits ∙ ap (f.before ++◌) found.1 ∙ sym (append_assoc f.before q after) in
      let size : length b ≡ length (f.before ++ q) + length after = ap length bits ∙ length-append (f.before ++ q) after in
      let part : take j b ≡ take j p = ap (take j) bits ∙ take-append-le j p after (omega arith) in
      rw part (groups-exact f.codes n q f.fewer found.2 j (omega arith))
