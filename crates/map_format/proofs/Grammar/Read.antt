-- The bits that stand for pixels and groups are read as these, whatever follows them; and those that are faulty are refused 20.
-- Assumes nothing.
use Prim.Native.Nat.{ℕ, zero, suc, ◌^◌, ◌≤◌, ◌<◌}
use Rattle.std.proofs.Common.{arith, ap, ◌∙◌}
use Rattle.std.specs.Prelude.{◌≡◌}
use Rattle.std.proofs.Math.Path.{refl}
use mathlib.Core.List.{List, [], ◌∷◌, ◌++◌, append_assoc}
use borrow.Author.Tests.{lt-ltb, le-ltb}
use Rattle.bitstream.specs.Msb.{msb_digits, msb_num}
use Rattle.map_format.specs.Reading.{Parse, stops, got, ◌then◌, read_field, wide_value, four_bits, two_bits, read_pixel, read_pixels, zeros}
use Rattle.map_format.specs.Reading.{one, two, direct, read_code, sum, three_or_more, read_body, read_group, read_groups}
use Rattle.map_format.specs.Reading.Laws.{read_field-append, read_field-digits, read_field-bit}
use Rattle.map_format.specs.Grammar.{sixteen_bits, PixelCode, small, middle, wide, PixelsCode, no-pixel, pixel, GroupCode, no-photon}
use Rattle.map_format.specs.Grammar.{one-photon, two-photons, three-or-more, GroupsCode, no-group, group, Begins, LowPixel}
use Rattle.map_format.specs.Grammar.{GroupFault, low-pixel, few-photons, Fault20}

-- ---- a pixel
two-ones : (r : List ℕ) → read_pixel (1 ∷ 1 ∷ r) ≡ read_field 4 r then four_bits
unfolding read_pixel msb_num
two-ones r = ap (λ (z : Parse ℕ). z then two_bits) (read_field-append 2 (1 ∷ 1 ∷ []) r refl)

six-ones : (r : List ℕ) → read_pixel (1 ∷ 1 ∷ 1 ∷ 1 ∷ 1 ∷ 1 ∷ r) ≡ read_field 16 r then wide_value
unfolding msb_num
six-ones r =
    two-ones (1 ∷ 1 ∷ 1 ∷ 1 ∷ r) ∙ ap (λ (z : Parse ℕ). z then four_bits) (read_field-append 4 (1 ∷ 1 ∷ 1 ∷ 1 ∷ []) r refl)

sixteen-read : (x : ℕ) (r : List ℕ) → x < 65536 → read_pixel (sixteen_bits x ++ r) ≡ wide_value x r
sixteen-read x r h =
    six-ones (msb_digits 16 x ++ r) ∙ ap (λ (z : Parse ℕ). z then wide_value) (read_field-digits 16 x r h)

pub pixel-read : {x : ℕ} {p : List ℕ} → PixelCode x p → (r : List ℕ) → read_pixel (p ++ r) ≡ got x r
unfolding read_pixel
pixel-read (small x h) r =
    ap (λ (z : Parse ℕ). z then two_bits) (read_field-digits 2 x r (omega arith)) ∙ rw (lt-ltb x 3 h)
pixel-read (middle f h) r =
    two-ones (msb_digits 4 f ++ r)
    ∙ ap (λ (z : Parse ℕ). z then four_bits) (read_field-digits 4 f r (omega arith))
    ∙ rw (lt-ltb f 15 h)
pixel-read (wide x above h) r = sixteen-read x r h ∙ rw (lt-ltb 17 x above)

pub low-refused : (x : ℕ) (r : List ℕ) → x ≤ 17 → read_pixel (sixteen_bits x ++ r) ≡ stops 20
low-refused x r h = sixteen-read x r (omega arith) ∙ rw (le-ltb 17 x h)

-- ---- pixels
pub pixels-read : {n : ℕ} {xs p : List ℕ} → PixelsCode n xs p → (r : List ℕ) → read_pixels n (p ++ r) ≡ got xs r
unfolding read_pixels
pixels-read no-pixel r = refl
pixels-read (pixel {p = p} {q = q} first rest) r =
    rw (append_assoc p q r, pixel-read first (q ++ r), pixels-read rest r)

-- a pixel that is refused after some of n
pixels-refused : {j : ℕ} {xs p : List ℕ} → PixelsCode j xs p → (n : ℕ) (b : List ℕ) → j < n → read_pixel b ≡ stops 20
    → read_pixels n (p ++ b) ≡ stops 20
unfolding read_pixels
pixels-refused no-pixel zero b h e = absurd (omega arith)
pixels-refused no-pixel (suc n) b h e = rw e
pixels-refused (pixel first rest) zero b h e = absurd (omega arith)
pixels-refused (pixel {p = p} {q = q} first rest) (suc n) b h e =
    rw (append_assoc p q b, pixel-read first (q ++ b), pixels-refused rest n b (omega arith) e)

pub low-pixel-refused : (n : ℕ) (b : List ℕ) → LowPixel n b → read_pixels n b ≡ stops 20
low-pixel-refused n b f =
    let rest : List ℕ = sixteen_bits f.value ++ f.after in
    rw f.bits (pixels-refused f.codes n rest f.fewer (low-refused f.value f.after f.low))

-- ---- a group's code
pub read_code-zeros : (r : List ℕ) → read_code (1 ∷ r) ≡ got zeros r
unfolding read_code
read_code-zeros r = rw (read_field-bit 1 r)

pub read_code-one : (r : List ℕ) → read_code (0 ∷ 1 ∷ r) ≡ got one r
unfolding read_code
read_code-one r = rw (read_field-bit 0 (1 ∷ r), read_field-bit 1 r)

pub read_code-two : (r : List ℕ) → read_code (0 ∷ 0 ∷ 1 ∷ r) ≡ got two r
unfolding read_code
read_code-two r = rw (read_field-bit 0 (0 ∷ 1 ∷ r), read_field-bit 0 (1 ∷ r), read_field-bit 1 r)

pub read_code-direct : (r : List ℕ) → read_code (0 ∷ 0 ∷ 0 ∷ r) ≡ got direct r
unfolding read_code
read_code-direct r = rw (read_field-bit 0 (0 ∷ 0 ∷ r), read_field-bit 0 (0 ∷ r), read_field-bit 0 r)

-- ---- groups
module _ (k : ℕ) where
  direct-read : (r : List ℕ) → read_group k (0 ∷ 0 ∷ 0 ∷ r) ≡ read_pixels (2 ^ k) r then three_or_more
  unfolding read_group read_body
  direct-read r = rw (read_code-direct r)

  pub group-read : {xs p : List ℕ} → GroupCode k xs p → (r : List ℕ) → read_group k (p ++ r) ≡ got xs r
  unfolding read_group read_body
  group-read no-photon r = rw (read_code-zeros r)
  group-read (one-photon n h) r = rw (read_code-one (msb_digits k n ++ r), read_field-digits k n r h)
  group-read (two-photons n m h g) r =
      rw (
        append_assoc (msb_digits k n) (msb_digits k m) r,
        read_code-two (msb_digits k n ++ (msb_digits k m ++ r)),
        read_field-digits k n (msb_digits k m ++ r) h,
        read_field-digits k m r g,
      )
  group-read (three-or-more xs p codes h) r =
      rw (direct-read (p ++ r), pixels-read codes r, le-ltb (sum xs) 3 h)

  pub fault-refused : {b : List ℕ} → GroupFault k b → read_group k b ≡ stops 20
  fault-refused (low-pixel b f) = rw (direct-read b, low-pixel-refused (2 ^ k) b f)
  fault-refused (few-photons b f) =
      rw (direct-read b, f.bits, pixels-read f.codes f.after, lt-ltb (sum f.counts) 3 f.few)

  pub groups-read : {n : ℕ} {xs p : List ℕ} → GroupsCode k n xs p → (r : List ℕ) → read_groups k n (p ++ r) ≡ got xs r
  unfolding read_groups
  groups-read no-group r = refl
  groups-read (group {p = p} {q = q} first rest) r =
      rw (append_assoc p q r, group-read first (q ++ r), groups-read rest r)

  groups-refused : {j : ℕ} {xs p : List ℕ} → GroupsCode k j xs p → (n : ℕ) (b : List ℕ) → j < n → read_group k b ≡ stops 20
      → read_groups k n (p ++ b) ≡ stops 20
  unfolding read_groups
  groups-refused no-group zero b h e = absurd (omega arith)
  groups-refused no-group (suc n) b h e = rw e
  groups-refused (group first rest) zero b h e = absurd (omega arith)
  groups-refused (group {p = p} {q = q} first rest) (suc n) b h e =
      rw (append_assoc p q b, group-read first (q ++ b), groups-refused rest n b (omega arith) e)

  pub fault20-refused : (n : ℕ) (b : List ℕ) → Fault20 k n b → read_groups k n b ≡ stops 20
  fault20-refused n b f = rw f.bits (groups-refused f.codes n f.rest f.fewer (fault-refused f.faulty))

  pub begins-read : (n : ℕ) (xs b r : List ℕ) → Begins k n xs b r → read_groups k n b ≡ got xs r
  begins-read n xs b r f = rw f.bits (groups-read f.codes r)
