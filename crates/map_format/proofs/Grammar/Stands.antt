-- What is read stands in the bits: where pixels or groups are read, the bits that were used stand for them; and where reading is
-- refused, it is 19, or 20 with a fault in the bits. Assumes nothing.
use Prim.Native.Nat.{ℕ, zero, suc, ◌^◌, ◌≤◌, ◌<◌}
use Rattle.std.proofs.Common.{arith, ◌∙◌, subst, inl, inr, take-append-drop, length-take-le, ltb-true, ltb-false}
use Rattle.std.specs.Prelude.{◌≡◌, cond, ◌⊎◌, length, take, ltb, eqb}
use Rattle.std.proofs.Math.Path.{refl, sym, ap}
use mathlib.Core.List.{List, [], ◌∷◌, ◌++◌, append_assoc}
use Rattle.bitstream.specs.Bits.{Below}
use Rattle.bitstream.specs.Bits.Laws.{below-take}
use Rattle.bitstream.specs.Msb.{msb_digits, msb_num}
use Rattle.bitstream.specs.Msb.Laws.{msb_num-lt, msb_digits-num}
use Rattle.row_format.specs.Lists.Laws.{by-test}
use Rattle.map_format.specs.Reading.{Parse, stops, got, ◌then◌, read_field, wide_value, four_bits, two_bits, read_pixel, read_pixels, Code}
use Rattle.map_format.specs.Reading.{zeros, one, two, direct, read_code, sum, photon, dark, three_or_more, read_body, read_group}
use Rattle.map_format.specs.Reading.{read_groups}
use Rattle.map_format.specs.Reading.Laws.{below_rest}
use Rattle.map_format.specs.Grammar.{sixteen_bits, PixelCode, small, middle, wide, PixelsCode, no-pixel, pixel, GroupCode, no-photon}
use Rattle.map_format.specs.Grammar.{one-photon, two-photons, three-or-more, GroupsCode, no-group, group, Begins, LowPixel}
use Rattle.map_format.specs.Grammar.{GroupFault, low-pixel, few-photons, Fault20}

-- ---- any reading
-- the bits b begin with some that stand for v, and r are those after them
record Front {A : Type 0} (P : A → List ℕ → Type 0) (b : List ℕ) (v : A) (r : List ℕ) : Type 0 where
  front : List ℕ
  code : P v front
  bits : b ≡ front ++ r

-- what reading the bits b came to: P says what stands for a value, F what is refused 20
abbrev Stands : {A : Type 0} → (A → List ℕ → Type 0) → (List ℕ → Type 0) → List ℕ → Parse A → Type 0
Stands P F b (got v r) = Front P b v r
Stands P F b (stops e) = (e ≡ 19) ⊎ ((e ≡ 20) × F b)

module _ {A B : Type 0} (P : A → List ℕ → Type 0) (F : List ℕ → Type 0) (Q : B → List ℕ → Type 0) (G : List ℕ → Type 0) where
  -- a reading and what comes of it, behind the bits c
  then-stands : (c b : List ℕ) (x : Parse A) (f : A → List ℕ → Parse B) → Below 2 b → Stands P F b x → (F b → G (c ++ b))
      → ((v : A) (p r : List ℕ) → P v p → Below 2 r → Stands Q G (c ++ (p ++ r)) (f v r)) → Stands Q G (c ++ b) (x then f)
  then-stands c b (got v r) f low s fault next =
      subst (λ (d : List ℕ). Stands Q G (c ++ d) (f v r)) (sym s.bits)
      (next v s.front r s.code (below_rest s.front r s.bits low))
  then-stands c b (stops e) f low (inl h) fault next = inl h
  then-stands c b (stops e) f low (inr h) fault next = inr (h.0, fault h.1)

-- ---- a field
abbrev NoFault : List ℕ → Type 0
NoFault b = ⊥

data FieldCode (n : ℕ) : ℕ → List ℕ → Type 0 where
  field : (x : ℕ) → x < 2 ^ n → FieldCode n x (msb_digits n x)

read_field-stands : (n : ℕ) (b : List ℕ) → Below 2 b → Stands (FieldCode n) NoFault b (read_field n b)
unfolding read_field
read_field-stands n b low =
    by-test (ltb (length b) n) (λ e. rw e (inl refl))
    (λ e.
    let size : length (take n b) ≡ n = length-take-le n b (ltb-false (length b) n e) in
    let bits : Below 2 (take n b) = below-take n b low in
    let less : msb_num (take n b) < 2 ^ n = subst (λ (m : ℕ). msb_num (take n b) < 2 ^ m) size (msb_num-lt (take n b) bits) in
    let same : msb_digits n (msb_num (take n b)) ≡ take n b =
    subst (λ (m : ℕ). msb_digits m (msb_num (take n b)) ≡ take n b) size (msb_digits-num (take n b) bits) in
    rw e (record {
      front = take n b;
      code = subst (FieldCode n (msb_num (take n b))) same (field (msb_num (take n b)) less);
      bits = sym (take-append-drop n b);
    }))

module _ {B : Type 0} (Q : B → List ℕ → Type 0) (G : List ℕ → Type 0) where
  by_field : (n : ℕ) (c : List ℕ) (f : ℕ → List ℕ → Parse B)
      → ((x : ℕ) (r : List ℕ) → x < 2 ^ n → Below 2 r → Stands Q G (c ++ (msb_digits n x ++ r)) (f x r))
      → (v : ℕ) (p r : List ℕ) → FieldCode n v p → Below 2 r → Stands Q G (c ++ (p ++ r)) (f v r)
  by_field n c f next v p r (field x h) low = next x r h low

  field-then : (n : ℕ) (c b : List ℕ) (f : ℕ → List ℕ → Parse B) → Below 2 b
      → ((x : ℕ) (r : List ℕ) → x < 2 ^ n → Below 2 r → Stands Q G (c ++ (msb_digits n x ++ r)) (f x r))
      → Stands Q G (c ++ b) (read_field n b then f)
  field-then n c b f low next =
      then-stands (FieldCode n) NoFault Q G c b (read_field n b) f low (read_field-stands n b low) (λ z. absurd z)
      (by_field n c f next)

-- ---- a pixel
record LowBits (b : List ℕ) : Type 0 where
  value : ℕ
  low : value ≤ 17
  after : List ℕ
  bits : b ≡ sixteen_bits value ++ after

wide-stands : (x : ℕ) (r : List ℕ) → x < 65536 → Stands PixelCode LowBits (sixteen_bits x ++ r) (wide_value x r)
wide-stands x r h =
    by-test (ltb 17 x)
    (λ e. rw e (record { front = sixteen_bits x; code = wide x (ltb-true 17 x e) h; bits = refl }))
    (λ e. rw e (inr (refl, record { value = x; low = ltb-false 17 x e; after = r; bits = refl })))

six-ones : (r : List ℕ) → Below 2 r → Stands PixelCode LowBits (1 ∷ 1 ∷ 1 ∷ 1 ∷ 1 ∷ 1 ∷ r) (read_field 16 r then wide_value)
six-ones r low =
    field-then PixelCode LowBits 16 (1 ∷ 1 ∷ 1 ∷ 1 ∷ 1 ∷ 1 ∷ []) r wide_value low (λ x s h below. wide-stands x s h)

four_bits-stands : (f : ℕ) (r : List ℕ) → f < 16 → Below 2 r
    → Stands PixelCode LowBits (1 ∷ 1 ∷ (msb_digits 4 f ++ r)) (four_bits f r)
unfolding msb_digits
four_bits-stands f r h low =
    by-test (ltb f 15)
    (λ e. rw e (record { front = 1 ∷ 1 ∷ msb_digits 4 f; code = middle f (ltb-true f 15 e); bits = refl }))
    (λ e.
    let last : 15 ≡ f = omega (arith, ltb-false f 15 e) in
    rw e (subst (λ (x : ℕ). Stands PixelCode LowBits (1 ∷ 1 ∷ (msb_digits 4 x ++ r)) (read_field 16 r then wide_value)) last
    (six-ones r low)))

two-ones : (r : List ℕ) → Below 2 r → Stands PixelCode LowBits (1 ∷ 1 ∷ r) (read_field 4 r then four_bits)
two-ones r low = field-then PixelCode LowBits 4 (1 ∷ 1 ∷ []) r four_bits low four_bits-stands

two_bits-stands : (x : ℕ) (r : List ℕ) → x < 4 → Below 2 r → Stands PixelCode LowBits (msb_digits 2 x ++ r) (two_bits x r)
unfolding msb_digits
two_bits-stands x r h low =
    by-test (ltb x 3)
    (λ e. rw e (record { front = msb_digits 2 x; code = small x (ltb-true x 3 e); bits = refl }))
    (λ e.
    let last : 3 ≡ x = omega (arith, ltb-false x 3 e) in
    rw e (subst (λ (y : ℕ). Stands PixelCode LowBits (msb_digits 2 y ++ r) (read_field 4 r then four_bits)) last (two-ones r low)))

read_pixel-stands : (b : List ℕ) → Below 2 b → Stands PixelCode LowBits b (read_pixel b)
unfolding read_pixel
read_pixel-stands b low = field-then PixelCode LowBits 2 [] b two_bits low two_bits-stands

-- ---- pixels
module _ (n : ℕ) where
  low_first : (b : List ℕ) → LowBits b → LowPixel (suc n) b
  low_first b f = record {
    pixels = 0;
    fewer = omega arith;
    counts = [];
    before = [];
    codes = no-pixel;
    value = f.value;
    low = f.low;
    after = f.after;
    bits = f.bits;
  }

  low-later : (x : ℕ) (p r : List ℕ) → PixelCode x p → LowPixel n r → LowPixel (suc n) (p ++ r)
  low-later x p r first f = record {
    pixels = suc f.pixels;
    fewer = omega (arith, f.fewer);
    counts = x ∷ f.counts;
    before = p ++ f.before;
    codes = pixel first f.codes;
    value = f.value;
    low = f.low;
    after = f.after;
    bits = ap (p ++◌) f.bits ∙ sym (append_assoc p f.before (sixteen_bits f.value ++ f.after));
  }

read_pixels-stands : (n : ℕ) (b : List ℕ) → Below 2 b → Stands (PixelsCode n) (LowPixel n) b (read_pixels n b)
unfolding read_pixels
read_pixels-stands zero b low = record { front = []; code = no-pixel; bits = refl }
read_pixels-stands (suc n) b low =
    then-stands PixelCode LowBits (PixelsCode (suc n)) (LowPixel (suc n)) [] b (read_pixel b)
    (λ x r. read_pixels n r then λ xs s. got (x ∷ xs) s) low (read_pixel-stands b low) (low_first n b)
    (λ x p r first below.
    then-stands (PixelsCode n) (LowPixel n) (PixelsCode (suc n)) (LowPixel (suc n)) p r (read_pixels n r)
    (λ xs s. got (x ∷ xs) s) below (read_pixels-stands n r below) (low-later n x p r first)
    (λ xs q s rest under. record { front = p ++ q; code = pixel first rest; bits = sym (append_assoc p q s) }))

-- ---- a group's code
data CodeBits : Code → List ℕ → Type 0 where
  bits1 : CodeBits zeros (1 ∷ [])
  bits01 : CodeBits one (0 ∷ 1 ∷ [])
  bits001 : CodeBits two (0 ∷ 0 ∷ 1 ∷ [])
  bits000 : CodeBits direct (0 ∷ 0 ∷ 0 ∷ [])

-- a bit is 1 or 0
module _ {A : Type 0} (Q : A → List ℕ → Type 0) (c : List ℕ) (some none : List ℕ → Parse A) where
  by_bit : (x : ℕ) (r : List ℕ) → x < 2 → Stands Q NoFault (c ++ (1 ∷ r)) (some r) → Stands Q NoFault (c ++ (0 ∷ r)) (none r)
      → Stands Q NoFault (c ++ (msb_digits 1 x ++ r)) (cond (eqb x 1) (some r) (none r))
  unfolding msb_digits
  by_bit zero r h yes' no' = no'
  by_bit (suc zero) r h yes' no' = yes'
  by_bit (suc (suc x)) r h yes' no' = absurd (omega arith)

read_code-stands : (b : List ℕ) → Below 2 b → Stands CodeBits NoFault b (read_code b)
unfolding read_code
read_code-stands b low =
    let third : List ℕ → Parse Code = λ s. read_field 1 s then λ z t. cond (eqb z 1) (got two t) (got direct t) in
    let second : List ℕ → Parse Code = λ r. read_field 1 r then λ y s. cond (eqb y 1) (got one s) (third s) in
    field-then CodeBits NoFault 1 [] b (λ x r. cond (eqb x 1) (got zeros r) (second r)) low
    (λ x r hx lowr. by_bit CodeBits [] (got zeros) second x r hx (record { front = 1 ∷ []; code = bits1; bits = refl })
    (field-then CodeBits NoFault 1 (0 ∷ []) r (λ y s. cond (eqb y 1) (got one s) (third s)) lowr
    (λ y s hy lows. by_bit CodeBits (0 ∷ []) (got one) third y s hy (record { front = 0 ∷ 1 ∷ []; code = bits01; bits = refl })
    (field-then CodeBits NoFault 1 (0 ∷ 0 ∷ []) s (λ z t. cond (eqb z 1) (got two t) (got direct t)) lows
    (λ z t hz lowt. by_bit CodeBits (0 ∷ 0 ∷ []) (got two) (got direct) z t hz
    (record { front = 0 ∷ 0 ∷ 1 ∷ []; code = bits001; bits = refl })
    (record { front = 0 ∷ 0 ∷ 0 ∷ []; code = bits000; bits = refl }))))))

-- ---- groups
module _ (k : ℕ) where
  three_or_more-stands : (xs p r : List ℕ) → PixelsCode (2 ^ k) xs p
      → Stands (GroupCode k) (GroupFault k) (0 ∷ 0 ∷ 0 ∷ (p ++ r)) (three_or_more xs r)
  three_or_more-stands xs p r codes =
      by-test (ltb (sum xs) 3)
      (λ e. rw e (inr (
        refl,
        few-photons (p ++ r) (record {
          counts = xs;
          before = p;
          codes = codes;
          few = ltb-true (sum xs) 3 e;
          after = r;
          bits = refl;
        }),
      )))
      (λ e. rw e (record {
        front = 0 ∷ 0 ∷ 0 ∷ p;
        code = three-or-more xs p codes (ltb-false (sum xs) 3 e);
        bits = refl;
      }))

  read_body-stands : (c : Code) (p r : List ℕ) → CodeBits c p → Below 2 r
      → Stands (GroupCode k) (GroupFault k) (p ++ r) (read_body k c r)
  unfolding read_body
  read_body-stands c p r bits1 low = record { front = 1 ∷ []; code = no-photon; bits = refl }
  read_body-stands c p r bits01 low =
      field-then (GroupCode k) (GroupFault k) k (0 ∷ 1 ∷ []) r (λ n s. got (photon n (dark k)) s) low
      (λ n s h under. record { front = 0 ∷ 1 ∷ msb_digits k n; code = one-photon n h; bits = refl })
  read_body-stands c p r bits001 low =
      field-then (GroupCode k) (GroupFault k) k (0 ∷ 0 ∷ 1 ∷ []) r
      (λ n s. read_field k s then λ m t. got (photon m (photon n (dark k))) t) low
      (λ n s h lows. field-then (GroupCode k) (GroupFault k) k (0 ∷ 0 ∷ 1 ∷ msb_digits k n) s
      (λ m t. got (photon m (photon n (dark k))) t) lows
      (λ m t g lowt. record {
        front = 0 ∷ 0 ∷ 1 ∷ (msb_digits k n ++ msb_digits k m);
        code = two-photons n m h g;
        bits = ap (λ (l : List ℕ). 0 ∷ 0 ∷ 1 ∷ l) (sym (append_assoc (msb_digits k n) (msb_digits k m) t));
      }))
  read_body-stands c p r bits000 low =
      then-stands (PixelsCode (2 ^ k)) (LowPixel (2 ^ k)) (GroupCode k) (GroupFault k) (0 ∷ 0 ∷ 0 ∷ []) r
      (read_pixels (2 ^ k) r) three_or_more low (read_pixels-stands (2 ^ k) r low) (low-pixel r)
      (λ xs q s codes under. three_or_more-stands xs q s codes)

  read_group-stands : (b : List ℕ) → Below 2 b → Stands (GroupCode k) (GroupFault k) b (read_group k b)
  unfolding read_group
  read_group-stands b low =
      then-stands CodeBits NoFault (GroupCode k) (GroupFault k) [] b (read_code b) (read_body k) low (read_code-stands b low)
      (λ z. absurd z) (λ c p r bits under. read_body-stands c p r bits under)

  fault-first : (n : ℕ) (b : List ℕ) → GroupFault k b → Fault20 k (suc n) b
  fault-first n b f = record {
    groups = 0;
    fewer = omega arith;
    counts = [];
    before = [];
    codes = no-group;
    rest = b;
    bits = refl;
    faulty = f;
  }

  fault-later : (n : ℕ) (xs p r : List ℕ) → GroupCode k xs p → Fault20 k n r → Fault20 k (suc n) (p ++ r)
  fault-later n xs p r first f = record {
    groups = suc f.groups;
    fewer = omega (arith, f.fewer);
    counts = xs ++ f.counts;
    before = p ++ f.before;
    codes = group first f.codes;
    rest = f.rest;
    bits = ap (p ++◌) f.bits ∙ sym (append_assoc p f.before f.rest);
    faulty = f.faulty;
  }

  read_groups-stands : (n : ℕ) (b : List ℕ) → Below 2 b → Stands (GroupsCode k n) (Fault20 k n) b (read_groups k n b)
  unfolding read_groups
  read_groups-stands zero b low = record { front = []; code = no-group; bits = refl }
  read_groups-stands (suc n) b low =
      then-stands (GroupCode k) (GroupFault k) (GroupsCode k (suc n)) (Fault20 k (suc n)) [] b (read_group k b)
      (λ xs r. read_groups k n r then λ ys s. got (xs ++ ys) s) low (read_group-stands b low) (fault-first n b)
      (λ xs p r first below.
      then-stands (GroupsCode k n) (Fault20 k n) (GroupsCode k (suc n)) (Fault20 k (suc n)) p r (read_groups k n r)
      (λ ys s. got (xs ++ ys) s) below (read_groups-stands n r below) (fault-later n xs p r first)
      (λ ys q s rest under. record { front = p ++ q; code = group first rest; bits = sym (append_assoc p q s) }))

  -- ---- and so
  module _ (n : ℕ) (b : List ℕ) (low : Below 2 b) where
    pub read-begins : (xs r : List ℕ) → read_groups k n b ≡ got xs r → Begins k n xs b r
    read-begins xs r e =
        let f = subst (Stands (GroupsCode k n) (Fault20 k n) b) e (read_groups-stands n b low) in
        record { front = f.front; codes = f.code; bits = f.bits }

    pub refused-number : (e : ℕ) → read_groups k n b ≡ stops e → (e ≡ 19) ⊎ ((e ≡ 20) × Fault20 k n b)
    refused-number e h = subst (Stands (GroupsCode k n) (Fault20 k n) b) h (read_groups-stands n b low)
