-- Laws of the code's steps of reading. Assumes nothing.
use Rattle.std.specs.Prelude.{ℕ, suc, ◌+◌, ◌*◌, ◌^◌, ◌≤◌, ◌<◌, ◌≡◌, true, List, take, drop, ltb}
use Rattle.std.proofs.Common.{arith, sym, ap, ◌∙◌, subst}
use Rattle.std.proofs.Math.Path.{refl}
use Rattle.std.proofs.Math.ListN.{length, length-drop}
use Rattle.std.proofs.Math.Seq.{drop-drop, length-take-le}
use borrow.Author.Tests.{lt-ltb, le-ltb, ltb-true, eq-eqb, ne_eqb}
use Rattle.bitstream.specs.Msb.{msb_num, msb_bits_of}
use Rattle.bitstream.specs.Bits.{Below}
use Rattle.bitstream.specs.Bits.Laws.{below-take, below-drop}
use Rattle.bitstream.specs.Msb.Laws.{msb_num-lt, length-msb_bits_of, below-msb_bits_of}
use Rattle.map_format.specs.Reading.{Parse, stops, got, ◌then◌, read_field, read_pixel, Code, direct}
use Rattle.mat_map.specs.Step.{Stepped, Goes, StepReads, code_of, bit_or, four_or_more, wide_only}

-- ---- one step, and what follows it
module _ {A : Type 0} (b : List ℕ) (far top : ℕ) (p : Parse A) (v : A) (x : Stepped) where
  -- a refusal of the code's own
  pub refuses : (e : ℕ) → x.number ≡ suc e → p ≡ stops (suc e) → StepReads b far top p v x
  refuses e is h = record {
    stopped = λ n. h ∙ ap stops (sym is);
    goes = λ z. absurd (let w : suc e ≡ 0 = sym is ∙ z in omega arith);
  }

  pub gets : x.number ≡ 0 → Goes b far top p v x → StepReads b far top p v x
  gets is h = record { stopped = λ n. absurd (n is); goes = λ z. h }

-- a refused step refuses what it is a part of
pub passes : {A B : Type 0} {b : List ℕ} {far top far' top' : ℕ} (p : Parse A) (f : A → List ℕ → Parse B) {v : A} {w : B} {x : Stepped}
    → StepReads b far top p v x → (x.number ≡ 0 → ⊥) → StepReads b far' top' (p then f) w x
passes p f h n = record { stopped = λ m. ap (◌then f) (h.stopped m); goes = λ z. absurd (n z) }

-- a step that went on, and then another
pub follows : {A B : Type 0} {b : List ℕ} {far top far' top' : ℕ} (p : Parse A) (f : A → List ℕ → Parse B) {v : A} {w : B} {x y : Stepped}
    → StepReads b far top p v x → x.number ≡ 0 → StepReads b far' top' (f v (drop x.next b)) w y → StepReads b far' top' (p then f) w y
follows {b = b} {far' = far'} {top' = top'} p f {w = w} {y = y} h z g =
    subst (λ q. StepReads b far' top' q w y) (sym (ap (◌then f) (h.goes z).read)) g

pub farther : {A : Type 0} {b : List ℕ} {far top far' top' : ℕ} {p : Parse A} {v : A} {x : Stepped}
    → far ≤ far' → top ≤ top' → StepReads b far top p v x → StepReads b far' top' p v x
farther f t h = record {
  stopped = h.stopped;
  goes = λ z. record {
    read = (h.goes z).read;
    inside = (h.goes z).inside;
    near = omega (arith, (h.goes z).near);
    low = omega (arith, (h.goes z).low);
  };
}

-- ---- a field of bits
module _ (s : List ℕ) (at n : ℕ) (some : 0 < n) (x : Stepped) where
  pub field-short : true ≡ ltb (8 * length s) (at + n) → x.number ≡ 19
      → StepReads (msb_bits_of s) (at + n) (2 ^ n) (read_field n (drop at (msb_bits_of s))) x.value x
  unfolding read_field
  field-short h e =
      let short : length (drop at (msb_bits_of s)) < n =
      omega (arith, ltb-true (8 * length s) (at + n) (sym h), length-drop at (msb_bits_of s), length-msb_bits_of s) in
      rw (lt-ltb (length (drop at (msb_bits_of s))) n short) (refuses (msb_bits_of s) (at + n) (2 ^ n) _ _ x 18 e refl)

module _ (s : List ℕ) (at n v : ℕ) (enough : at + n ≤ 8 * length s) (is : v ≡ msb_num (take n (drop at (msb_bits_of s)))) where
  pub field-got : let x : Stepped = record { number = 0; value = v; next = at + n } in
      StepReads (msb_bits_of s) (at + n) (2 ^ n) (read_field n (drop at (msb_bits_of s))) v x
  unfolding read_field
  field-got =
      let there : n ≤ length (drop at (msb_bits_of s)) = omega (arith, length-drop at (msb_bits_of s), length-msb_bits_of s) in
      let long : length (take n (drop at (msb_bits_of s))) ≡ n = length-take-le n (drop at (msb_bits_of s)) there in
      let bits : Below 2 (take n (drop at (msb_bits_of s))) = below-take n _ (below-drop at _ (below-msb_bits_of s)) in
      rw (le-ltb (length (drop at (msb_bits_of s))) n there)
      (gets (msb_bits_of s) (at + n) (2 ^ n) _ v _ refl record {
        read = rw (← is, drop-drop n at (msb_bits_of s));
        inside = omega (arith, length-msb_bits_of s);
        near = omega arith;
        low = rw is (subst (λ (k : ℕ). msb_num (take n (drop at (msb_bits_of s))) < 2 ^ k) long (msb_num-lt _ bits));
      })

-- ---- a code, bit after bit
module _ (c : Code) (rest : List ℕ → Parse Code) (b : List ℕ) (at far : ℕ) (x : Stepped)
    (h : StepReads b (at + 1) 2 (read_field 1 (drop at b)) x.value x) where
  pub bit-stop : (x.number ≡ 0 → ⊥) → StepReads b far 4 (bit_or c rest (drop at b)) (code_of x.value) x
  bit-stop n = passes _ _ h n

  module _ (z : x.number ≡ 0) where
    pub bit-one : at < far → x.value ≡ 1 → (v : ℕ) → v < 4 → c ≡ code_of v → (y : Stepped)
        → y ≡ record { number = 0; value = v; next = x.next }
        → StepReads b far 4 (bit_or c rest (drop at b)) (code_of y.value) y
    bit-one f l v small e y is =
        follows _ _ h z (rw (eq-eqb x.value 1 l, is) (gets b far 4 _ _ _ refl record {
          read = rw e;
          inside = (h.goes z).inside;
          near = omega (arith, (h.goes z).near);
          low = small;
        }))

    pub bit-zero : (x.value ≡ 1 → ⊥) → (y : Stepped) (far' : ℕ) → far' ≤ far
        → StepReads b far' 4 (rest (drop x.next b)) (code_of y.value) y
        → StepReads b far 4 (bit_or c rest (drop at b)) (code_of y.value) y
    bit-zero l y far' f g = follows _ _ h z (rw (ne_eqb x.value 1 l) (farther f (omega arith) g))

-- the last bit
module _ (c : Code) (b : List ℕ) (at : ℕ) (x : Stepped) (h : StepReads b (at + 1) 2 (read_field 1 (drop at b)) x.value x) where
  pub bit-last : x.number ≡ 0 → (x.value ≡ 1 → ⊥) → (y : Stepped) → y ≡ record { number = 0; value = 3; next = x.next }
      → StepReads b (at + 1) 4 (bit_or c (got direct) (drop at b)) (code_of y.value) y
  bit-last z l y is =
      follows _ _ h z (rw (ne_eqb x.value 1 l, is) (gets b (at + 1) 4 _ _ _ refl record {
        read = refl;
        inside = (h.goes z).inside;
        near = (h.goes z).near;
        low = omega arith;
      }))

-- ---- a pixel
module _ (b : List ℕ) (at : ℕ) (x : Stepped) where
  module _ (h : StepReads b (at + 2) 4 (read_field 2 (drop at b)) x.value x) where
    pub pixel-stop : (x.number ≡ 0 → ⊥) → StepReads b (at + 22) 65536 (read_pixel (drop at b)) x.value x
    unfolding read_pixel
    pixel-stop n = passes _ _ h n

    pub pixel-two : x.number ≡ 0 → x.value < 3 → StepReads b (at + 22) 65536 (read_pixel (drop at b)) x.value x
    unfolding read_pixel
    pixel-two z l =
        follows _ _ h z (rw (lt-ltb x.value 3 l) (gets b (at + 22) 65536 _ x.value x z record {
          read = refl;
          inside = (h.goes z).inside;
          near = omega (arith, (h.goes z).near);
          low = omega arith;
        }))

    pub pixel-more : x.number ≡ 0 → 3 ≤ x.value → (y : Stepped)
        → StepReads b (x.next + 20) 65536 (four_or_more (drop x.next b)) y.value y
        → StepReads b (at + 22) 65536 (read_pixel (drop at b)) y.value y
    unfolding read_pixel
    pixel-more z l y g =
        follows _ _ h z (rw (le-ltb x.value 3 l) (farther (omega (arith, (h.goes z).near)) (omega arith) g))

  module _ (h : StepReads b (at + 4) 16 (read_field 4 (drop at b)) x.value x) where
    pub four-stop : (x.number ≡ 0 → ⊥) → StepReads b (at + 20) 65536 (four_or_more (drop at b)) x.value x
    four-stop n = passes _ _ h n

    pub four_low : x.number ≡ 0 → x.value < 15
        → let y : Stepped = record { number = 0; value = 3 + x.value; next = x.next } in
        StepReads b (at + 20) 65536 (four_or_more (drop at b)) y.value y
    four_low z l =
        follows _ _ h z (rw (lt-ltb x.value 15 l) (gets b (at + 20) 65536 _ _ _ refl record {
          read = refl;
          inside = (h.goes z).inside;
          near = omega (arith, (h.goes z).near);
          low = omega arith;
        }))

    pub four-more : x.number ≡ 0 → 15 ≤ x.value → (y : Stepped)
        → StepReads b (x.next + 16) 65536 (wide_only (drop x.next b)) y.value y
        → StepReads b (at + 20) 65536 (four_or_more (drop at b)) y.value y
    four-more z l y g =
        follows _ _ h z (rw (le-ltb x.value 15 l) (farther (omega (arith, (h.goes z).near)) (omega arith) g))

  module _ (h : StepReads b (at + 16) 65536 (read_field 16 (drop at b)) x.value x) where
    pub wide-stop : (x.number ≡ 0 → ⊥) → StepReads b (at + 16) 65536 (wide_only (drop at b)) x.value x
    wide-stop n = passes _ _ h n

    pub wide-got : x.number ≡ 0 → 17 < x.value → StepReads b (at + 16) 65536 (wide_only (drop at b)) x.value x
    wide-got z l =
        follows _ _ h z (rw (lt-ltb 17 x.value l) (gets b (at + 16) 65536 _ _ x z record {
          read = refl;
          inside = (h.goes z).inside;
          near = (h.goes z).near;
          low = (h.goes z).low;
        }))

    pub wide-bad : x.number ≡ 0 → x.value ≤ 17 → (y : Stepped) → y.number ≡ 20
        → StepReads b (at + 16) 65536 (wide_only (drop at b)) y.value y
    wide-bad z l y e =
        follows _ _ h z (rw (le-ltb 17 x.value l) (refuses b (at + 16) 65536 _ _ y 19 e refl))
