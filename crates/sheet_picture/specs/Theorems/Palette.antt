-- No two indices have one colour: a colour gives its index back. Assumes nothing.
use Rattle.std.specs.Prelude.{ℕ, zero, suc, ◌+◌, ◌-◌, ◌*◌, ◌/◌, ◌<◌, ◌≡◌, refl, Bool, true, false, cond, List, get_or, eqb}
use Rattle.std.proofs.Math.Decide.{dec_lt}
use Rattle.std.proofs.Common.{arith, sym, ap, ◌∙◌, lt-ltb, eqb-true}
use Rattle.sheet_picture.specs.Colour.{greys, first_green, below_range, above_range, bad_bias_spot, bad_pixel_spot, missing, background}
use Rattle.sheet_picture.specs.Colour.{colour, own_colour, green_colour, colour_of}

-- ---- a test at each number below n
abbrev passed : (ℕ → Bool) → ℕ → Bool
passed f zero = true
passed f (suc n) = cond (f n) (passed f n) false

both : (a b : Bool) → cond a b false ≡ true → (a ≡ true) × (b ≡ true)
both true b h = (refl, h)
both false b h = absurd (let z : ◌≡◌ {A = ℕ} 0 1 = cc in omega arith)

passed-at : (f : ℕ → Bool) (n : ℕ) → passed f n ≡ true → (i : ℕ) → i < n → f i ≡ true
passed-at f zero h i low = absurd (omega arith)
passed-at f (suc n) h i low = by (passed-at f n (both (f n) (passed f n) h).1 i) (dec_lt i n)
  where
    by : (i < n → f i ≡ true) → Dec (i < n) → f i ≡ true
    by rest (yes less) = rest less
    by rest (no more) = let is : i ≡ n = omega arith in rw is (both (f n) (passed f n) h).0

-- ---- the index of a colour
own : ℕ → ℕ → ℕ → ℕ
own r g other =
    cond (eqb r 112) (cond (eqb g 0) below_range other)
    (cond (eqb r 0) (cond (eqb g 224) above_range first_green)
    (cond (eqb r 255) (cond (eqb g 200) bad_bias_spot bad_pixel_spot)
    (cond (eqb r 32) (cond (eqb g 64) missing other)
    (cond (eqb r 250) background other))))

grey : ℕ → ℕ → ℕ → ℕ → ℕ
grey r g b other = cond (eqb r g) (cond (eqb g b) ((r * 177 + 254) / 255) other) other

index_of : List ℕ → ℕ
index_of c =
    let r : ℕ = get_or c 0 0 in
    let g : ℕ = get_or c 1 0 in
    grey r g (get_or c 2 0) (own r g (first_green + ((g - 80) * 71 + 174) / 175))

given_back : passed (λ (i : ℕ). eqb (index_of (colour_of i)) i) 256 ≡ true
unfolding index_of own grey colour_of own_colour green_colour
given_back = refl

index_back : (i : ℕ) → i < 256 → index_of (colour_of i) ≡ i
index_back i h = eqb-true (index_of (colour_of i)) i (passed-at (λ (i : ℕ). eqb (index_of (colour_of i)) i) 256 given_back i h)

pub colour-apart : (i j : ℕ) → i < 256 → j < 256 → colour_of i ≡ colour_of j → i ≡ j
colour-apart i j h k e = sym (index_back i h) ∙ ap index_of e ∙ index_back j k

-- ---- the greys
pub grey-even : (i : ℕ) → i < greys → colour_of i ≡ colour (i * 255 / 177) (i * 255 / 177) (i * 255 / 177)
unfolding colour_of
grey-even i h = rw (lt-ltb i greys h)

pub grey-lighter : (i j : ℕ) → i < j → i * 255 / 177 < j * 255 / 177
grey-lighter i j h = omega arith
