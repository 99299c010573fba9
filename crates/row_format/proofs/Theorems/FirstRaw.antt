-- Document 02, ticket 5: a row's first height, where it has one, is raw; and what "first height" says of items. Assumes nothing.
use Rattle.std.specs.Prelude.{ℕ, ◌≤◌, ◌≡◌, refl, true, false, List, [], ◌∷◌, ◌++◌, ◌⊎◌, ◌↔◌, ltb, eqb}
use Rattle.std.proofs.Common.{arith, ap, ◌∙◌, inl, inr, ltb-false, eqb-true}
use Rattle.std.proofs.lemmas.Bool.{eqb-false}
use Rattle.row_format.specs.Lists.{any}
use Rattle.row_format.specs.Lists.Laws.{by-test, any-false-head, any-false-tail}
use Rattle.row_format.specs.Table.{has_difference}
use Rattle.row_format.specs.Row.{Item, difference, bad_pixel, bad_bias, escape, State, fresh, past, difference_to, item_for, pixel_of, after, after_all, item_bits, items_for, bits, row_bits}
use Rattle.row_format.specs.Row.Laws.{by_difference-first, by_difference-past, item_for-difference, item_for-escape, bits-append}
use Rattle.row_format.specs.FirstHeight.{AllBad, FirstHeight, AllBadItems}

-- ---- every row has a first height, or none
one_more : (p : ℕ) (ps : List ℕ) → (p ≡ 4095) ⊎ (p ≡ 4094) → AllBad ps ⊎ FirstHeight ps → AllBad (p ∷ ps) ⊎ FirstHeight (p ∷ ps)
one_more p ps bad (inl all) = inl (bad, all)
one_more p ps bad (inr f) = inr record {
  before = p ∷ f.before;
  height = f.height;
  rest = f.rest;
  row = ap (p ∷◌) f.row;
  bad = (bad, f.bad);
  most = f.most;
}

pub heights-first : (ps : List ℕ) → any (ltb 4095) ps ≡ false → AllBad ps ⊎ FirstHeight ps
heights-first [] e = inl tt
heights-first (p ∷ ps) e =
    let rest = heights-first ps (any-false-tail (ltb 4095) p ps e) in
    let most = ltb-false 4095 p (any-false-head (ltb 4095) p ps e) in
    by-test (eqb p 4095)
    (λ pixel. one_more p ps (inl (eqb-true p 4095 pixel)) rest)
    (λ no-pixel. by-test (eqb p 4094)
    (λ bias. one_more p ps (inr (eqb-true p 4094 bias)) rest)
    (λ no-bias. inr record {
      before = [];
      height = p;
      rest = ps;
      row = refl;
      bad = tt;
      most = omega (arith, eqb-false p 4095 no-pixel, eqb-false p 4094 no-bias);
    }))

-- ---- a row's first height is raw
-- a bad pixel or a bad bias leaves the state as it is
pub after-bad : (t : List ℕ) (s : State) (p : ℕ) → (p ≡ 4095) ⊎ (p ≡ 4094) → after s (item_for t s p) ≡ s
unfolding item_for
after-bad t s p (inl e) = rw e
after-bad t s p (inr e) = rw e

items_for-bad : (t bs ps : List ℕ) → AllBad bs → items_for t fresh (bs ++ ps) ≡ items_for t fresh bs ++ items_for t fresh ps
unfolding items_for
items_for-bad t [] ps bad = refl
items_for-bad t (b ∷ bs) ps bad =
    rw (after-bad t fresh b bad.0) (ap (item_for t fresh b ∷◌) (items_for-bad t bs ps bad.1))

pub first-raw : (t : List ℕ) (h : ℕ) → h ≤ 4093 → item_for t fresh h ≡ escape h
first-raw t h most = item_for-escape t fresh h most (by_difference-first t fresh h refl)

items_for-height : (t : List ℕ) (h : ℕ) (ps : List ℕ) → h ≤ 4093 → items_for t fresh (h ∷ ps) ≡ escape h ∷ items_for t (past h) ps
unfolding items_for
items_for-height t h ps most = rw (first-raw t h most)

pub items_for-first : (t ps : List ℕ) (f : FirstHeight ps)
    → items_for t fresh ps ≡ items_for t fresh f.before ++ (escape f.height ∷ items_for t (past f.height) f.rest)
items_for-first t ps f =
    ap (items_for t fresh) f.row
    ∙ items_for-bad t f.before (f.height ∷ f.rest) f.bad
    ∙ ap (items_for t fresh f.before ++◌) (items_for-height t f.height f.rest f.most)

pub row_bits-first : (t ps : List ℕ) (f : FirstHeight ps)
    → row_bits t ps
    ≡ bits t (items_for t fresh f.before) ++ (item_bits t (escape f.height) ++ bits t (items_for t (past f.height) f.rest))
unfolding row_bits bits
row_bits-first t ps f =
    let front = items_for t fresh f.before in
    let back = items_for t (past f.height) f.rest in
    ap (bits t) (items_for-first t ps f) ∙ bits-append t front (escape f.height ∷ back)

-- a later height whose difference the table has
pub later-difference : (t : List ℕ) (q p : ℕ) → p ≤ 4093 → has_difference t (difference_to (past q) p) ≡ true
    → item_for t (past q) p ≡ difference (difference_to (past q) p)
later-difference t q p most has = item_for-difference t (past q) p most (by_difference-past t q p ∙ has)

-- ---- no height has come yet exactly where all items so far are bad pixels and bad biases
pub stays-begun : (q : ℕ) (i : Item) → (r : ℕ) × (after (past q) i ≡ past r)
stays-begun q (difference k) = (pixel_of (past q) (difference k), refl)
stays-begun q bad_pixel = (q, refl)
stays-begun q bad_bias = (q, refl)
stays-begun q (escape h) = (q, refl)

never-fresh : {A : Type 0} (q : ℕ) (is : List Item) → after_all (past q) is ≡ fresh → A
unfolding after_all
never-fresh q [] e = absurd (let z : ◌≡◌ {A = ℕ} 0 1 = cc in omega arith)
never-fresh q (i ∷ is) e = let next = stays-begun q i in never-fresh next.0 is (rw next.1 at e)

fresh-bad : (js : List Item) → after_all fresh js ≡ fresh → AllBadItems js
unfolding after_all
fresh-bad [] e = tt
fresh-bad (difference k ∷ js) e = never-fresh (pixel_of fresh (difference k)) js e
fresh-bad (bad_pixel ∷ js) e = (inl refl, fresh-bad js e)
fresh-bad (bad_bias ∷ js) e = (inr refl, fresh-bad js e)
fresh-bad (escape h ∷ js) e = never-fresh h js e

bad-after : (i : Item) → (i ≡ bad_pixel) ⊎ (i ≡ bad_bias) → after fresh i ≡ fresh
bad-after i (inl e) = rw e
bad-after i (inr e) = rw e

bad-fresh : (js : List Item) → AllBadItems js → after_all fresh js ≡ fresh
unfolding after_all
bad-fresh [] bad = refl
bad-fresh (j ∷ js) bad = rw (bad-after j bad.0) (bad-fresh js bad.1)

pub fresh-exactly : (js : List Item) → (after_all fresh js ≡ fresh) ↔ AllBadItems js
fresh-exactly js = (fresh-bad js, bad-fresh js)
