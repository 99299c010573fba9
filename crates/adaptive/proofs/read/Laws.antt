-- What gather's answer says of the bytes, and of the value that they stand for. Assumes nothing.
use Prim.Native.Nat.{ℕ, suc, ◌-◌, ◌*◌, ◌/◌, ◌^◌, ◌≤◌, ◌<◌}
use native.Mathlib.Nat.{pow-suc}
use native.Mathlib.Omega.{arith}
use mathlib.Core.Path.{◌≡◌, refl, sym, ap, ◌∙◌}
use mathlib.Core.Bool.{Bool, true, false, cond}
use mathlib.Core.List.{List}
use lib.ListN.{length}
use lib.Dec.{leb}
use lib.IntN.{pos, negsuc}
use Rattle.adaptive.specs.Number.{NumberFront, whole, fault, front, data_of, signed_value, signed_type, accepted, rejected, read_as}
use Rattle.adaptive.specs.Number.Laws.{Fair, front-fair, data_of-lt}
use Rattle.adaptive.specs.Number.Sign.{Signed, signed_value-is, signed-pos, signed-set}
use Rattle.adaptive.specs.Number.Lawful.{signed_range}
use Rattle.adaptive.specs.Gather.{gathered_of, with_sign}
use Rattle.adaptive.specs.declared.gather.Data.{Data}
use Rattle.adaptive.specs.declared.number.Number.{Number}

-- a whole number was gathered, with this many later bytes
pub record Whole (s : List ℕ) (g : Number Data) : Type 0 where
  pub bytes : List ℕ
  pub found : front 5 s ≡ whole bytes
  pub raw : g.value.raw ≡ data_of bytes
  pub used : g.used ≡ length bytes
  pub later : ℕ
  pub long : length bytes ≡ suc later
  pub span : g.value.span ≡ 128 ^ suc later

pub gathered-whole : (s : List ℕ) {g : Number Data} → accepted g.value g.used ≡ gathered_of (front 5 s) → Whole s g
gathered-whole s {g} e = by_front (front 5 s) refl (front-fair 5 s) e
  where
    by_front : (f : NumberFront) → front 5 s ≡ f → Fair 5 s f → accepted g.value g.used ≡ gathered_of f → Whole s g
    by_front (whole bs) f p q =
        let long : length bs ≡ suc (length bs - 1) = omega (arith, p.some) in
        let same : g.value ≡ record { raw = data_of bs; span = 128 ^ length bs } = cc in
        record {
          bytes = bs;
          found = f;
          raw = ap (λ (x : Data). x.raw) same;
          used = cc;
          later = length bs - 1;
          long = long;
          span = ap (λ (x : Data). x.span) same ∙ ap (λ (n : ℕ). 128 ^ n) long;
        }
    by_front (fault x) f p q = cc

pub gathered-fault : (s : List ℕ) {e : ℕ} → rejected e ≡ gathered_of (front 5 s) → front 5 s ≡ fault e
gathered-fault s {e} given = by_front (front 5 s) refl given
  where
    by_front : (f : NumberFront) → front 5 s ≡ f → rejected e ≡ gathered_of f → front 5 s ≡ fault e
    by_front (whole bs) f q = cc
    by_front (fault x) f q = let same : e ≡ x = cc in f ∙ ap fault (sym same)

in-range : (t : Bool) (m : ℕ) → signed_type.in_range (with_sign t m) ≡ leb m 2147483647
in-range true m = signed_range (negsuc m)
in-range false m = signed_range (pos m)

-- ---- the value of a whole number
module _ {s : List ℕ} {g : Number Data} (w : Whole s g) where
  pub raw-lt : g.value.raw < g.value.span
  raw-lt = rw (w.raw, w.span, ← w.long) (data_of-lt w.bytes)

  value : Signed w.later g.value.raw (signed_value w.bytes)
  value = rw w.raw (signed_value-is w.bytes w.later w.long)

  pub value-clear : g.value.raw < g.value.span / 2 → signed_value w.bytes ≡ with_sign false g.value.raw
  value-clear h =
      let top : g.value.span ≡ 128 ^ w.later * 128 = w.span ∙ pow-suc 128 w.later in
      let low : g.value.raw < 64 * 128 ^ w.later = omega arith in
      signed-pos low value

  pub value_set : g.value.span / 2 ≤ g.value.raw → signed_value w.bytes ≡ with_sign true (g.value.span - 1 - g.value.raw)
  value_set h =
      let top : g.value.span ≡ 128 ^ w.later * 128 = w.span ∙ pow-suc 128 w.later in
      let high : 64 * 128 ^ w.later ≤ g.value.raw = omega arith in
      let same : 128 ^ suc w.later - suc g.value.raw ≡ g.value.span - 1 - g.value.raw = omega (arith, w.span) in
      signed-set high value ∙ ap negsuc same

  pub read_as-signed : (t : Bool) (m : ℕ) → signed_value w.bytes ≡ with_sign t m
      → read_as signed_type s ≡ cond (leb m 2147483647) (accepted (with_sign t m) g.used) (rejected 13)
  unfolding read_as
  read_as-signed t m e = rw w.found (rw (e, in-range t m, ← w.used))
