-- The laws of differences one after the other. Assumes nothing.
use Rattle.std.specs.Prelude.{ℕ, ◌+◌, ◌-◌, ◌≤◌, ◌<◌, ◌≡◌, refl, Bool, List, [], ◌∷◌, length, get_or, eqb, ℤ, pos, nat_abs, Result, Ok, Err}
use Rattle.std.proofs.Common.{arith, sym, ap, ◌∙◌, subst, eqb-true}
use Rattle.std.proofs.lemmas.Bool.{eqb-false}
use Rattle.row_format.specs.Lists.Laws.{by-test}
use Rattle.delta_format.specs.declared.FirstData.{FirstData}
use Rattle.delta_format.specs.Numbers.{half_of, max_of}
use Rattle.delta_format.specs.Row.{good, RowReading}
use Rattle.std.proofs.lemmas.Result.{IfOk-at_ok, IfErr-at_err}
use Rattle.answer.specs.declared.refusal.Refusal.{Refusal}
use Rattle.answer.specs.declared.refusal.Refusal.TheVariants.{DeltaSum}
use Rattle.answer.specs.Refusal.{refusal_number}
use Rattle.delta_reader.specs.declared.stretch.Stretch.{Stretch}
use Rattle.delta_reader.specs.Offset.{Width, Offset, offset_value}
use Rattle.delta_reader.specs.Puts.{PutsIf, RoomFor, AsLong}
use Rattle.delta_reader.specs.Puts.Laws.{as_long, as-long-more}
use Rattle.delta_reader.specs.Walk.{Walking, Walked}
use Rattle.delta_reader.specs.Walk.Laws.{down, walk-below, walk-above, walk-sum}
use Rattle.delta_reader.specs.Stretch.{WalksOut, Ordinary, Stretching, Stretched}

pub ordinary : {w : ℕ} (ds : List ℤ) (at : ℕ) {e h : ℕ} → Width w → at < length ds → Offset w (get_or ds at (pos 0)) e → h ≡ half_of w
    → e + 5 ≤ 2147483647 + h → Ordinary w ds at
ordinary {w} ds at {e} {h} width inside o half test =
    record { inside = inside; down = 2147483647 + half_of w - e; is = down width o; far = omega arith }

module _ {write : Bool} {n w : ℕ} (width : Width w) (ds : List ℤ) {s : Stretch} {x y : List ℕ} where
  pub stretch-start : s.previous < 4294967296 → Stretching write n w ds s x y s.at.0 s.previous s.left x y
  stretch-start small = record {
    walks = record { on = λ row vs rs from counts x₀ y₀ room k. k };
    long = as_long;
    small = small;
    fewer = (let q : s.left ≤ s.left = omega arith in q);
    moved = λ e. refl;
  }

  module _ {at : FirstData} {previous left : ℕ} {x' y' : List ℕ} (k : Stretching write n w ds s x y at.0 previous left x' y') where
    -- it stops here, at what is no ordinary element, or at the row's end
    stays : (0 < s.left → Ordinary w ds at.0 → left ≡ s.left → ⊥)
        → Stretched write n w ds s x y x' y' (Ok (record { at = at; previous = previous; left = left }))
    stays no_more = record {
      goes = k.walks;
      stops = tt;
      less = λ some o.
          by-test (eqb left s.left)
          (λ t. let e : left ≡ s.left = eqb-true left s.left t in
          absurd (no_more some (subst (Ordinary w ds) (sym (k.moved e)) o) e))
          (λ t. let d : left ≡ s.left → ⊥ = eqb-false left s.left t in omega (arith, k.fewer));
      long = k.long;
    }

    pub stretch-ends : length ds ≤ at.0 → Stretched write n w ds s x y x' y' (Ok (record
        { at = at; previous = previous; left = left }))
    stretch-ends out = stays (λ some o e. omega (arith, o.inside))

    pub stretch-flag : {e h : ℕ} → Offset w (get_or ds at.0 (pos 0)) e → h ≡ half_of w → 2147483647 + h < e + 5
        → Stretched write n w ds s x y x' y' (Ok (record { at = at; previous = previous; left = left }))
    stretch-flag {e} {h} o half test =
        stays (λ some p z.
        let same : 2147483647 + half_of w - e ≡ p.down = ap nat_abs (sym (down width o) ∙ p.is) in
        omega (arith, p.far))

    pub stretch-done : left ≡ 0 → Stretched write n w ds s x y x' y' (Ok (record { at = at; previous = previous; left = left }))
    stretch-done z = stays (λ some o e. omega arith)

    module _ {e h : ℕ} (fewer : s.left < n) (some : 0 < left) (inside : at.0 < length ds) (o : Offset w (get_or ds at.0 (pos 0)) e)
        (half : h ≡ half_of w) (test : e + 5 ≤ 2147483647 + h) where
      later : left ≡ n → ⊥
      later z = omega (arith, k.fewer)

      out-28 : WalksOut write n w ds s.at.0 s.previous s.left x y x' y' 28
          → Stretched write n w ds s x y x' y' (Err DeltaSum)
      out-28 out = record { goes = tt; stops = out; less = tt; long = k.long }

      pub stretch-below : previous + e < 2147483648
          → Stretched write n w ds s x y x' y' (Err DeltaSum)
      stretch-below low =
          out-28 (record {
            out = λ row vs rs from counts x₀ y₀ room w₀.
                walk-below width ds vs rs room (k.walks.on row vs rs from counts x₀ y₀ room w₀) some inside o half test later low;
          })

      pub stretch-above : 6442450943 < previous + e
          → Stretched write n w ds s x y x' y' (Err DeltaSum)
      stretch-above high =
          out-28 (record {
            out = λ row vs rs from counts x₀ y₀ room w₀.
                walk-above width ds vs rs room (k.walks.on row vs rs from counts x₀ y₀ room w₀) some inside o half test later high;
          })

      pub stretch-sum : {at' : ℕ} {x'' y'' : List ℕ} → at' ≡ at.0 + 1 → 2147483648 ≤ previous + e → previous + e ≤ 6442450943
          → PutsIf write x' y' (n - left) (good (offset_value (previous + e - 2147483648)) ∷ []) x'' y'' → AsLong x' y' x'' y''
          → Stretching write n w ds s x y at' (previous + e - 2147483648) (left - 1) x'' y''
      stretch-sum moved low high puts long = record {
        walks = record {
          on = λ row vs rs from counts x₀ y₀ room w₀.
              walk-sum width ds vs rs room (k.walks.on row vs rs from counts x₀ y₀ room w₀) some inside o half test later moved low high
              puts long;
        };
        long = as-long-more k.long long;
        small = omega arith;
        fewer = omega (arith, k.fewer);
        moved = λ z. absurd (let q : left ≤ s.left = k.fewer in omega arith);
      }

-- the room that is left
pub stretch-room : {write : Bool} {n w : ℕ} {ds : List ℤ} {s : Stretch} {x y : List ℕ} {at previous left : ℕ} {x' y' : List ℕ}
    → s.left < n → RoomFor x y (n - s.left) s.left → Stretching write n w ds s x y at previous left x' y'
    → RoomFor x' y' (n - left) left
stretch-room fewer room k = record {
  row = omega (arith, room.row, k.long.row, k.fewer);
  marks = omega (arith, room.marks, k.long.marks, k.fewer);
}

-- a flag, or none, by MAX as the code has it
pub flag_by : (h e : ℕ) {top : ℕ} → top ≡ 2147483647 + h → top < e + 5 → 2147483647 + h < e + 5
flag_by h e is test = omega arith

pub no-flag-by : (h e : ℕ) {top : ℕ} → top ≡ 2147483647 + h → e + 5 ≤ top → e + 5 ≤ 2147483647 + h
no-flag-by h e is test = omega arith

-- ---- a stretch in a walk, from where the walk is
module _ {write : Bool} {n w : ℕ} {row : RowReading} (ds vs rs : List ℤ) {x y x' y' x'' y'' : List ℕ} {at : FirstData}
    {from counts previous left : ℕ} {r : Result Stretch Refusal} (room : RoomFor x y 0 n)
    (k : Walking write n row (max_of w) ds vs rs x y at.0 from counts previous left x' y')
    (t : Stretched write n w ds (record { at = at; previous = previous; left = left }) x' y' x'' y'' r) where
  pub stretch-on : {g : Stretch} → r ≡ Ok g → Walking write n row (max_of w) ds vs rs x y g.at.0 from counts g.previous g.left x'' y''
  stretch-on is = (IfOk-at_ok _ is t.goes).on row vs rs from counts x y room k

  pub stretch-out : {e : Refusal} → r ≡ Err e → Walked write n row x y x'' y'' (refusal_number e)
  stretch-out is = (IfErr-at_err _ is t.stops).out row vs rs from counts x y room k

  pub stretch-less : {g : Stretch} → r ≡ Ok g → 0 < left → Ordinary w ds at.0 → g.left < left
  stretch-less is some o = IfOk-at_ok _ is t.less some o
