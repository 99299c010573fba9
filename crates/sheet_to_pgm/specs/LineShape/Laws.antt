-- The laws of the shape of rows: none, and one more behind the others. Assumes nothing.
use Prim.Native.Nat.{ℕ, zero, suc, ◌+◌, ◌-◌, ◌≤◌, ◌<◌}
use Rattle.std.proofs.Common.{zero-add, sym, ◌∙◌}
use native.Mathlib.Omega.{arith}
use Rattle.std.specs.Prelude.{◌≡◌, List, [], ◌∷◌, ◌++◌, length, ltb, eqb, Option, Some, None}
use Rattle.std.specs.Option.{option_or}
use Rattle.std.proofs.Math.Path.{refl, ap}
use borrow.Author.Tests.{eq-eqb, ne_eqb, ltb-true, ltb-false, eqb-true, eqb-false}
use Rattle.row_format.specs.Lists.Laws.{by-test}
use Rattle.sheet_format.specs.Sheet.{StoredRow, absent, present, heights_of}
use Rattle.sheet_format.proofs.Stream.Settled.{heights_of-before, heights_of-behind}
use Rattle.sheet_format.specs.Size.{rows_width, rows_height}
use Rattle.sheet_format.specs.Size.Laws.{width-more, height-more}
use Rattle.pgm_format.specs.Shape.{LineFault, no_fault, row_missing, row_unequal}
use Rattle.pgm_format.specs.Shape.{fault_of, or_fault, fault_from, heights_in, sheet_fault}
use Rattle.sheet_to_pgm.specs.declared.shape.RowFault.{RowFault}
use Rattle.sheet_to_pgm.specs.declared.shape.RowFault.TheVariants.{Missing, Unequal}
use Rattle.sheet_to_pgm.specs.declared.shape.LineShape.{LineShape}
use Rattle.sheet_to_pgm.specs.LineShape.{fault_said, ShapeOf, shape_none, fault_with, first_with, shape_with}

-- ---- no rows
pub shape-none : ShapeOf shape_none []
unfolding rows_width rows_height heights_of sheet_fault fault_from
shape-none = record { width = refl; count = refl; first = refl; fault = refl }

-- ---- faults of rows one after another
or_fault-assoc : (a b c : LineFault) → or_fault (or_fault a b) c ≡ or_fault a (or_fault b c)
or_fault-assoc no_fault b c = refl
or_fault-assoc (row_missing n) b c = refl
or_fault-assoc (row_unequal n k w) b c = refl

or_fault-none : (a : LineFault) → or_fault a no_fault ≡ a
or_fault-none no_fault = refl
or_fault-none (row_missing n) = refl
or_fault-none (row_unequal n k w) = refl

said_or : (a b : Option RowFault) → fault_said (option_or a b) ≡ or_fault (fault_said a) (fault_said b)
said_or None b = refl
said_or (Some (Missing n)) b = refl
said_or (Some (Unequal n k w)) b = refl

module _ (w : ℕ) where
  fault-add : (n a b : ℕ) (ys : List StoredRow) → fault_from w n (a + b) ys ≡ or_fault (fault_from w n a ys) (fault_from w (n + a) b ys)
  unfolding fault_from
  fault-add n zero b ys = let e : n + 0 ≡ n = omega arith in rw (zero-add b, e)
  fault-add n (suc a) b ys =
      let size : suc a + b ≡ suc (a + b) = omega arith in
      let place : suc n + a ≡ n + suc a = omega arith in
      rw (size, fault-add (suc n) a b ys, place)
      (sym (or_fault-assoc (fault_of w n (heights_of n ys)) (fault_from w (suc n) a ys) (fault_from w (n + suc a) b ys)))

  -- by the heights alone
  fault-same : (n k : ℕ) (ys zs : List StoredRow) → ((i : ℕ) → n ≤ i → i < n + k → heights_of i ys ≡ heights_of i zs)
      → fault_from w n k ys ≡ fault_from w n k zs
  unfolding fault_from
  fault-same n zero ys zs same = refl
  fault-same n (suc k) ys zs same =
      rw (same n (omega arith) (omega arith), fault-same (suc n) k ys zs (λ i low high. same i (omega arith) (omega arith)))

  -- rows that are missing
  fault-gap : (n k : ℕ) (ys : List StoredRow) → 0 < k → heights_of n ys ≡ absent → fault_from w n k ys ≡ row_missing n
  unfolding fault_from
  fault-gap n zero ys some none = absurd (omega arith)
  fault-gap n (suc k) ys some none = rw none

  fault-one : (n : ℕ) (ys : List StoredRow) → fault_from w n 1 ys ≡ fault_of w n (heights_of n ys)
  unfolding fault_from
  fault-one n ys = or_fault-none (fault_of w n (heights_of n ys))

-- ---- rows, and one behind them
pub none-behind : (n : ℕ) (ys : List StoredRow) → rows_height ys ≤ n → heights_of n ys ≡ absent
unfolding heights_of rows_height
none-behind n [] h = refl
none-behind n (y ∷ ys) h = rw (ne_eqb n y.number (λ e. omega arith)) (none-behind n ys (omega arith))

module _ (ys : List StoredRow) (y : StoredRow) (behind : rows_height ys ≤ y.number) where
  abbrev all : List StoredRow
  all = ys ++ (y ∷ [])

  abbrev k : ℕ
  k = length y.heights

  alone : (n : ℕ) → (n ≡ y.number → ⊥) → heights_of n (y ∷ []) ≡ absent
  unfolding heights_of
  alone n other = rw (ne_eqb n y.number other)

  other_row : (n : ℕ) → (n ≡ y.number → ⊥) → heights_of n all ≡ heights_of n ys
  other_row n other = heights_of-before n ys (y ∷ []) (alone n other)

  own_row : heights_of y.number all ≡ present y.heights
  own_row =
      heights_of-behind y.number ys (y ∷ []) (none-behind y.number ys behind)
      ∙ (unfold heights_of in rw (eq-eqb y.number y.number refl))

  pub count-behind : rows_height all ≡ y.number + 1
  count-behind = height-more ys y ∙ omega arith

  first-is : heights_in (heights_of 0 all) ≡ first_with (heights_in (heights_of 0 ys)) y.number k
  first-is =
      by-test (eqb y.number 0)
      (λ e. let zero_row : y.number ≡ 0 = eqb-true y.number 0 e in rw (e, ← zero_row, own_row))
      (λ e. let other : 0 ≡ y.number → ⊥ = λ z. eqb-false y.number 0 e (sym z) in rw (e, other_row 0 other))

  -- what the row adds
  added : (w : ℕ) → or_fault (fault_from w (rows_height ys) (y.number - rows_height ys) all) (fault_from w y.number 1 all)
      ≡ fault_said (fault_with (rows_height ys) y.number k w)
  added w =
      by-test (ltb (rows_height ys) y.number)
      (λ t.
      let less : rows_height ys < y.number = ltb-true (rows_height ys) y.number t in
      let none = other_row (rows_height ys) (λ e. omega arith) ∙ none-behind (rows_height ys) ys (omega arith) in
      rw (t, fault-gap w (rows_height ys) (y.number - rows_height ys) all (omega arith) none))
      (λ t.
      let same : y.number - rows_height ys ≡ 0 = omega (arith, ltb-false (rows_height ys) y.number t) in
      let nothing : fault_from w (rows_height ys) 0 all ≡ no_fault = unfold fault_from in refl in
      rw (t, same, nothing, fault-one w y.number all, own_row)
      (by-test (eqb k w) (λ e. rw e) (λ e. rw e)))

  parts : (w : ℕ) → fault_from w 0 (y.number + 1) all
      ≡ or_fault (fault_from w 0 (rows_height ys) ys) (fault_said (fault_with (rows_height ys) y.number k w))
  parts w =
      let c = rows_height ys in
      let size : y.number + 1 ≡ rows_height ys + (y.number - rows_height ys + 1) = omega arith in
      let place : 0 + rows_height ys ≡ rows_height ys = omega arith in
      let end : rows_height ys + (y.number - rows_height ys) ≡ y.number = omega arith in
      rw (
        size,
        fault-add w 0 c (y.number - c + 1) all,
        place,
        fault-add w c (y.number - c) 1 all,
        end,
        added w,
        fault-same w 0 c all ys (λ i low high. other_row i (λ e. omega arith)),
      )

  -- row 0 is there before the others, or there are none
  same_first : fault_from (heights_in (heights_of 0 all)) 0 (rows_height ys) ys ≡ sheet_fault ys
  unfolding sheet_fault
  same_first =
      by-test (eqb y.number 0)
      (λ e.
      let none : rows_height ys ≡ 0 = omega (arith, eqb-true y.number 0 e) in
      rw none (unfold fault_from in refl))
      (λ e. rw (other_row 0 (λ z. eqb-false y.number 0 e (sym z))))

  fault-more : sheet_fault all
      ≡ or_fault (sheet_fault ys) (fault_said (fault_with (rows_height ys) y.number k (heights_in (heights_of 0 all))))
  fault-more =
      let w = heights_in (heights_of 0 all) in
      let whole : sheet_fault all ≡ fault_from w 0 (y.number + 1) all =
      unfold sheet_fault in ap (λ (n : ℕ). fault_from (heights_in (heights_of 0 all)) 0 n all) count-behind in
      whole ∙ parts w ∙ rw same_first

  pub shape-more : {s : LineShape} → ShapeOf s ys → ShapeOf (shape_with s y.number k) all
  shape-more {s} h =
      let first : first_with s.first y.number k ≡ heights_in (heights_of 0 all) =
      rw h.first (sym first-is) in
      record {
        width = omega (arith, width-more ys y, h.width);
        count = sym count-behind;
        first = first;
        fault =
            said_or s.fault (fault_with s.count y.number k (first_with s.first y.number k))
            ∙ rw (h.fault, h.count, first) (sym fault-more);
      }
