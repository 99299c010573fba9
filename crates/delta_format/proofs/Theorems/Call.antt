-- The call: what the theorems page says of it. Assumes nothing.
use Rattle.std.specs.Prelude.{ℕ, suc, ◌+◌, ◌-◌, ◌*◌, ◌/◌, ◌≤◌, ◌<◌, ◌≡◌, ◌⊎◌, List, [], ◌∷◌, ◌++◌, map, length, drop, eqb, ltb, leb, ℤ, pos, negsuc}
use Rattle.std.proofs.Common.{arith, sym, ap, ◌∙◌, subst, length-append, length-drop, drop_at}
use Rattle.std.proofs.Math.Path.{refl}
use Rattle.std.proofs.Math.Bool.{true}
use Rattle.std.proofs.Math.Logic.{inl, inr}
use Rattle.std.proofs.lemmas.List.{length-map}
use borrow.Author.Tests.{eqb-true, ne_eqb, lt-ltb, le-ltb, leb-true}
use Rattle.answer.specs.Outcome.{◌or_else◌, lent, room_number}
use Rattle.answer.specs.Outcome.Laws.{or_else-zero-left, or_else-zero-right, less_number-zero}
use Rattle.row_format.specs.Lists.{any}
use Rattle.row_format.specs.Lists.Laws.{by-test, true-false, and-true-left}
use Rattle.delta_format.specs.declared.RowPlaces.{RowPlaces}
use Rattle.delta_format.specs.Numbers.{max_of, signed_number, elements_of, bits_for, in32}
use Rattle.delta_format.specs.Row.{Element, none, RowReading, stops, reads, row_from}
use Rattle.delta_format.proofs.Row.Laws.{from_zero}
use Rattle.delta_format.specs.Grammar.{RowBegins, RowFault}
use Rattle.delta_format.specs.Calls.{Arrays, delta_row_at, mark_of, values_bytes, DeltaOutcome, delta_refused, delta_written, delta_left, width_number, row_number, delta_row}
use Rattle.delta_format.specs.Calls.Laws.{length-row}
use Rattle.delta_format.proofs.Theorems.Rows.{done-is, refused-is, code-length, fault-number}

-- ---- 14
abbrev pub IsWidth : ℕ → Type 0
IsWidth w = (w ≡ 8) ⊎ (w ≡ 16) ⊎ (w ≡ 32)

width-none : (w : ℕ) → IsWidth w → width_number w ≡ 0
unfolding width_number
width-none w (inl e) = rw e refl
width-none w (inr (inl e)) = rw e refl
width-none w (inr (inr e)) = rw e refl

is-width : (w : ℕ) → width_number w ≡ 0 → IsWidth w
unfolding width_number
is-width w z =
    by-test (eqb w 8) (λ e. inl (eqb-true w 8 e))
    (λ a. by-test (eqb w 16) (λ e. inr (inl (eqb-true w 16 e)))
    (λ b. by-test (eqb w 32) (λ e. inr (inr (eqb-true w 32 e)))
    (λ c. let q : ◌≡◌ {A = ℕ} 14 0 = sym (rw (a, b, c) refl) ∙ z in absurd (omega arith))))

width-14 : (w : ℕ) → (IsWidth w → ⊥) → width_number w ≡ 14
unfolding width_number
width-14 w h = rw (ne_eqb w 8 (λ e. h (inl e)), ne_eqb w 16 (λ e. h (inr (inl e))), ne_eqb w 32 (λ e. h (inr (inr e)))) refl

module _ (n : ℕ) (a : Arrays) (at : RowPlaces) (x y : List ℕ) where
  by_number : (e : ℕ) → row_number n a x y ≡ suc e → delta_row n a at x y ≡ delta_refused (suc e) x y
  unfolding delta_row
  by_number e h = rw h refl

  either-14 : (u v d : ℕ) → (u ≡ 0) ⊎ (u ≡ 14) → (u ≡ 14) ⊎ (v ≡ 14) → u or_else v or_else d ≡ 14
  either-14 u v d k (inl e) = rw e refl
  either-14 u v d (inl z) (inr e) = rw (z, e) refl
  either-14 u v d (inr z) (inr e) = rw z refl

  zero-or-14 : (w : ℕ) → (width_number w ≡ 0) ⊎ (width_number w ≡ 14)
  unfolding width_number
  zero-or-14 w =
      by-test (eqb w 8) (λ e. inl (rw e refl))
      (λ a. by-test (eqb w 16) (λ e. inl (rw (a, e) refl))
      (λ b. by-test (eqb w 32) (λ e. inl (rw (a, b, e) refl)) (λ c. inr (rw (a, b, c) refl))))

  pub other_width : (IsWidth a.data_bits → ⊥) ⊎ (IsWidth a.value_bits → ⊥) → delta_row n a at x y ≡ delta_refused 14 x y
  unfolding row_number
  other_width h = by_number 13 (either-14 (width_number a.data_bits) (width_number a.value_bits) _ (zero-or-14 a.data_bits) (which h))
    where
      which : (IsWidth a.data_bits → ⊥) ⊎ (IsWidth a.value_bits → ⊥)
          → (width_number a.data_bits ≡ 14) ⊎ (width_number a.value_bits ≡ 14)
      which (inl g) = inl (width-14 a.data_bits g)
      which (inr g) = inr (width-14 a.value_bits g)

  pub no_room_lem : IsWidth a.data_bits → IsWidth a.value_bits → (length x / 4 < n) ⊎ (length y < n)
      → delta_row n a at x y ≡ delta_refused 5 x y
  unfolding row_number
  no_room_lem d v h = by_number 4 (rw (width-none a.data_bits d, width-none a.value_bits v) (rooms h))
    where
      rooms : (length x / 4 < n) ⊎ (length y < n) → room_number (lent (length x / 4)) n or_else room_number (lent (length y)) n ≡ 5
      rooms (inl g) = rw (lt-ltb (length x / 4) n g) refl
      rooms (inr g) = by-test (ltb (length x / 4) n) (λ t. rw t refl) (λ t. rw (t, lt-ltb (length y) n g) refl)

  pub then-row : IsWidth a.data_bits → IsWidth a.value_bits → n ≤ length x / 4 → n ≤ length y
      → delta_row n a at x y ≡ delta_left x y (delta_row_at n a at)
  unfolding delta_row row_number
  then-row d v h g =
      rw (width-none a.data_bits d, width-none a.value_bits v, le-ltb (length x / 4) n h, le-ltb (length y) n g) refl

-- no elements are wanted
pub none-wanted : (a : Arrays) (at : RowPlaces) (x y : List ℕ) → IsWidth a.data_bits → IsWidth a.value_bits
    → delta_row 0 a at x y ≡ delta_written [] x y
unfolding delta_row_at
none-wanted a at x y d v =
    then-row 0 a at x y d v (omega arith) (omega arith)
    ∙ ap (delta_left x y)
    (from_zero (max_of a.data_bits) none (drop at.«data».0 (elements_of a.data_bits a.data_bytes))
    (drop at.value.0 (elements_of a.value_bits a.value_bytes)) (drop at.repeat.0 (elements_of 32 a.repeat_bytes)))

-- ---- done
-- the row that a done call has read: it is in the grammar, whole, and what was written is it
pub record DoneRow (n : ℕ) (a : Arrays) (at : RowPlaces) (x y : List ℕ) : Type 0 where
  pub elements : List Element
  pub data-left : List ℤ
  pub values-left : List ℤ
  pub counts-left : List ℤ
  pub begins : RowBegins (max_of a.data_bits) none n (drop at.«data».0 (elements_of a.data_bits a.data_bytes))
      (drop at.value.0 (elements_of a.value_bits a.value_bytes)) (drop at.repeat.0 (elements_of 32 a.repeat_bytes))
      elements data-left values-left counts-left
  pub many : length elements ≡ n
  pub outcome : delta_row n a at x y ≡ delta_written elements x y
  pub data-width : IsWidth a.data_bits
  pub value-width : IsWidth a.value_bits
  pub room : n ≤ length x / 4
  pub marks-room : n ≤ length y

module _ (n : ℕ) (a : Arrays) (at : RowPlaces) (x y : List ℕ) where
  abbrev pub number_of : ℕ
  number_of = (delta_row n a at x y).answer.number

  module _ (z : row_number n a x y ≡ 0) where
    free-widths : width_number a.value_bits or_else room_number (lent (length x / 4)) n or_else room_number (lent (length y)) n ≡ 0
    unfolding row_number
    free-widths = or_else-zero-right (width_number a.data_bits) _ z

    free-rooms : room_number (lent (length x / 4)) n or_else room_number (lent (length y)) n ≡ 0
    free-rooms = or_else-zero-right (width_number a.value_bits) _ free-widths

    free-data-width : IsWidth a.data_bits
    unfolding row_number
    free-data-width = is-width a.data_bits (or_else-zero-left (width_number a.data_bits) _ z)

    free-value-width : IsWidth a.value_bits
    free-value-width = is-width a.value_bits (or_else-zero-left (width_number a.value_bits) _ free-widths)

    free-values : n ≤ length x / 4
    free-values =
        less_number-zero (length x / 4) n 4 (or_else-zero-left (room_number (lent (length x / 4)) n) (room_number (lent (length y)) n)
        free-rooms)

    free-marks : n ≤ length y
    free-marks = less_number-zero (length y) n 4 (or_else-zero-right (room_number (lent (length x / 4)) n)
        (room_number (lent (length y)) n) free-rooms)

    read_is : delta_row n a at x y ≡ delta_left x y (delta_row_at n a at)
    unfolding delta_row
    read_is = rw z refl

  row_at : delta_row_at n a at
      ≡ row_from (max_of a.data_bits) none n (drop at.«data».0 (elements_of a.data_bits a.data_bytes))
      (drop at.value.0 (elements_of a.value_bits a.value_bytes)) (drop at.repeat.0 (elements_of 32 a.repeat_bytes))
  unfolding delta_row_at
  row_at = refl

  -- either the number is one of the refusals' and nothing has changed, or the row is done
  pub data Comes : Type 0 where
    refused : (e : ℕ) → any (eqb e) (14 ∷ 5 ∷ 25 ∷ 26 ∷ 27 ∷ 28 ∷ []) ≡ true → delta_row n a at x y ≡ delta_refused e x y → Comes
    done : DoneRow n a at x y → Comes

  first-in : (row_number n a x y ≡ 0) ⊎ (row_number n a x y ≡ 14) ⊎ (row_number n a x y ≡ 5)
  unfolding row_number
  first-in = widths (zero-or-14 n a at x y a.data_bits) (zero-or-14 n a at x y a.value_bits)
    where
      Goal : Type 0
      Goal = (row_number n a x y ≡ 0) ⊎ (row_number n a x y ≡ 14) ⊎ (row_number n a x y ≡ 5)

      widths : (width_number a.data_bits ≡ 0) ⊎ (width_number a.data_bits ≡ 14)
          → (width_number a.value_bits ≡ 0) ⊎ (width_number a.value_bits ≡ 14) → Goal
      widths (inr d) v = inr (inl (rw d refl))
      widths (inl d) (inr v) = inr (inl (rw (d, v) refl))
      widths (inl d) (inl v) =
          by-test (ltb (length x / 4) n) (λ t. inr (inr (rw (d, v, t) refl)))
          (λ t. by-test (ltb (length y) n) (λ u. inr (inr (rw (d, v, t, u) refl))) (λ u. inl (rw (d, v, t, u) refl)))

  wider : (e : ℕ) → any (eqb e) (25 ∷ 26 ∷ 27 ∷ 28 ∷ []) ≡ true → any (eqb e) (14 ∷ 5 ∷ 25 ∷ 26 ∷ 27 ∷ 28 ∷ []) ≡ true
  unfolding any
  wider e h = by-test (eqb e 14) (λ t. rw t refl) (λ t. by-test (eqb e 5) (λ u. rw (t, u) refl) (λ u. rw (t, u) h))

  by_row : row_number n a x y ≡ 0 → (r : RowReading) → delta_row_at n a at ≡ r → Comes
  by_row z (stops e) q =
      refused e (wider e (fault-number ((refused-is (max_of a.data_bits) none n _ _ _ e).0 (sym row_at ∙ q))))
      (read_is z ∙ ap (delta_left x y) q)
  by_row z (reads es ds vs rs) q =
      let begins : RowBegins (max_of a.data_bits) none n (drop at.«data».0 (elements_of a.data_bits a.data_bytes))
      (drop at.value.0 (elements_of a.value_bits a.value_bytes)) (drop at.repeat.0 (elements_of 32 a.repeat_bytes))
      es ds vs rs =
      (done-is (max_of a.data_bits) none n (drop at.«data».0 (elements_of a.data_bits a.data_bytes))
      (drop at.value.0 (elements_of a.value_bits a.value_bytes)) (drop at.repeat.0 (elements_of 32 a.repeat_bytes))
      es ds vs rs).0 (sym row_at ∙ q) in
      done (record {
        elements = es;
        data-left = ds;
        values-left = vs;
        counts-left = rs;
        begins = begins;
        many = code-length begins.codes;
        outcome = read_is z ∙ ap (delta_left x y) q;
        data-width = free-data-width z;
        value-width = free-value-width z;
        room = free-values z;
        marks-room = free-marks z;
      })

  pub comes : Comes
  unfolding any
  comes = by_first first-in
    where
      by_first : (row_number n a x y ≡ 0) ⊎ (row_number n a x y ≡ 14) ⊎ (row_number n a x y ≡ 5) → Comes
      by_first (inl z) = by_row z (delta_row_at n a at) refl
      by_first (inr (inl e)) = refused 14 refl (by_number n a at x y 13 e)
      by_first (inr (inr e)) = refused 5 refl (by_number n a at x y 4 e)

  pub row_done_lem : number_of ≡ 0 → DoneRow n a at x y
  unfolding any
  row_done_lem z = by-comes comes
    where
      by-comes : Comes → DoneRow n a at x y
      by-comes (done d) = d
      by-comes (refused e h q) = absurd (none-zero e h (sym (ap (λ (o : DeltaOutcome). o.answer.number) q) ∙ z))
        where
          none-zero : (e : ℕ) → any (eqb e) (14 ∷ 5 ∷ 25 ∷ 26 ∷ 27 ∷ 28 ∷ []) ≡ true → e ≡ 0 → ⊥
          none-zero e h z = true-false h (rw z refl)

  pub row_kept : (number_of ≡ 0 → ⊥) → delta_row n a at x y ≡ delta_refused number_of x y
  row_kept h = by-comes comes
    where
      by-comes : Comes → delta_row n a at x y ≡ delta_refused number_of x y
      by-comes (done d) = absurd (h (ap (λ (o : DeltaOutcome). o.answer.number) d.outcome))
      by-comes (refused e k q) = q ∙ ap (λ (m : ℕ). delta_refused m x y) (sym (ap (λ (o : DeltaOutcome). o.answer.number) q))

  pub row-number-in : any (eqb number_of) (0 ∷ 14 ∷ 5 ∷ 25 ∷ 26 ∷ 27 ∷ 28 ∷ []) ≡ true
  unfolding any
  row-number-in = by-comes comes
    where
      by-comes : Comes → any (eqb number_of) (0 ∷ 14 ∷ 5 ∷ 25 ∷ 26 ∷ 27 ∷ 28 ∷ []) ≡ true
      by-comes (done d) = rw (ap (λ (o : DeltaOutcome). o.answer.number) d.outcome) refl
      by-comes (refused e k q) =
          rw (ap (λ (o : DeltaOutcome). o.answer.number) q) (by-test (eqb e 0) (λ t. rw t refl) (λ t. rw t k))

-- ---- what is written
-- past its first k bytes the memory m is as it was
pub record Past (k : ℕ) (m m' : List ℕ) : Type 0 where
  pub size : length m' ≡ length m
  pub rest : drop k m' ≡ drop k m

past-front : (k : ℕ) (b m : List ℕ) → length b ≡ k → k ≤ length m → Past k m (b ++ drop (length b) m)
past-front k b m e h = record {
  size = length-append b (drop (length b) m) ∙ (let q : length b + length (drop (length b) m) ≡ length m = omega
      (arith, length-drop (length b) m) in q);
  rest = drop_at b (drop (length b) m) k e ∙ ap (λ (n : ℕ). drop n m) e;
}

module _ (n : ℕ) (a : Arrays) (at : RowPlaces) (x y : List ℕ) (d : DoneRow n a at x y) where
  pub row-past : Past (4 * n) x (delta_row n a at x y).row
  row-past =
      let es : List Element = d.elements in
      subst (Past (4 * n) x) (sym (ap (λ (o : DeltaOutcome). o.row) d.outcome))
      (past-front (4 * n) (values_bytes es) x (length-row es ∙ ap (λ (m : ℕ). 4 * m) d.many) (omega (arith, d.room)))

  pub marks-past : Past n y (delta_row n a at x y).marks
  marks-past =
      let es : List Element = d.elements in
      let long : length (map mark_of es) ≡ length es = length-map es mark_of in
      let past : Past n y (map mark_of es ++ drop (length (map mark_of es)) y) =
      past-front n (map mark_of es) y (long ∙ d.many) d.marks-room in
      subst (Past n y)
      (ap (λ (k : ℕ). map mark_of es ++ drop k y) long ∙ sym (ap (λ (o : DeltaOutcome). o.marks) d.outcome)) past

-- ---- the 32 bits of a value are the value
pub value-of-bits : (v : ℤ) → in32 v ≡ true → signed_number 32 (bits_for 32 v) ≡ v
value-of-bits (pos m) h =
    let most : m ≤ 2147483647 = leb-true m 2147483647 h in
    rw (lt-ltb m 2147483648 (omega arith)) refl
value-of-bits (negsuc m) h =
    let most : m ≤ 2147483647 = leb-true m 2147483647 (and-true-left (leb m 2147483647) true h) in
    let high : 4294967296 - suc m < 4294967296 = omega arith in
    let back : 4294967296 - suc (4294967296 - suc m) ≡ m = omega arith in
    rw (le-ltb (4294967296 - suc m) 2147483648 (omega arith), lt-ltb (4294967296 - suc m) 4294967296 high, back) refl

-- ---- from the grammar to the call
module _ (n : ℕ) (a : Arrays) (at : RowPlaces) (x y : List ℕ) (d : IsWidth a.data_bits) (v : IsWidth a.value_bits)
    (room : n ≤ length x / 4) (marks : n ≤ length y) where
  pub row-granted : (es : List Element) (ds vs rs : List ℤ)
      → RowBegins (max_of a.data_bits) none n (drop at.«data».0 (elements_of a.data_bits a.data_bytes))
      (drop at.value.0 (elements_of a.value_bits a.value_bytes)) (drop at.repeat.0 (elements_of 32 a.repeat_bytes)) es ds vs rs
      → delta_row n a at x y ≡ delta_written es x y
  row-granted es ds vs rs b =
      then-row n a at x y d v room marks
      ∙ ap (delta_left x y)
      (row_at n a at x y
      ∙ (done-is (max_of a.data_bits) none n (drop at.«data».0 (elements_of a.data_bits a.data_bytes))
      (drop at.value.0 (elements_of a.value_bits a.value_bytes)) (drop at.repeat.0 (elements_of 32 a.repeat_bytes)) es ds
      vs rs).1 b)

  pub row-faulty : (e : ℕ)
      → RowFault (max_of a.data_bits) none n (drop at.«data».0 (elements_of a.data_bits a.data_bytes))
      (drop at.value.0 (elements_of a.value_bits a.value_bytes)) (drop at.repeat.0 (elements_of 32 a.repeat_bytes)) e
      → delta_row n a at x y ≡ delta_refused e x y
  row-faulty e f =
      then-row n a at x y d v room marks
      ∙ ap (delta_left x y)
      (row_at n a at x y
      ∙ (refused-is (max_of a.data_bits) none n (drop at.«data».0 (elements_of a.data_bits a.data_bytes))
      (drop at.value.0 (elements_of a.value_bits a.value_bytes)) (drop at.repeat.0 (elements_of 32 a.repeat_bytes)) e).1 f)
