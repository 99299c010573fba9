-- The laws of a row's walk. Assumes nothing.
use Rattle.std.specs.Prelude.{ℕ, zero, suc, ◌+◌, ◌-◌, ◌≤◌, ◌<◌, ◌≡◌, Bool, false, List, [], ◌∷◌, ◌++◌, length, drop, get_or, ℤ, pos, ◌+ℤ◌, ◌-ℤ◌, eqb}
use Rattle.std.proofs.Common.{zero-add, add-one, arith, sym, ap, ◌∙◌, subst, append-nil, length-append, drop_of_length-le, drop-cons, eqb-true, eq-eqb, ne_eqb}
use Rattle.std.proofs.Math.Path.{refl}
use Rattle.std.proofs.lemmas.Bool.{eqb-false}
use Rattle.row_format.specs.Lists.Laws.{by-test}
use Rattle.delta_format.specs.Numbers.{half_of, max_of, elements_of}
use Rattle.delta_format.specs.Row.{
  Element,
  good,
  flag,
  difference,
  down_from_max,
  Previous,
  none,
  value,
  last_from,
  fault,
  gives,
  flag_part,
  summed,
  part_of,
  RowReading,
  stops,
  reads,
  joined_to,
  and_then,
  row_from,
}
use Rattle.delta_format.specs.declared.FirstData.{FirstData}
use Rattle.delta_format.specs.declared.FirstValue.{FirstValue}
use Rattle.delta_format.specs.declared.FirstRepeat.{FirstRepeat}
use Rattle.delta_format.specs.Calls.{delta_row_at}
use Rattle.delta_format.proofs.Row.Laws.{joined-none, joined-joined, from_zero, from-ends, from_next}
use Rattle.std.specs.Prelude.{Result, Ok, Err}
use Rattle.std.proofs.lemmas.Result.{IfOk-at_ok, IfErr-at_err}
use Rattle.answer.specs.declared.refusal.Refusal.{Refusal}
use Rattle.answer.specs.Refusal.{refusal_number}
use Rattle.answer.specs.Refusal.Laws.{refusal_not_done}
use Rattle.delta_reader.specs.declared.step.Step.{Step}
use Rattle.delta_reader.specs.Offset.{Width, eight, sixteen, thirty_two, Offset, offset_value}
use Rattle.delta_reader.specs.Offset.Laws.{down_is, sum_is, in-32, below-32, above-32}
use Rattle.delta_reader.specs.Flags.{flag_at}
use Rattle.delta_reader.specs.Puts.{RoomFor, PutsElements, PutsIf, Unchanged, AsLong}
use Rattle.delta_reader.specs.Puts.Laws.{puts_none, puts-more, as_long, as-long-more}
use Rattle.delta_reader.specs.Step.{StepGoes, FlagStep}
use Rattle.delta_reader.specs.Walk.{previous_at, delta_row_of, Walking, Walked}

-- ---- what an element is: so far below MAX
flag-down : (k : ℕ) → k < 5 → down_from_max k ≡ flag (flag_at k)
flag-down zero h = refl
flag-down (suc zero) h = refl
flag-down (suc (suc zero)) h = refl
flag-down (suc (suc (suc zero))) h = refl
flag-down (suc (suc (suc (suc zero)))) h = refl
flag-down (suc (suc (suc (suc (suc k))))) h = absurd (omega arith)

difference-down : (k : ℕ) → 5 ≤ k → down_from_max k ≡ difference
difference-down zero h = absurd (omega arith)
difference-down (suc zero) h = absurd (omega arith)
difference-down (suc (suc zero)) h = absurd (omega arith)
difference-down (suc (suc (suc zero))) h = absurd (omega arith)
difference-down (suc (suc (suc (suc zero)))) h = absurd (omega arith)
difference-down (suc (suc (suc (suc (suc k))))) h = refl

half-some : {w : ℕ} → Width w → 0 < half_of w
half-some eight = omega arith
half-some sixteen = omega arith
half-some thirty_two = omega arith

pub down : {w : ℕ} → Width w → {d : ℤ} {e : ℕ} → Offset w d e → max_of w -ℤ d ≡ pos (2147483647 + half_of w - e)
down {w} width {d} {e} o = ap (λ (z : ℤ). max_of w -ℤ z) o.keeps ∙ down_is (half_of w) e (half-some width) o.high

module _ {w : ℕ} (width : Width w) {d : ℤ} {e : ℕ} (o : Offset w d e) (p : Previous) (left : ℕ) (vs rs : List ℤ) where
  pub part-flag : 2147483647 + half_of w - e < 5
      → part_of (max_of w) p left d vs rs ≡ flag_part (flag_at (2147483647 + half_of w - e)) p left vs rs
  unfolding part_of
  part-flag h = rw (down width o, flag-down (2147483647 + half_of w - e) h) refl

  pub part_none : 5 ≤ 2147483647 + half_of w - e → p ≡ none → part_of (max_of w) p left d vs rs ≡ fault 27
  unfolding part_of
  part_none h n = rw (down width o, difference-down (2147483647 + half_of w - e) h, n) refl

  pub part-sum : (v : ℕ) → 5 ≤ 2147483647 + half_of w - e → p ≡ value (offset_value v)
      → part_of (max_of w) p left d vs rs ≡ summed (offset_value v +ℤ offset_value e) vs rs
  unfolding part_of
  part-sum v h n = rw (down width o, difference-down (2147483647 + half_of w - e) h, n, o.keeps) refl

pub row_of : (n w : ℕ) (s : List ℕ) (v : ℕ) (t u : List ℕ) (at : FirstData) (from : FirstValue) (counts : FirstRepeat)
    → delta_row_of n w s v t u at from counts
    ≡ row_from (max_of w) none n (drop at.0 (elements_of w s)) (drop from.0 (elements_of v t)) (drop counts.0 (elements_of 32 u))
unfolding delta_row_at
row_of n w s v t u at from counts = refl

-- ---- the walk
unchanged-more : {x y x' y' x'' y'' : List ℕ} → Unchanged x y x' y' → Unchanged x' y' x'' y'' → Unchanged x y x'' y''
unchanged-more a b = record { row = b.row ∙ a.row; marks = b.marks ∙ a.marks }

-- elements after those that were put
puts-next : {write : Bool} {n : ℕ} {x y x' y' x'' y'' : List ℕ} {es fs : List Element} {left : ℕ} → RoomFor x y 0 n → length es + left ≡ n
    → length fs ≤ left → PutsIf write x y 0 es x' y' → PutsIf write x' y' (n - left) fs x'' y'' → PutsIf write x y 0 (es ++ fs) x'' y''
puts-next {write} {n} {x} {y} {x'} {y'} {x''} {y''} {es} {fs} {left} room counted few p q =
    let place : n - left ≡ 0 + length es = omega arith in
    record {
      written = λ t.
          puts-more room (omega arith) (p.written t)
          (subst (λ (at : ℕ). PutsElements x' y' at fs x'' y'') place (q.written t));
      kept = λ f. unchanged-more (p.kept f) (q.kept f);
    }

module _ {write : Bool} {n : ℕ} {row : RowReading} {w : ℕ} (width : Width w) (ds vs rs : List ℤ) {x y : List ℕ} (room : RoomFor x y 0
    n) where
  pub walk_start : (at from counts : ℕ) → row ≡ row_from (max_of w) none n (drop at ds) (drop from vs) (drop counts rs)
      → Walking write n row (max_of w) ds vs rs x y at from counts 0 n x y
  walk_start at from counts e = record {
    elements = [];
    counted = zero-add n;
    rest = e ∙ rw (eq-eqb n n refl) (sym (joined-none (row_from (max_of w) none n (drop at ds) (drop from vs) (drop counts rs))));
    small = omega arith;
    puts = record { written = λ t. puts_none x y 0; kept = λ f. record { row = refl; marks = refl } };
    long = as_long;
  }

  module _ {at from counts previous left : ℕ} {x' y' : List ℕ}
      (k : Walking write n row (max_of w) ds vs rs x y at from counts previous left x' y') where
    -- a number that refuses the rest refuses the row
    stops_at : {x'' y'' : List ℕ} (e : ℕ) → (e ≡ 0 → ⊥)
        → row_from (max_of w) (previous_at n left previous) left (drop at ds) (drop from vs) (drop counts rs) ≡ stops e
        → (write ≡ false → Unchanged x' y' x'' y'') → Walked write n row x y x'' y'' e
    stops_at e h stop same = record {
      stopped = λ g. k.rest ∙ ap (joined_to k.elements) stop;
      done = λ z. absurd (h z);
      kept = λ f. unchanged-more (k.puts.kept f) (same f);
    }

    pub walk_ends : 0 < left → length ds ≤ at → Walked write n row x y x' y' 25
    walk_ends h out =
        stops_at 25 (λ z. omega arith)
        (rw (drop_of_length-le ds out) (from-ends (max_of w) (previous_at n left previous) left (drop from vs) (drop counts rs) h))
        (λ f. record { row = refl; marks = refl })

    pub walk-done : left ≡ 0 → Walked write n row x y x' y' 0
    walk-done z = record {
      stopped = λ g. absurd (g refl);
      done = λ e. record {
        elements = k.elements;
        whole = record {
          data_left = drop at ds;
          values_left = drop from vs;
          counts_left = drop counts rs;
          reading = k.rest ∙ ap (joined_to k.elements) none_left ∙ ap (λ (es : List Element). reads es (drop at ds) (drop from vs)
              (drop counts rs)) (append-nil k.elements);
          count = (let q : length k.elements ≡ n = omega (arith, k.counted) in q);
        };
        written = k.puts.written;
      };
      kept = k.puts.kept;
    }
      where
        none_left : row_from (max_of w) (previous_at n left previous) left (drop at ds) (drop from vs) (drop counts rs)
            ≡ reads [] (drop at ds) (drop from vs) (drop counts rs)
        none_left = rw z (from_zero (max_of w) (previous_at n 0 previous) (drop at ds) (drop from vs) (drop counts rs))

    -- the element of DATA that is next
    module _ {e : ℕ} (some : 0 < left) (inside : at < length ds) (o : Offset w (get_or ds at (pos 0)) e) where
      next : row_from (max_of w) (previous_at n left previous) left (drop at ds) (drop from vs) (drop counts rs)
          ≡ and_then (part_of (max_of w) (previous_at n left previous) left (get_or ds at (pos 0)) (drop from vs) (drop counts rs))
          (λ es q ws ts. row_from (max_of w) q (left - length es) (drop (at + 1) ds) ws ts)
      next =
          rw (drop-cons ds at (pos 0) inside, add-one at)
          (from_next (max_of w) (previous_at n left previous) left (get_or ds at (pos 0)) (drop (suc at) ds) (drop from vs)
          (drop counts rs) some)

      stops-here : {x'' y'' : List ℕ} (c : ℕ) → (c ≡ 0 → ⊥)
          → part_of (max_of w) (previous_at n left previous) left (get_or ds at (pos 0)) (drop from vs) (drop counts rs) ≡ fault c
          → (write ≡ false → Unchanged x' y' x'' y'') → Walked write n row x y x'' y'' c
      stops-here c h part same = stops_at c h (next ∙ rw part refl) same

      -- the next turn, after elements es
      goes_on_lem : {x'' y'' : List ℕ} {at' from' counts' previous' left' : ℕ} → at' ≡ at + 1 → (es : List Element) (q : Previous)
          → part_of (max_of w) (previous_at n left previous) left (get_or ds at (pos 0)) (drop from vs) (drop counts rs)
          ≡ gives es q (drop from' vs) (drop counts' rs)
          → 0 < length es → length es ≤ left → left' ≡ left - length es → (0 < left' → q ≡ value (offset_value previous'))
          → previous' < 4294967296 → PutsIf write x' y' (n - left) es x'' y'' → AsLong x' y' x'' y''
          → Walking write n row (max_of w) ds vs rs x y at' from' counts' previous' left' x'' y''
      goes_on_lem {x''} {y''} {at'} {from'} {counts'} {previous'} {left'} moved es q part more few less last small puts long = record {
        elements = k.elements ++ es;
        counted = omega (arith, k.counted, length-append k.elements es);
        rest =
            k.rest
            ∙ ap (joined_to k.elements) turn
            ∙ joined-joined k.elements es
            (row_from (max_of w) (previous_at n left' previous') left' (drop at' ds) (drop from' vs) (drop counts' rs));
        small = small;
        puts = puts-next room k.counted few k.puts puts;
        long = as-long-more k.long long;
      }
        where
          same-previous : (q : Previous) → (0 < left' → q ≡ value (offset_value previous'))
              → row_from (max_of w) q left' (drop at' ds) (drop from' vs) (drop counts' rs)
              ≡ row_from (max_of w) (previous_at n left' previous') left' (drop at' ds) (drop from' vs) (drop counts' rs)
          same-previous q last =
              by-test (eqb left' 0)
              (λ t. rw (eqb-true left' 0 t)
              (from_zero (max_of w) q (drop at' ds) (drop from' vs) (drop counts' rs)
              ∙ sym (from_zero (max_of w) (previous_at n 0 previous') (drop at' ds) (drop from' vs) (drop counts' rs))))
              (λ t. let z : left' ≡ 0 → ⊥ = eqb-false left' 0 t in
              let d : left' ≡ n → ⊥ = (λ g. omega (arith, k.counted)) in
              let is : q ≡ previous_at n left' previous' = last (omega arith) ∙ rw (ne_eqb left' n d) refl in
              ap (λ (p : Previous). row_from (max_of w) p left' (drop at' ds) (drop from' vs) (drop counts' rs)) is)

          turn : row_from (max_of w) (previous_at n left previous) left (drop at ds) (drop from vs) (drop counts rs)
              ≡ joined_to es (row_from (max_of w) (previous_at n left' previous') left' (drop at' ds) (drop from' vs) (drop counts' rs))
          turn =
              next
              ∙ rw part
              (ap (λ (m : ℕ). joined_to es (row_from (max_of w) q m (drop (at + 1) ds) (drop from' vs) (drop counts' rs))) (sym less)
              ∙ ap (λ (m : ℕ). joined_to es (row_from (max_of w) q left' (drop m ds) (drop from' vs) (drop counts' rs))) (sym moved)
              ∙ ap (joined_to es) (same-previous q last))

      -- a flag; h is half of the numbers, as the code has it
      module _ {h : ℕ} {x'' y'' : List ℕ} {r : Result Step Refusal} (half : h ≡ half_of w) (test : 2147483647 + h < e + 5)
          (step : FlagStep write (flag_at (2147483647 + h - e)) left vs rs from counts x' y' (n - left) x'' y'' r) where
        low : 2147483647 + half_of w - e < 5
        low = omega arith

        s : FlagStep write (flag_at (2147483647 + half_of w - e)) left vs rs from counts x' y' (n - left) x'' y'' r
        s =
            subst (λ (m : ℕ). FlagStep write (flag_at (2147483647 + m - e)) left vs rs from counts x' y' (n - left) x'' y'' r) half step

        pub walk_refused : {c : Refusal} → r ≡ Err c → Walked write n row x y x'' y'' (refusal_number c)
        walk_refused {c} is =
            stops-here (refusal_number c) (λ z. omega (arith, refusal_not_done c, z))
            (part-flag width o (previous_at n left previous) left (drop from vs) (drop counts rs) low
            ∙ IfErr-at_err _ is s.refused (previous_at n left previous))
            s.kept

        pub walk-flag : {at' : ℕ} {g : Step} → at' ≡ at + 1 → r ≡ Ok g → AsLong x' y' x'' y''
            → Walking write n row (max_of w) ds vs rs x y at' g.value.0 g.repeat.0 g.previous (left - g.given) x'' y''
        walk-flag {g = went} moved is long =
            let g : StepGoes write (flag_at (2147483647 + half_of w - e)) left vs rs from counts x' y' (n - left) x'' y'' went =
            IfOk-at_ok _ is s.goes in
            goes_on_lem moved g.elements (last_from (previous_at n left previous) g.values)
            (part-flag width o (previous_at n left previous) left (drop from vs) (drop counts rs) low ∙ g.part (previous_at n left previous))
            g.some g.few (ap (λ (m : ℕ). left - m) g.given)
            (λ h. g.last (omega (arith, g.given)) (previous_at n left previous)) g.small
            (record { written = g.written; kept = s.kept }) long

      -- a difference
      module _ {h : ℕ} (half : h ≡ half_of w) (test : e + 5 ≤ 2147483647 + h) where
        high : 5 ≤ 2147483647 + half_of w - e
        high = omega arith

        pub walk_first : left ≡ n → Walked write n row x y x' y' 27
        walk_first h =
            stops-here 27 (λ z. omega arith)
            (part_none width o (previous_at n left previous) left (drop from vs) (drop counts rs) high (rw (eq-eqb left n h) refl))
            (λ f. record { row = refl; marks = refl })

        module _ (later : left ≡ n → ⊥) where
          sum : part_of (max_of w) (previous_at n left previous) left (get_or ds at (pos 0)) (drop from vs) (drop counts rs)
              ≡ summed (offset_value previous +ℤ offset_value e) (drop from vs) (drop counts rs)
          sum =
              part-sum width o (previous_at n left previous) left (drop from vs) (drop counts rs) previous high
              (rw (ne_eqb left n later) refl)

          pub walk-below : previous + e < 2147483648 → Walked write n row x y x' y' 28
          walk-below h =
              stops-here 28 (λ z. omega arith) (sum ∙ rw (below-32 previous e h) refl) (λ f. record { row = refl; marks = refl })

          pub walk-above : 6442450943 < previous + e → Walked write n row x y x' y' 28
          walk-above h =
              stops-here 28 (λ z. omega arith) (sum ∙ rw (above-32 previous e (omega arith)) refl)
              (λ f. record { row = refl; marks = refl })

          pub walk-sum : {at' : ℕ} {x'' y'' : List ℕ} → at' ≡ at + 1 → 2147483648 ≤ previous + e → previous + e ≤ 6442450943
              → PutsIf write x' y' (n - left) (good (offset_value (previous + e - 2147483648)) ∷ []) x'' y'' → AsLong x' y' x'' y''
              → Walking write n row (max_of w) ds vs rs x y at' from counts (previous + e - 2147483648) (left - 1) x'' y''
          walk-sum moved h g puts long =
              let v : ℕ = previous + e - 2147483648 in
              let small : v < 4294967296 = omega arith in
              goes_on_lem moved (good (offset_value v) ∷ []) (value (offset_value v))
              (sum ∙ rw (sum_is previous e h, in-32 v small) refl) (omega arith) (omega arith) refl (λ z. refl) small puts long

-- ---- what the code asks for
pub width-most : {w : ℕ} → Width w → w ≤ 32
width-most eight = omega arith
width-most sixteen = omega arith
width-most thirty_two = omega arith

pub width_some : {w : ℕ} → Width w → 1 ≤ w
width_some eight = omega arith
width_some sixteen = omega arith
width_some thirty_two = omega arith

pub half-most : {w : ℕ} → Width w → half_of w ≤ 2147483648
half-most eight = omega arith
half-most sixteen = omega arith
half-most thirty_two = omega arith

-- the room that the rest of the row has
pub walk-room : {write : Bool} {n : ℕ} {row : RowReading} {max : ℤ} {ds vs rs : List ℤ} {x y : List ℕ} {at from counts previous left : ℕ}
    {x' y' : List ℕ} → RoomFor x y 0 n → Walking write n row max ds vs rs x y at from counts previous left x' y'
    → RoomFor x' y' (n - left) left
walk-room room k = record {
  row = omega (arith, room.row, k.long.row, k.counted);
  marks = omega (arith, room.marks, k.long.marks, k.counted);
}

pub walk-few : {write : Bool} {n : ℕ} {row : RowReading} {max : ℤ} {ds vs rs : List ℤ} {x y : List ℕ} {at from counts previous left : ℕ}
    {x' y' : List ℕ} → Walking write n row max ds vs rs x y at from counts previous left x' y' → left ≤ n
walk-few k = omega (arith, k.counted)
