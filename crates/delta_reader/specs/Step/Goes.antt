-- A flag's step, from what its parts leave. Assumes nothing.
use Rattle.std.specs.Prelude.{ℕ, ◌+◌, ◌≤◌, ◌<◌, ◌≡◌, refl, Bool, true, List, [], length, take, drop, leb, ℤ, Ok, Err}
use Rattle.std.proofs.Common.{arith, sym, ap, ◌∙◌, length-drop, drop_of_length-le, drop-drop, length-take-le, leb-true, leb-false}
use Rattle.row_format.specs.Lists.Laws.{by-test}
use Rattle.delta_format.specs.Row.{Flag, last_from, gives, elements_for}
use Rattle.answer.specs.declared.refusal.Refusal.{Refusal}
use Rattle.delta_reader.specs.declared.flag.Taken.{Taken}
use Rattle.delta_reader.specs.declared.step.Step.{Step}
use Rattle.delta_reader.specs.Flags.{TakenAnswer, is_counted, as_taken, taken_none, taken_of, counts_after, elements_given, FlagTakes}
use Rattle.delta_reader.specs.Flags.Takes.{taken-faults, takes-given, takes-few, takes-some, takes-last}
use Rattle.delta_reader.specs.Puts.{PutsIf}
use Rattle.delta_reader.specs.Step.{LastValue, count_place, StepGoes, FlagStep}

-- ---- the next places
counts-next : (f : Flag) (counts : ℕ) (rs : List ℤ) → counts_after f (drop counts rs) ≡ drop (count_place f counts) rs
counts-next f counts rs = by-test (is_counted f) (λ e. rw e (drop-drop 1 counts rs)) (λ e. rw e refl)

-- a flag that has a count has found it in REPEAT
pub counted-inside : (f : Flag) (left : ℕ) (vs rs : List ℤ) (counts : ℕ) {t : Taken}
    → as_taken (Ok t) ≡ taken_of f left vs (drop counts rs) → is_counted f ≡ true → counts < length rs
counted-inside f left vs rs counts {t} e counted =
    by-test (leb (length rs) counts)
    (λ h. let out : drop counts rs ≡ [] = drop_of_length-le rs (leb-true (length rs) counts h) in
    let is : taken_of f left vs (drop counts rs) ≡ taken_none 25 = rw (counted, out) refl in
    let q : ◌≡◌ {A = ℕ} 0 25 = ap (λ (a : TakenAnswer). a.number) (e ∙ is) in
    omega arith)
    (leb-false (length rs) counts)

pub values-inside : (vs : List ℤ) (from n : ℕ) → n ≤ length (drop from vs) → (n ≡ 0 → ⊥) → from + n ≤ length vs
values-inside vs from n h g = omega (arith, length-drop from vs)

-- ---- done
module _ {write : Bool} {f : Flag} {left : ℕ} (vs rs : List ℤ) (from counts : ℕ) {x y : List ℕ} {at : ℕ} {x' y' : List ℕ} {t : Taken}
    (k : FlagTakes f left (drop from vs) (drop counts rs) t)
    (q : PutsIf write x y at (elements_for f t.count (take t.values (drop from vs))) x' y') where
  step-goes : {r : Step} → r.given ≡ elements_given f t.count t.values → LastValue (take t.values (drop from vs)) r.previous
      → r.value.0 ≡ from + t.values → r.repeat.0 ≡ count_place f counts
      → StepGoes write f left vs rs from counts x y at x' y' r
  step-goes {r} given last places counted =
      let us : List ℤ = take t.values (drop from vs) in
      let many : length (elements_for f t.count us) ≡ elements_given f t.count t.values = takes-given f k in
      let taken : length us ≡ t.values = length-take-le t.values (drop from vs) k.enough in
      record {
        elements = elements_for f t.count us;
        values = us;
        part = λ p.
            k.part p
            ∙ ap (λ (ws : List ℤ). gives (elements_for f t.count us) (last_from p us) ws (counts_after f (drop counts rs)))
            (drop-drop t.values from vs ∙ ap (λ (n : ℕ). drop n vs) (sym places))
            ∙ ap (gives (elements_for f t.count us) (last_from p us) (drop r.value.0 vs))
            (counts-next f counts rs ∙ ap (λ (n : ℕ). drop n rs) (sym counted));
        given = given ∙ sym many;
        some = omega (arith, many, takes-some f k);
        few = omega (arith, many, takes-few f k);
        last = λ h. last.last (omega (arith, taken, takes-last f k (omega (arith, many))));
        small = last.small;
        written = q.written;
      }

  pub step-done : {r : Step} → r.given ≡ elements_given f t.count t.values
      → LastValue (take t.values (drop from vs)) r.previous → r.value.0 ≡ from + t.values → r.repeat.0 ≡ count_place f counts
      → FlagStep write f left vs rs from counts x y at x' y' (Ok r)
  step-done given last places counted = record { refused = tt; goes = step-goes given last places counted; kept = q.kept }

-- ---- refused
pub step-refused : {write : Bool} (f : Flag) (left : ℕ) (vs rs : List ℤ) (from counts : ℕ) {x y : List ℕ} {at : ℕ} (e : Refusal)
    → as_taken (Err e) ≡ taken_of f left (drop from vs) (drop counts rs)
    → FlagStep write f left vs rs from counts x y at x y (Err e)
step-refused f left vs rs from counts e is = record {
  refused = taken-faults f left (drop from vs) (drop counts rs) e is;
  goes = tt;
  kept = λ w. record { row = refl; marks = refl };
}
