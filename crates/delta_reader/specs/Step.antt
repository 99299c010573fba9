-- What one flag of DATA comes to in the code. vs and rs are all values and counts. Definitions only; their laws are in Step/. Assumes
-- nothing.
use Rattle.std.specs.Prelude.{ℕ, ◌+◌, ◌≤◌, ◌<◌, ◌≡◌, Bool, true, false, cond, List, length, drop, ℤ, Result, IfOk, IfErr}
use Rattle.delta_format.specs.Row.{Element, Flag, Previous, value, last_from, fault, gives, flag_part}
use Rattle.answer.specs.declared.refusal.Refusal.{Refusal}
use Rattle.answer.specs.Refusal.{refusal_number}
use Rattle.delta_reader.specs.declared.step.Step.{Step}
use Rattle.delta_reader.specs.Offset.{offset_value}
use Rattle.delta_reader.specs.Flags.{is_counted}
use Rattle.delta_reader.specs.Puts.{PutsElements, Unchanged}
pub mod Laws
pub mod Goes

-- r is the last of the values us, if there are any, in offset binary
pub record LastValue (us : List ℤ) (r : ℕ) : Type 0 where
  pub last : 0 < length us → (p : Previous) → last_from p us ≡ value (offset_value r)
  pub small : r < 4294967296

-- the place in REPEAT after a flag
abbrev pub count_place : Flag → ℕ → ℕ
count_place f n = cond (is_counted f) (n + 1) n

-- a flag that is done
pub record StepGoes (write : Bool) (f : Flag) (left : ℕ) (vs rs : List ℤ) (from counts : ℕ) (x y : List ℕ) (at : ℕ) (x' y' : List ℕ)
    (r : Step) : Type 0 where
  pub elements : List Element
  pub values : List ℤ
  pub part : (p : Previous) → flag_part f p left (drop from vs) (drop counts rs)
      ≡ gives elements (last_from p values) (drop r.value.0 vs) (drop r.repeat.0 rs)
  pub given : r.given ≡ length elements
  pub some : 0 < length elements
  pub few : length elements ≤ left
  -- unless the row ends with it, it leaves a value for the next difference
  pub last : length elements < left → (p : Previous) → last_from p values ≡ value (offset_value r.previous)
  pub small : r.previous < 4294967296
  pub written : write ≡ true → PutsElements x y at elements x' y'

pub record FlagStep (write : Bool) (f : Flag) (left : ℕ) (vs rs : List ℤ) (from counts : ℕ) (x y : List ℕ) (at : ℕ) (x' y' : List ℕ)
    (r : Result Step Refusal) : Type 0 where
  pub refused : IfErr r (λ e. (p : Previous) → flag_part f p left (drop from vs) (drop counts rs) ≡ fault (refusal_number e))
  pub goes : IfOk r (StepGoes write f left vs rs from counts x y at x' y')
  pub kept : write ≡ false → Unchanged x y x' y'
