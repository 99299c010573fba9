-- What a flag takes from REPEAT and VALUE, as the code keeps it. Definitions only; their laws are in Flags/. Assumes nothing.
use Rattle.std.specs.Prelude.{ℕ, zero, suc, ◌+◌, ◌≤◌, ◌<◌, ◌≡◌, Bool, true, false, cond, List, [], ◌∷◌, length, take, drop, ℤ, Result, Ok, Err}
use Rattle.answer.specs.declared.refusal.Refusal.{Refusal}
use Rattle.answer.specs.Refusal.{refusal_number}
use Rattle.answer.specs.Outcome.{unless}
use Rattle.delta_format.specs.Row.{
  Flag,
  full,
  same,
  bad-run,
  bad-one,
  fulls,
  Previous,
  last_from,
  gives,
  count_of,
  values_for,
  elements_for,
  flag_number,
  flag_part,
}
use Rattle.delta_reader.specs.declared.flag.Taken.{Taken}
pub mod Laws
pub mod Takes

-- the flag that lies so far below MAX
abbrev pub flag_at : ℕ → Flag
flag_at zero = full
flag_at (suc zero) = same
flag_at (suc (suc zero)) = bad-run
flag_at (suc (suc (suc zero))) = bad-one
flag_at (suc (suc (suc (suc k)))) = fulls

abbrev pub is_bad : Flag → Bool
is_bad full = false
is_bad same = false
is_bad bad-run = true
is_bad bad-one = true
is_bad fulls = false

abbrev pub is_counted : Flag → Bool
is_counted full = false
is_counted same = true
is_counted bad-run = true
is_counted bad-one = false
is_counted fulls = true

-- what a flag takes, with the number that refuses it, and 0 where it is done
pub record TakenAnswer : Type 0 where
  pub number : ℕ
  pub count : ℕ
  pub values : ℕ

abbrev pub taken_none : ℕ → TakenAnswer
taken_none e = record { number = e; count = 0; values = 0 }

-- as the code gives it
abbrev pub as_taken : Result Taken Refusal → TakenAnswer
as_taken (Ok t) = record { number = 0; count = t.count; values = t.values }
as_taken (Err e) = taken_none (refusal_number e)

-- with the count c
abbrev pub taken_at : Flag → ℕ → ℕ → List ℤ → TakenAnswer
taken_at f left c vs =
    unless (flag_number left c (values_for f left c) vs) taken_none (record { number = 0; count = c; values = values_for f left c })

-- with the count that REPEAT has next
abbrev pub taken_next : Flag → ℕ → List ℤ → List ℤ → TakenAnswer
taken_next f left vs [] = taken_none 25
taken_next f left vs (c ∷ rs) = taken_at f left (count_of c) vs

abbrev pub taken_of : Flag → ℕ → List ℤ → List ℤ → TakenAnswer
taken_of f left vs rs = cond (is_counted f) (taken_next f left vs rs) (taken_at f left 1 vs)

-- what is left of REPEAT
abbrev pub counts_after : Flag → List ℤ → List ℤ
counts_after f rs = cond (is_counted f) (drop 1 rs) rs

-- how many elements of the row a flag gives that has taken these
abbrev pub elements_given : Flag → ℕ → ℕ → ℕ
elements_given full c n = n
elements_given same c n = c
elements_given bad-run c n = c + n
elements_given bad-one c n = c + n
elements_given fulls c n = n

-- VALUE has the n values that a flag takes; a run of one value takes one
pub record FlagValues (f : Flag) (n : ℕ) (vs : List ℤ) : Type 0 where
  pub enough : n ≤ length vs
  pub one : f ≡ same → n ≡ 1

-- what a flag gives that has taken t
pub record FlagTakes (f : Flag) (left : ℕ) (vs rs : List ℤ) (t : Taken) : Type 0 where
  pub some : 0 < t.count
  pub most : t.count ≤ left
  pub wanted : t.values ≡ values_for f left t.count
  pub enough : t.values ≤ length vs
  pub part : (p : Previous) → flag_part f p left vs rs
      ≡ gives (elements_for f t.count (take t.values vs)) (last_from p (take t.values vs)) (drop t.values vs) (counts_after f rs)
