-- Document 01, "Numbers that a call returns": what a call leaves, and how refusals are put in order. Assumes nothing.
use Rattle.std.specs.Prelude.{ℕ, zero, suc, ◌≡◌, Bool, cond, List, ◌++◌, length, drop, ltb}
use Rattle.answer.specs.declared.Answer.{Answer}
pub mod Laws

-- a call's answer, of whatever type, and the memory lent for writing as the call leaves it
pub record Outcome (A : Type 0) : Type 0 where
  pub answer : A
  pub memory : List ℕ

abbrev pub outcome : {A : Type 0} → A → List ℕ → Outcome A
outcome a m = record { answer = a; memory = m }

-- done: the answer a; the bytes b stand at the front of the lent memory, and what follows is as it was
abbrev pub writes : {A : Type 0} → A → List ℕ → List ℕ → Outcome A
writes a b m = outcome a (b ++ drop (length b) m)

-- ---- refusals in order: the first number that is not 0
abbrev pub ◌or_else◌ : ℕ → ℕ → ℕ
zero or_else d = d
suc e or_else d = suc e

infixr 20 ◌or_else◌
abbrev pub refuse_if : Bool → ℕ → ℕ
refuse_if b e = cond b e 0

-- what a call comes to: what it gives where it is done, unless a number other than 0 refuses it
abbrev pub unless : {A : Type 0} → ℕ → (ℕ → A) → A → A
unless zero refusal done = done
unless (suc e) refusal done = refusal (suc e)

-- ---- 5: "lent room smaller than this call's output"
-- how much is lent for a call's output, in bytes or in words. A call that only judges lends nothing and is never refused 5
pub data Lent : Type 0 where
  nothing : Lent
  lent : ℕ → Lent

-- for an output of n
abbrev pub room_number : Lent → ℕ → ℕ
room_number nothing n = 0
room_number (lent m) n = refuse_if (ltb m n) 5

-- ---- an answer of a number and a count
abbrev pub answer_of : ℕ → ℕ → Answer
answer_of e c = record { number = e; count = c }

-- "Every refusal returns 0 for all counts and values, and the lent output holds what it held"
abbrev pub refusal : ℕ → Answer
refusal e = answer_of e 0

abbrev pub refused : ℕ → List ℕ → Outcome Answer
refused e m = outcome (refusal e) m

abbrev pub wrote : ℕ → List ℕ → List ℕ → Outcome Answer
wrote c b m = writes (answer_of 0 c) b m

-- so many bytes b at the front of the lent memory m, or 5 where they have no room there
abbrev pub wrote_or_full : ℕ → List ℕ → List ℕ → Outcome Answer
wrote_or_full c b m = unless (room_number (lent (length m)) c) (λ e. refused e m) (wrote c b m)

-- ---- what demand 1 says of any outcome o of a call that was lent the memory m
-- "A refused call gives its number, zero for every count and value, and leaves the lent memory as found": none is the answer
-- that has the number, and 0 for all else
pub record Kept {A : Type 0} (none : A) (m : List ℕ) (o : Outcome A) : Type 0 where
  pub answer : o.answer ≡ none
  pub memory : o.memory ≡ m

-- "A done call writes only the pixels, words or bytes that it counts": past its first k bytes the memory is as it was
pub record Within {A : Type 0} (k : ℕ) (m : List ℕ) (o : Outcome A) : Type 0 where
  pub size : length o.memory ≡ length m
  pub rest : drop k o.memory ≡ drop k m
