-- The ways out of reading a record. Assumes nothing.
use Rattle.std.specs.Prelude.{ℕ, zero, suc, ◌≤◌, ◌≡◌, refl, List, [], ◌++◌, length, drop}
use Rattle.std.proofs.Common.{sym, ◌∙◌}
use Rattle.answer.specs.Outcome.{outcome, writes, unless}
use Rattle.answer.specs.Outcome.Laws.{unless-refused}
use Rattle.sheet_format.specs.declared.RecordRead.{RecordRead}
use Rattle.sheet_format.specs.Reading.{refused_record}
use Rattle.sheet_reader.specs.Leaves.{Leaves}

-- no content changes no memory
pub leaves_nothing : (e s : ℕ) (m : List ℕ) (a : RecordRead)
    → outcome (unless e (refused_record s) a) m ≡ unless e (λ k. outcome (refused_record s k) m) (writes a [] m)
leaves_nothing zero s m a = refl
leaves_nothing (suc e) s m a = refl

pub answer-refused : {e n : ℕ} (s : ℕ) (a : RecordRead) {x : RecordRead} → x ≡ refused_record s n → n ≡ e → (n ≡ 0 → ⊥)
    → x ≡ unless e (refused_record s) a
answer-refused {e} {n} s a is same some = is ∙ rw (← same) (sym (unless-refused n (refused_record s) a some))

-- ---- the two ways out
module _ {e s : ℕ} {a : RecordRead} {d : List ℕ} {room : ℕ} {m : List ℕ} {x : RecordRead} where
  pub refuses : {n : ℕ} → x ≡ refused_record s n → n ≡ e → (n ≡ 0 → ⊥) → Leaves e s a d room m x m
  refuses {n} is same some = record {
    answer = answer-refused s a is same some;
    memory = λ enough. rw (is, ← same) (sym (unless-refused n (λ k. outcome (refused_record s k) m) (writes a d m) some));
  }

  pub holds : e ≡ 0 → x ≡ a → (n : ℕ) (m' : List ℕ) → length d ≡ n → (room ≤ length m → m' ≡ d ++ drop n m)
      → Leaves e s a d room m x m'
  holds none is n m' size kept = record { answer = rw none is; memory = λ enough. rw (none, is, kept enough, size) }
