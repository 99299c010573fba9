-- The ways out of judging a record's length and kind. Assumes nothing.
use Prim.Native.Nat.{ℕ, ◌+◌, ◌-◌, ◌≤◌, ◌<◌}
use native.Mathlib.Omega.{arith}
use mathlib.Core.Path.{◌≡◌, refl, sym, ◌∙◌}
use mathlib.Core.Bool.{false}
use mathlib.Core.List.{List}
use lib.ListN.{length, take, drop, length-take}
use borrow.Author.Tests.{lt-ltb, le-ltb}
use Rattle.answer.specs.Outcome.{lent}
use Rattle.answer.specs.Outcome.Laws.{given-first}
use Rattle.row_format.specs.Place.{has_place}
use Rattle.sheet_format.specs.declared.RecordRead.{RecordRead}
use Rattle.sheet_format.specs.Context.{Context}
use Rattle.sheet_format.specs.Kind.Table.{table_own, table_kind}
use Rattle.sheet_format.specs.Kind.{unknown}
use Rattle.sheet_format.specs.Kinds.{kind_of}
use Rattle.sheet_format.specs.Record.{length_field, kind_field, length_number, content_number, record_number}
use Rattle.sheet_format.specs.Record.Laws.{RightLength, length_number-right, right-length}
use Rattle.sheet_format.specs.Reading.{refused_record, record_stop, body_held, record_held, record_content}
use Rattle.sheet_format.specs.Reading.Laws.{refused-anywhere}
use Rattle.sheet_format.proofs.Theorems.Numbers.{length_number-in}
use Rattle.sheet_reader.specs.Leaves.{BodyLeaves, RecordLeaves, table_judged}
use Rattle.sheet_reader.specs.Leaves.Laws.{leaves_nothing, refuses}

-- ---- the length
pub length-missing : (r : List ℕ) → length r < 4 → 14 ≡ length_number r
unfolding length_number
length-missing r h = rw (lt-ltb (length r) 4 h)

module _ (r : List ℕ) (four : 4 ≤ length r) (n : ℕ) (is : n ≡ length_field r) where
  pub length-small : n < 2 → 14 ≡ length_number r
  unfolding length_number
  length-small h = rw (le-ltb (length r) 4 four, ← is, lt-ltb n 2 h)

  pub length-large : 2 ≤ n → 32774 < n → 14 ≡ length_number r
  unfolding length_number
  length-large low h = rw (le-ltb (length r) 4 four, ← is, le-ltb n 2 low, lt-ltb 32774 n h)

  pub length-past : 2 ≤ n → n ≤ 32774 → length r < 4 + n → 14 ≡ length_number r
  unfolding length_number
  length-past low high h = rw (le-ltb (length r) 4 four, ← is, le-ltb n 2 low, le-ltb 32774 n high, lt-ltb (length r) (4 + n) h)

  pub length-right : 2 ≤ n → n ≤ 32774 → 4 + n ≤ length r → 0 ≡ length_number r
  length-right low high h = sym (length_number-right r (record { least = rw (← is) low; most = rw (← is) high; there = rw (← is) h }))

pub number-right : (r : List ℕ) {n : ℕ} → n ≡ length_number r → n ≡ 0 → RightLength r
number-right r is none = right-length r (sym is ∙ none)

pub body-short : (r : List ℕ) (size : ℕ) → size ≤ 32774 → length (take (4 + size - 6) (drop 6 r)) ≤ 32772
body-short r size h = omega (arith, length-take (4 + size - 6) (drop 6 r))

-- 14 shows no place
length-placeless : (r : List ℕ) → has_place (length_number r) ≡ false
length-placeless r = length_number-in (λ e. has_place e ≡ false) refl refl r

-- ---- a record, by its length, and by its body
module _ {room : ℕ} {c : Context} {r m : List ℕ} {x : RecordRead} {n : ℕ} (is : n ≡ length_number r) where
  pub frame-refuses : x ≡ refused_record 0 n → (n ≡ 0 → ⊥) → RecordLeaves room c r m x m
  unfolding record_number
  frame-refuses refused some =
      let anywhere = refused-anywhere n (record_stop c r) (rw is (length-placeless r)) in
      record { leaves = refuses (refused ∙ anywhere) (given-first (length_number r) _ is some) some }

  pub frame-leaves : n ≡ 0 → {m' : List ℕ} (size code : ℕ) → size ≡ length_field r → code ≡ kind_field r
      → BodyLeaves room code (4 + size) c (take (4 + size - 6) (drop 6 r)) m x m' → RecordLeaves room c r m x m'
  unfolding record_number record_stop record_held record_content
  frame-leaves none {m'} size code size_is code_is l =
      let end : 4 + size - 6 ≡ length_field r - 2 = omega arith in
      let l' = rw (end, size_is, code_is) at l.leaves in
      record { leaves = rw (sym is ∙ none) l' }

-- ---- a body, by its kind
module _ {room : ℕ} {c : Context} {b m : List ℕ} {x : RecordRead} {code whole : ℕ} where
  pub table-leaves : code ≡ 1 → x ≡ table_judged whole c b → BodyLeaves room code whole c b m x m
  unfolding content_number table_own
  table-leaves is judged =
      let number = content_number table_kind (lent room) c b in
      let a = body_held table_kind 1 whole c b in
      record {
        leaves = rw is (record { answer = judged; memory = λ enough. rw judged (leaves_nothing number 0 m a) });
      }

  pub unknown-leaves : kind_of code ≡ unknown → x ≡ refused_record 0 15 → BodyLeaves room code whole c b m x m
  unknown-leaves none is = record { leaves = rw none (refuses is refl (λ e. omega arith)) }
