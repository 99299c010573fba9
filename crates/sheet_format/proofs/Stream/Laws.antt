-- The laws of what comes next: at the sheet's end, at a refused record and at an accepted one; the table that is kept and the rows
-- that are counted, by what a record holds. Assumes nothing.
use Rattle.std.specs.Prelude.{ℕ, ◌+◌, ◌≤◌, ◌<◌, ◌≡◌, Bool, true, false, eqb}
use Rattle.std.proofs.Common.{arith, sym, ap, ◌∙◌, eqb-true}
use Rattle.std.proofs.Math.Path.{refl}
use mathlib.Core.List.{List, [], ◌∷◌}
use Rattle.std.proofs.Math.ListN.{length}
use Rattle.std.proofs.lemmas.List.{length-map}
use Rattle.std.proofs.Math.Seq.{take-nil}
use Rattle.std.proofs.lemmas.Bool.{eqb-false}
use Rattle.row_format.specs.Lists.Laws.{by-test, true-false}
use Rattle.answer.specs.Outcome.Laws.{unless-refused}
use Rattle.sheet_format.specs.declared.RecordRead.{RecordRead}
use Rattle.sheet_format.specs.Context.{context_of}
use Rattle.sheet_format.specs.Kind.{Payload, a_table, a_row, a_line, no_payload, is_table, is_row, table_kept}
use Rattle.sheet_format.specs.Kinds.{kind_of}
use Rattle.sheet_format.specs.Record.{body_of, record_span}
use Rattle.sheet_format.specs.Reading.{context_after, record_content, record_judged}
use Rattle.sheet_format.specs.Reading.Laws.{record_content-of, judged-kind, judged-length}
use Rattle.sheet_format.specs.Sheet.{SheetRecord, record_here, StoredRow, with_row, stored_rows, row_numbers}
use Rattle.sheet_format.specs.Stream.{held_of, rows_of, Carried, context_by, carried_next, Next, ended, more, end_number, record_next, next_of}
use Rattle.sheet_format.proofs.Stream.Held.{held-some, bytes-held}
use Rattle.sheet_format.proofs.Theorems.Locality.{span-alike, span-body}
use Rattle.sheet_format.proofs.Theorems.State.{context_after-kept}

-- ---- what comes next
pub next_of-end : (p : Carried) → next_of p [] ≡ ended (end_number p.index) 0
unfolding next_of
next_of-end p = refl

module _ (p : Carried) (b : List ℕ) where
  next_of-record : 0 < length b → next_of p b ≡ record_next p b (record_judged (context_by p) b)
  unfolding next_of
  next_of-record = go b
    where
      go : (b : List ℕ) → 0 < length b → next_of p b ≡ record_next p b (record_judged (context_by p) b)
      go [] h = absurd (omega arith)
      go (x ∷ b) h = refl

  pub next_of-refused : 0 < length b → ((record_judged (context_by p) b).number ≡ 0 → ⊥)
      → let a = record_judged (context_by p) b in next_of p b ≡ ended a.number a.at
  next_of-refused some wrong =
      let a = record_judged (context_by p) b in
      next_of-record some ∙ unless-refused a.number (λ e. ended e a.at) _ wrong

  pub next_of-accepted : (record_judged (context_by p) b).number ≡ 0
      → next_of p b ≡ more (record_here (context_by p) b) (carried_next p b (record_judged (context_by p) b))
  next_of-accepted ok = next_of-record (omega (arith, judged-length (context_by p) b ok)) ∙ rw ok

-- the two are told apart
abbrev pub goes_on : Next → Bool
goes_on (ended e at) = false
goes_on (more x q) = true

-- what comes next is a record only where one is accepted
pub next_of-goes-on : (p : Carried) (b : List ℕ) → goes_on (next_of p b) ≡ true → (record_judged (context_by p) b).number ≡ 0
next_of-goes-on p [] on = true-false on (ap goes_on (next_of-end p))
next_of-goes-on p (x ∷ b) on =
    let number = (record_judged (context_by p) (x ∷ b)).number in
    by-test (eqb number 0) (λ e. eqb-true number 0 e)
    (λ e. true-false on (ap goes_on (next_of-refused p (x ∷ b) (omega arith) (eqb-false number 0 e))))

-- to show something of what comes next, show it at the sheet's end, at a refused record and at an accepted one
pub next_of-cases : (P : Next → Type 0) (p : Carried) (b : List ℕ)
    → (b ≡ [] → P (ended (end_number p.index) 0))
    → (let a = record_judged (context_by p) b in 0 < length b → (a.number ≡ 0 → ⊥) → P (ended a.number a.at))
    → (let a = record_judged (context_by p) b in a.number ≡ 0 → P (more (record_here (context_by p) b) (carried_next p b a)))
    → P (next_of p b)
next_of-cases P p [] none refused accepted = rw (next_of-end p) (none refl)
next_of-cases P p (x ∷ b) none refused accepted =
    let number = (record_judged (context_by p) (x ∷ b)).number in
    by-test (eqb number 0)
    (λ e. let ok = eqb-true number 0 e in rw (next_of-accepted p (x ∷ b) ok) (accepted ok))
    (λ e. let wrong = eqb-false number 0 e in rw (next_of-refused p (x ∷ b) (omega arith) wrong) (refused (omega arith) wrong))

-- ---- the bytes that are held say what comes next
module _ (p : Carried) (r : List ℕ) where
  same-judged : record_judged (context_by p) (held_of r) ≡ record_judged (context_by p) r
  same-judged = (span-alike (context_by p) r).0

  module _ (ok : (record_judged (context_by p) r).number ≡ 0) where
    held-ok : (record_judged (context_by p) (held_of r)).number ≡ 0
    held-ok = rw same-judged ok

    same-content : record_content (context_by p) (held_of r) ≡ record_content (context_by p) r
    same-content =
        let kind = sym (judged-kind (context_by p) (held_of r) held-ok)
        ∙ ap (λ (a : RecordRead). a.kind) same-judged ∙ judged-kind (context_by p) r ok in
        record_content-of (context_by p) (held_of r) kind (span-body r (context_by p) ok)
        ∙ sym (record_content-of (context_by p) r refl refl)

    held-accepted : next_of p (held_of r) ≡ next_of p r
    held-accepted =
        next_of-accepted p (held_of r) held-ok
        ∙ rw (same-judged, same-content, span-body r (context_by p) ok, bytes-held (context_by p) r ok) (sym (next_of-accepted p r ok))

  held-refused : 0 < length (held_of r) → 0 < length r → ((record_judged (context_by p) r).number ≡ 0 → ⊥)
      → next_of p (held_of r) ≡ next_of p r
  held-refused there some wrong =
      next_of-refused p (held_of r) there (λ e. wrong (rw same-judged at e))
      ∙ ap (λ (a : RecordRead). ended a.number a.at) same-judged ∙ sym (next_of-refused p r some wrong)

pub next_of-held : (p : Carried) (r : List ℕ) → next_of p (held_of r) ≡ next_of p r
next_of-held p [] = ap (next_of p) (take-nil {A = ℕ} (record_span []))
next_of-held p (x ∷ r) =
    let number = (record_judged (context_by p) (x ∷ r)).number in
    by-test (eqb number 0) (λ e. held-accepted p (x ∷ r) (eqb-true number 0 e))
    (λ e. held-refused p (x ∷ r) (held-some x r) (omega arith) (eqb-false number 0 e))

-- what is carried on says what the sheet holds
pub context-next : (p : Carried) (b : List ℕ) → (record_judged (context_by p) b).number ≡ 0
    → context_after (context_by p) b ≡ context_by (carried_next p b (record_judged (context_by p) b))
context-next p b ok =
    let a = record_judged (context_by p) b in
    context_after-kept p.table b p.state ok
    ∙ ap (λ (k : ℕ). context_of (table_kept (kind_of k).holds p.table (body_of b)) a.state) (sym (judged-kind (context_by p) b ok))

-- ---- the table and the rows, by what the record holds
pub table_kept_lem : (s : Payload) (tb b : List ℕ) → is_table s ≡ false → table_kept s tb b ≡ tb
table_kept_lem a_table tb b other = true-false refl other
table_kept_lem a_row tb b other = refl
table_kept_lem a_line tb b other = refl
table_kept_lem no_payload tb b other = refl

pub table-new : (s : Payload) (tb b : List ℕ) → is_table s ≡ true → table_kept s tb b ≡ b
table-new a_table tb b is = refl
table-new a_row tb b is = true-false is refl
table-new a_line tb b is = true-false is refl
table-new no_payload tb b is = true-false is refl

pub is_row-row : (s : Payload) → is_row s ≡ true → s ≡ a_row
is_row-row a_table is = true-false is refl
is_row-row a_row is = refl
is_row-row a_line is = true-false is refl
is_row-row no_payload is = true-false is refl

pub rows-one : (s : Payload) → is_row s ≡ true → rows_of s ≡ 1
rows-one a_table is = true-false is refl
rows-one a_row is = refl
rows-one a_line is = true-false is refl
rows-one no_payload is = true-false is refl

pub rows_none : (s : Payload) → is_row s ≡ false → rows_of s ≡ 0
rows_none a_table other = refl
rows_none a_row other = true-false refl other
rows_none a_line other = refl
rows_none no_payload other = refl

pub rows_of-most : (s : Payload) → rows_of s ≤ 1
rows_of-most a_table = omega arith
rows_of-most a_row = omega arith
rows_of-most a_line = omega arith
rows_of-most no_payload = omega arith

pub length-with_row : (s : Payload) (y : StoredRow) (ys : List StoredRow) → length (with_row s y ys) ≡ rows_of s + length ys
length-with_row a_table y ys = omega arith
length-with_row a_row y ys = omega arith
length-with_row a_line y ys = omega arith
length-with_row no_payload y ys = omega arith

pub length-row_numbers : (xs : List SheetRecord) → length (row_numbers xs) ≡ length (stored_rows xs)
length-row_numbers xs = length-map (stored_rows xs) _
