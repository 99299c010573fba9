-- What a caller keeps, a state of two numbers and the bytes of the table, is enough: it says what the sheet holds after an
-- accepted or written record. Assumes nothing.
use Rattle.std.specs.Prelude.{ℕ, ◌≡◌, refl, List}
use Rattle.std.proofs.Common.{sym, ap, ◌∙◌}
use Rattle.sheet_format.specs.declared.SheetState.{SheetState}
use Rattle.sheet_format.specs.Context.{Heading, state_of, context_of}
use Rattle.sheet_format.specs.Context.Laws.{tables-context_of}
use Rattle.sheet_format.specs.Kind.{Payload, a_table, a_row, a_line, no_payload, Kind, after_record, table_kept}
use Rattle.sheet_format.specs.Kind.Lawful.{Lawful}
use Rattle.sheet_format.specs.Kinds.{kind_of}
use Rattle.sheet_format.specs.Kinds.Laws.{lawful}
use Rattle.sheet_format.specs.Record.{kind_field, body_of}
use Rattle.sheet_format.specs.Reading.{context_after, record_judged}
use Rattle.sheet_format.specs.Reading.Laws.{context_after-of, judged-read, judged-state}

-- a table comes where none is counted
after_record-kept : (s : Payload) (h : Heading) (b tb : List ℕ) (st : SheetState) → (s ≡ a_table → st.has_table ≡ 0)
    → after_record s h b (context_of tb st) ≡ context_of (table_kept s tb b) (state_of (after_record s h b (context_of tb st)))
after_record-kept a_table h b tb st first = rw (first refl)
after_record-kept a_row h b tb st first = rw (tables-context_of tb st)
after_record-kept a_line h b tb st first = rw (tables-context_of tb st)
after_record-kept no_payload h b tb st first = rw (tables-context_of tb st)

module _ {k : Kind} (L : Lawful k) (h : Heading) (b tb : List ℕ) (st : SheetState) (place : k.place (context_of tb st) h ≡ 0) where
  pub after_kept : after_record k.holds h b (context_of tb st)
      ≡ context_of (table_kept k.holds tb b) (state_of (after_record k.holds h b (context_of tb st)))
  after_kept = after_record-kept k.holds h b tb st
      (λ table. sym (tables-context_of tb st) ∙ L.table-placed table (context_of tb st) h place)

-- of an accepted record
pub context_after-kept : (tb r : List ℕ) (st : SheetState) → (record_judged (context_of tb st) r).number ≡ 0
    → context_after (context_of tb st) r
    ≡ context_of (table_kept (kind_of (kind_field r)).holds tb (body_of r)) (record_judged (context_of tb st) r).state
context_after-kept tb r st ok =
    let c = context_of tb st in
    let k = kind_of (kind_field r) in
    let here = context_after-of c r refl refl in
    here
    ∙ after_kept (lawful (kind_field r)) (k.heading (body_of r)) (body_of r) tb st (judged-read c r ok).parts.place
    ∙ ap (context_of (table_kept k.holds tb (body_of r))) (ap state_of (sym here) ∙ sym (judged-state c r ok))
