-- In every sheet, up to its end or to the refused record, the first record is a table, no other is, and the table kept is
-- accepted. Assumes nothing.
use Rattle.std.specs.Prelude.{ℕ, zero, suc, ◌<◌, ◌≡◌, refl, ◌↔◌, List, [], ◌∷◌, ◌++◌, take, drop, length, get_or}
use Rattle.std.proofs.Common.{arith, ap, ◌∙◌, length-append}
use Rattle.std.proofs.Math.Path.{sym}
use Rattle.answer.specs.Outcome.{nothing}
use Rattle.row_format.specs.Table.{table_number}
use Rattle.sheet_format.specs.declared.RecordRead.{RecordRead}
use Rattle.sheet_format.specs.Context.{Heading, Context, new_sheet}
use Rattle.sheet_format.specs.Kind.{Payload, a_table, a_row, a_line, no_payload, after_record}
use Rattle.sheet_format.specs.Kind.Table.{table_own}
use Rattle.sheet_format.specs.Kinds.{kind_of}
use Rattle.sheet_format.specs.Kinds.Laws.{lawful, kind_of-table}
use Rattle.sheet_format.specs.Record.{body_of, kind_field}
use Rattle.sheet_format.specs.Record.Laws.{body_of-whole}
use Rattle.sheet_format.specs.Reading.{context_after, record_held, record_judged}
use Rattle.sheet_format.specs.Reading.Laws.{context_after-of, judged-read, judged-held, judged-kind}
use Rattle.sheet_format.specs.Sheet.{SheetRead, records_from, sheet_read, record_kinds}
use Rattle.sheet_format.specs.Sheet.Laws.{records_from-all}

abbrev NoTable : List ℕ → Type 0
NoTable [] = Unit {0}
NoTable (k ∷ ks) = (k ≡ 1 → ⊥) × NoTable ks

abbrev TableFirst : List ℕ → Type 0
TableFirst [] = Unit {0}
TableFirst (k ∷ ks) = (k ≡ 1) × NoTable ks

no-table-at : (ks : List ℕ) (i : ℕ) → NoTable ks → i < length ks → get_or ks i 0 ≡ 1 → ⊥
no-table-at [] i h less e = absurd (omega arith)
no-table-at (k ∷ ks) zero h less e = h.0 e
no-table-at (k ∷ ks) (suc i) h less e = no-table-at ks i h.1 (omega arith) e

table-first-at : (ks : List ℕ) → TableFirst ks → (i : ℕ) → i < length ks → (get_or ks i 0 ≡ 1) ↔ (i ≡ 0)
table-first-at [] h i less = absurd (omega arith)
table-first-at (k ∷ ks) h zero less = (λ e. refl, λ e. h.0)
table-first-at (k ∷ ks) h (suc i) less = (λ e. absurd (no-table-at ks i h.1 (omega arith) e), λ e. absurd (omega arith))

-- ---- one record
-- a sheet that has a table keeps it
after-tables : (s : Payload) (h : Heading) (b : List ℕ) (c : Context) → (length c.tables ≡ 0 → ⊥)
    → length (after_record s h b c).tables ≡ 0 → ⊥
after-tables a_table h b c has e = absurd (omega (arith, length-append c.tables (b ∷ [])))
after-tables a_row h b c has e = has e
after-tables a_line h b c has e = has e
after-tables no_payload h b c has e = has e

-- a record holds a table, or something else
by-table : {A : Type 0} (s : Payload) → (s ≡ a_table → A) → ((s ≡ a_table → ⊥) → A) → A
by-table a_table table other = table refl
by-table a_row table other = other (λ e. absurd (let z : ◌≡◌ {A = ℕ} 0 1 = cc in omega arith))
by-table a_line table other = other (λ e. absurd (let z : ◌≡◌ {A = ℕ} 0 1 = cc in omega arith))
by-table no_payload table other = other (λ e. absurd (let z : ◌≡◌ {A = ℕ} 0 1 = cc in omega arith))

module _ (c : Context) (r : List ℕ) (ok : (record_judged c r).number ≡ 0) where
  abbrev code : ℕ
  code = kind_field r

  place : (kind_of code).place c ((kind_of code).heading (body_of r)) ≡ 0
  place = (judged-read c r ok).parts.place

  -- a second table is refused
  other-kind : (length c.tables ≡ 0 → ⊥) → (record_judged c r).kind ≡ 1 → ⊥
  other-kind has e =
      let one : kind_field r ≡ 1 = sym (judged-kind c r ok) ∙ e in
      has ((lawful code).table-placed (ap (λ (n : ℕ). (kind_of n).holds) one) c ((kind_of code).heading (body_of r)) place)

  kept : (length c.tables ≡ 0 → ⊥) → length (context_after c r).tables ≡ 0 → ⊥
  kept has =
      rw (context_after-of c r refl refl)
      (after-tables (kind_of code).holds ((kind_of code).heading (body_of r)) (body_of r) c has)

  -- a record in front of any table is one
  first_kind : length c.tables ≡ 0 → kind_field r ≡ 1
  first_kind none =
      by-table (kind_of code).holds (kind_of-table code)
      (λ other. absurd ((lawful code).table_before other (judged-read c r ok).readable c ((kind_of code).heading (body_of r)) place none))

  -- the table that the sheet keeps is accepted
  kept-accepted : (k : ℕ) → k ≡ 1 → (kind_of k).own nothing c (body_of r) ≡ 0 → table_number (body_of r) ≡ 0
  unfolding table_own
  kept-accepted k e h = sym (ap (λ (n : ℕ). (kind_of n).own nothing c (body_of r)) e) ∙ h

  pub table-accepted : (record_judged c r).kind ≡ 1 → table_number (drop 6 (take (record_judged c r).length r)) ≡ 0
  unfolding record_held
  table-accepted e =
      rw (ap (λ (a : RecordRead). a.length) (judged-held c r ok), body_of-whole r)
      (kept-accepted (kind_field r) (sym (judged-kind c r ok) ∙ e) (judged-read c r ok).parts.own)

-- ---- all records
abbrev Placed : Context → SheetRead → Type 0
Placed c s =
    ((length c.tables ≡ 0 → ⊥) → NoTable (record_kinds s.records))
    × (length c.tables ≡ 0 → TableFirst (record_kinds s.records))

records_from-placed : (n : ℕ) (c : Context) (r : List ℕ) → Placed c (records_from n c r)
unfolding record_kinds
records_from-placed =
    records_from-all Placed (λ c e at. (λ has. tt, λ none. tt))
    (λ c r rest ok h. (
      λ has. (other-kind c r ok has, h.0 (kept c r ok has)),
      λ none. (judged-kind c r ok ∙ first_kind c r ok none, h.0 (has-table c r ok none)),
    ))
  where
    has-table : (c : Context) (r : List ℕ) → (record_judged c r).number ≡ 0 → length c.tables ≡ 0
        → length (context_after c r).tables ≡ 0 → ⊥
    has-table c r ok none e =
        let one = first_kind c r ok none in
        let tables : length (context_after c r).tables ≡ length (c.tables ++ (body_of r ∷ [])) =
        ap (λ (d : Context). length d.tables) (context_after-of c r one refl) in
        absurd (omega (arith, length-append c.tables (body_of r ∷ [])))

pub sheet_read-table-first : (s : List ℕ) (i : ℕ) → i < length (record_kinds (sheet_read s).records)
    → (get_or (record_kinds (sheet_read s).records) i 0 ≡ 1) ↔ (i ≡ 0)
unfolding sheet_read record_kinds
sheet_read-table-first [] = table-first-at [] tt
sheet_read-table-first (x ∷ s) =
    let all = records_from (length (x ∷ s)) new_sheet (x ∷ s) in
    table-first-at (record_kinds all.records) ((records_from-placed (length (x ∷ s)) new_sheet (x ∷ s)).1 refl)
