-- `sheet_listing::line::put_record_line`: a line for each kind. Assumes nothing.
use Prim.Native.Nat.{ℕ}
use mathlib.Core.Path.{◌≡◌, refl, sym, ap, ◌∙◌}
use native.Mathlib.Omega.{arith}
use Rattle.text.specs.Put.Laws.{put-none}
use Rattle.sheet_format.specs.Kind.{Kind, unknown}
use Rattle.sheet_format.specs.Kinds.{kind_of, kind_code}
use Rattle.sheet_listing.specs.Line.Laws.{line-table, line-packed, line_plain, line-contour, line_other}
use Rattle.sheet_listing.proofs.line.put_record_line.Goals as goal

pub returns-in-Ok-Table-clause-put : goal.returns-in-Ok-Table-clause-put
returns-in-Ok-Table-clause-put c = let line = line-table c.args.read c.args.body.now (sym c.in-Ok-Table.ensures ∙ ap kind_code c.in-Ok-Table.field-0-is) in
    rw line at c.put_table.ensures.put

pub returns-in-Ok-PackedRow-clause-put : goal.returns-in-Ok-PackedRow-clause-put
returns-in-Ok-PackedRow-clause-put c = let line = line-packed c.args.read c.args.body.now (sym c.in-Ok-PackedRow.ensures ∙ ap kind_code c.in-Ok-PackedRow.field-0-is) in
    rw line at c.put_packed_line.ensures.put

pub returns-in-Ok-PlainRow-clause-put : goal.returns-in-Ok-PlainRow-clause-put
returns-in-Ok-PlainRow-clause-put c = let line = line_plain c.args.read c.args.body.now (sym c.in-Ok-PlainRow.ensures ∙ ap kind_code c.in-Ok-PlainRow.field-0-is) in
    rw line at c.put_plain_line.ensures.put

pub returns-in-Ok-ContourLine-clause-put : goal.returns-in-Ok-ContourLine-clause-put
returns-in-Ok-ContourLine-clause-put c = let line = line-contour c.args.read c.args.body.now (sym c.in-Ok-ContourLine.ensures ∙ ap kind_code c.in-Ok-ContourLine.field-0-is) in
    rw line at c.put_contour_line.ensures.put

-- an unknown code is none that is read
other : {code : ℕ} → kind_of code ≡ unknown → (k : ℕ) → (kind_of k).readable ≡ 0 → code ≡ k → ⊥
other none k read is =
    let z : ◌≡◌ {A = ℕ} 15 0 =
    sym (ap (λ (x : Kind). x.readable) none) ∙ ap (λ (n : ℕ). (kind_of n).readable) is ∙ read in
    absurd (omega arith)

pub returns-in-Err-clause-put : goal.returns-in-Err-clause-put
returns-in-Err-clause-put c = let no = other c.in-Err.ensures.1 in
    let line = line_other c.args.read c.args.body.now (no 1 refl) (no 2 refl) (no 3 refl) (no 4 refl) in
    rw (← line) (put-none c.args.out.now 0)
