-- Every row that a sheet stores has a number of two bytes and at most 4096 heights, none above 4095. Assumes nothing.
use Rattle.std.specs.Prelude.{ℕ, ◌/◌, ◌≤◌, ◌<◌, ◌≡◌, refl, length}
use Rattle.std.proofs.Common.{arith, ⊎_elim}
use mathlib.Core.List.Memᴰ
use mathlib.Core.List.{List, [], ◌∷◌, Memᴰ}
use Rattle.bitstream.specs.Bits.{bits_of, Below}
use Rattle.bitstream.specs.Bits.Laws.{length_cut}
use Rattle.sheet_format.specs.Context.{Context, new_sheet}
use Rattle.sheet_format.specs.Kind.{Payload, a_table, a_row, a_line, no_payload}
use Rattle.sheet_format.specs.Kinds.Laws.{lawful}
use Rattle.sheet_format.specs.Record.{kind_field, body_of}
use Rattle.sheet_format.specs.Reading.{answer_bytes, record_held, record_content, record_judged}
use Rattle.sheet_format.specs.Reading.Laws.{judged-read, judged-held}
use Rattle.sheet_format.specs.Sheet.{record_here, record_holds, StoredRow, row_of, with_row, stored_rows, records_from, sheet_read}
use Rattle.sheet_format.specs.Sheet.Laws.{records_from-all}
use Rattle.sheet_format.proofs.Theorems.Rows.{row_small, row_count, row-bytes, row-heights}

-- the content of an accepted record has as many bytes as its answer says
pub content-size : (c : Context) (r : List ℕ) → (record_judged c r).number ≡ 0 → length (record_content c r) ≡ answer_bytes (record_judged c r)
unfolding record_held record_content
content-size c r ok = rw (judged-held c r ok) ((lawful (kind_field r)).size c (body_of r) (judged-read c r ok).parts.own)

pub record StoredWithin (y : StoredRow) : Type 0 where
  pub number : y.number < 65536
  pub few : length y.heights ≤ 4096
  pub low : Below 4096 y.heights

abbrev AllWithin : List StoredRow → Type 0
AllWithin ys = (y : StoredRow) → Memᴰ y ys → StoredWithin y

row_within : (c : Context) (r : List ℕ) → (record_judged c r).number ≡ 0 → record_holds (record_here c r) ≡ a_row
    → StoredWithin (row_of (record_here c r))
row_within c r ok row =
    let x = record_content c r in
    let half : length (record_content c r) / 2 ≡ (record_judged c r).count = omega (arith, content-size c r ok, row-bytes c r ok row) in
    record {
      number = row_small c r ok row;
      few = omega (arith, length_cut 16 (length x / 2) (bits_of x), half, row_count c r ok row);
      low = row-heights c r ok row;
    }

with_row-within : (s : Payload) (y : StoredRow) (ys : List StoredRow) → (s ≡ a_row → StoredWithin y) → AllWithin ys
    → AllWithin (with_row s y ys)
with_row-within a_table y ys first rest z m = rest z m
with_row-within a_row y ys first rest z m = ⊎_elim (λ e. rw e (first refl)) (λ later. rest z later) (Memᴰ.cases_cons m)
with_row-within a_line y ys first rest z m = rest z m
with_row-within no_payload y ys first rest z m = rest z m

records-within : (n : ℕ) (c : Context) (r : List ℕ) → AllWithin (stored_rows (records_from n c r).records)
unfolding stored_rows
records-within =
    records_from-all (λ c s. AllWithin (stored_rows s.records)) (λ c e at y m. absurd (Memᴰ.not-nil m))
    (λ c r rest ok h.
    with_row-within (record_holds (record_here c r)) (row_of (record_here c r)) (stored_rows rest.records) (row_within c r ok) h)

pub stored-within : (s : List ℕ) (y : StoredRow) → Memᴰ y (stored_rows (sheet_read s).records) → StoredWithin y
unfolding sheet_read stored_rows
stored-within [] y m = absurd (Memᴰ.not-nil m)
stored-within (x ∷ s) y m = records-within (length (x ∷ s)) new_sheet (x ∷ s) y m
