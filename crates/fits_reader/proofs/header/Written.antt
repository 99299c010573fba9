-- The plain table's record, and the outcome of the header's call. Assumes nothing.
use Prim.Native.Nat.{ℕ, zero, suc}
use native.Mathlib.Omega.{arith}
use mathlib.Core.Path.{◌≡◌, refl, sym, ap, ◌∙◌}
use mathlib.Core.List.{List}
use lib.ListN.{length}
use lib.Dec.{ltb}
use Rattle.answer.specs.Outcome.{Outcome, outcome, writes, ◌or_else◌, unless, lent, room_number}
use Rattle.answer.specs.Outcome.Laws.{unless-part}
use Rattle.row_format.specs.Plain.{plain_bytes}
use Rattle.row_format.specs.Lists.Laws.{by-test}
use Rattle.code_table.specs.Plain.Laws.{plain-accepted}
use Rattle.sheet_format.specs.declared.RecordWritten.{RecordWritten}
use Rattle.sheet_format.specs.Context.{no_heading, new_sheet}
use Rattle.sheet_format.specs.Kind.Table.{table_place}
use Rattle.sheet_format.specs.Writing.{record_for, write_number, RecordWritable, not_written, record_done, record_written}
use Rattle.sheet_format.specs.Writing.Laws.{write_number-writable}
use Rattle.fits_format.specs.declared.ImageHeader.{ImageHeader}
use Rattle.fits_format.specs.Header.{header_number, plain_table_record, no_image, image_of, header_read}
use Rattle.fits_reader.specs.Judged.{table_written}

-- ---- the table's record
table-writable : RecordWritable 1 no_heading new_sheet plain_bytes
unfolding table_place
table-writable = record { writable = refl; place = refl; given = plain-accepted }

pub table-written : (x m m' : List ℕ) (r : RecordWritten) → x ≡ plain_bytes
    → outcome r m' ≡ record_written 1 no_heading new_sheet x m → outcome r.number m' ≡ table_written m
unfolding table_written record_written plain_table_record
table-written x m m' r plain e =
    let short : Outcome RecordWritten → Outcome ℕ = λ o. outcome o.answer.number o.memory in
    let e' : outcome r m' ≡ record_written 1 no_heading new_sheet plain_bytes m = rw plain at e in
    let number = write_number 1 no_heading new_sheet plain_bytes (length m) in
    ap short e'
    ∙ unless-part short number (λ k. outcome (not_written k) m)
    (writes (record_done 1 no_heading new_sheet plain_bytes) (record_for 1 no_heading new_sheet plain_bytes) m)
    ∙ ap (λ (k : ℕ). unless k (λ j. outcome j m) (writes 0 (record_for 1 no_heading new_sheet plain_bytes) m))
    (write_number-writable 1 no_heading new_sheet plain_bytes (length m) table-writable)

-- where it is not done there is no room
pub table-full : (m m' : List ℕ) (n : ℕ) → (n ≡ 0 → ⊥) → outcome n m' ≡ table_written m → outcome 5 m' ≡ table_written m
unfolding table_written
table-full m m' n some e =
    by-test (ltb (length m) (length plain_table_record))
    (λ t. let five : n ≡ 5 = ap (λ (o : Outcome ℕ). o.answer) (rw t at e) in rw five at e)
    (λ t. absurd (some (ap (λ (o : Outcome ℕ). o.answer) (rw t at e))))

-- ---- the outcome, by the header's number e and the room's number d
abbrev number_of : ImageHeader → ℕ
number_of h = h.number

abbrev left : ℕ → ImageHeader → List ℕ → List ℕ → Outcome ImageHeader
left e i b m = unless e (λ k. outcome (no_image k) m) (writes i b m)

refused-by : (e d : ℕ) (i h : ImageHeader) (b m : List ℕ) → h ≡ unless e no_image i → i.number ≡ 0 → (h.number ≡ 0 → ⊥)
    → outcome h m ≡ left (e or_else d) i b m
refused-by zero d i h b m judged none some = absurd (some (ap number_of judged ∙ none))
refused-by (suc e) d i h b m judged none some = rw judged

accepted-by : (e : ℕ) (i h : ImageHeader) → h ≡ unless e no_image i → h.number ≡ 0 → e ≡ 0
accepted-by zero i h judged none = refl
accepted-by (suc e) i h judged none = sym (ap number_of judged) ∙ none

full_by : (d n : ℕ) (i h : ImageHeader) (b m m' : List ℕ) → outcome n m' ≡ unless d (λ k. outcome k m) (writes 0 b m)
    → (n ≡ 0 → ⊥) → h ≡ no_image n → outcome h m' ≡ left d i b m
full_by zero n i h b m m' table some is = absurd (some (ap (λ (o : Outcome ℕ). o.answer) table))
full_by (suc d) n i h b m m' table some is =
    rw (is, ap (λ (o : Outcome ℕ). o.answer) table, ap (λ (o : Outcome ℕ). o.memory) table)

done-by : (d n : ℕ) (i : ImageHeader) (b m m' : List ℕ) → outcome n m' ≡ unless d (λ k. outcome k m) (writes 0 b m)
    → n ≡ 0 → outcome i m' ≡ left d i b m
done-by zero n i b m m' table none = rw (ap (λ (o : Outcome ℕ). o.memory) table)
done-by (suc d) n i b m m' table none = absurd (omega (arith, ap (λ (o : Outcome ℕ). o.answer) table))

module _ (s m : List ℕ) (h : ImageHeader) (judged : h ≡ unless (header_number s) no_image (image_of s)) where
  room : ℕ
  room = room_number (lent (length m)) (length plain_table_record)

  pub header_refused_lem : (h.number ≡ 0 → ⊥) → outcome h m ≡ header_read s m
  unfolding header_read room
  header_refused_lem some = refused-by (header_number s) room (image_of s) h plain_table_record m judged refl some

  module _ (n : ℕ) (m' : List ℕ) (none : h.number ≡ 0) (table : outcome n m' ≡ table_written m) where
    accepted : header_number s ≡ 0
    accepted = accepted-by (header_number s) (image_of s) h judged none

    pub header-full : (r : ImageHeader) → (n ≡ 0 → ⊥) → r ≡ no_image n → outcome r m' ≡ header_read s m
    unfolding header_read table_written room
    header-full r some is = rw accepted (full_by room n (image_of s) r plain_table_record m m' table some is)

    pub header-done : n ≡ 0 → outcome h m' ≡ header_read s m
    unfolding header_read table_written room
    header-done zeros =
        let image : h ≡ image_of s = rw accepted at judged in
        rw (accepted, image) (done-by room n (image_of s) plain_table_record m m' table zeros)
