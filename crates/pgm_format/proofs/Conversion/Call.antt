-- The calls that write a picture's records: with room enough, and under an accepted table, a row's is refused as its line is, and done it
-- writes the line's record. Assumes nothing.
use Rattle.std.specs.Prelude.{ℕ, ◌+◌, ◌*◌, ◌≤◌, ◌≡◌, refl, List, length, take, drop, ltb}
use Rattle.std.proofs.Common.{arith, ◌∙◌, length-append}
use Rattle.std.proofs.Math.Path.{ap}
use Rattle.bitstream.specs.Bits.{words_of, Below}
use Rattle.answer.specs.Outcome.{Outcome, refuse_if, ◌or_else◌}
use Rattle.answer.specs.Outcome.Laws.{less_number-none, or_else-none, or_else-zero-left, or_else-zero-right}
use Rattle.row_format.specs.Lists.Laws.{by-test}
use Rattle.row_format.specs.Table.{table_number}
use Rattle.row_format.specs.Table.Laws.{table_number-verdict}
use Rattle.row_format.specs.Row.{pixel_bytes, too_high}
use Rattle.row_format.proofs.Theorems.{max_item_bits-range}
use Rattle.sheet_format.specs.declared.SheetState.{SheetState}
use Rattle.sheet_format.specs.declared.RecordWritten.{RecordWritten}
use Rattle.sheet_format.specs.Context.{no_heading, new_sheet}
use Rattle.sheet_format.specs.Kind.Table.{table_place}
use Rattle.sheet_format.specs.Writing.{record_for, write_number, record_written, RecordWritable}
use Rattle.sheet_format.specs.Writing.Laws.{length-record_bytes, write_number-writable, record_written-number, record_written-front}
use Rattle.sheet_format.specs.Writing.Laws.{record_written-done}
use Rattle.fits_format.specs.Heights.{table_bytes, under_table, heights_record}
use Rattle.fits_format.specs.Heights.Sheet.{heights-number}
use Rattle.fits_format.specs.Heights.Room.{length-heights_record}
use Rattle.fits_format.specs.Image.{big_endian}
use Rattle.fits_format.specs.Image.Laws.{length-big_endian, below-big_endian}
use Rattle.pgm_format.specs.Conversion.{line_refusal, line_record, before_samples, pgm_row}
use Rattle.pgm_format.specs.Conversion.Laws.{pgm_row-before, pgm_row-there}

module _ (tb : List ℕ) (ok : table_number tb ≡ 0) where
  -- ---- room: an item has at most 27 bits
  record-most : (r : ℕ) (hs : List ℕ) → length hs ≤ 4096 → length (heights_record tb r hs) ≤ 13834
  record-most = length-heights_record tb 27 (max_item_bits-range (words_of tb) (table_number-verdict tb ok)).1

  -- ---- a row's call
  module _ (w : ℕ) (some : 1 ≤ w) (wide : w ≤ 4096) (r : ℕ) (low : r ≤ 65535) (s m : List ℕ) (bytes : Below 256 s)
      (room : 13834 ≤ length m) where
    abbrev here : SheetState
    here = record { has_table = 1; least_row = r }

    few : length (big_endian w s) ≤ 4096
    few = omega (arith, length-big_endian w s)

    -- what is refused before a sample is looked at
    cut_short : before_samples w (length s) ≡ refuse_if (ltb (length s) (2 * w)) 18
    unfolding before_samples
    cut_short = rw (less_number-none w 1 17 some, less_number-none 4096 w 11 wide)

    written-number : write_number 2 (record { row = r }) (under_table tb r) (pixel_bytes (big_endian w s)) (length m)
        ≡ too_high (big_endian w s)
    written-number =
        let most = record-most r (big_endian w s) few in
        heights-number tb ok r low (big_endian w s) few (below-big_endian w s bytes) (length m)
        ∙ ap (too_high (big_endian w s) or_else◌)
        (less_number-none (length m) (length (heights_record tb r (big_endian w s))) 5 (omega (arith, most, room)))
        ∙ or_else-none (too_high (big_endian w s))

    abbrev answered : Outcome RecordWritten
    answered = pgm_row w r tb here s m

    abbrev number-of : Outcome RecordWritten → ℕ
    number-of o = o.answer.number

    pub pgm_row-number : answered.answer.number ≡ line_refusal w s
    unfolding line_refusal
    pgm_row-number =
        by-test (ltb (length s) (2 * w))
        (λ t.
        let short : before_samples w (length s) ≡ 18 = cut_short ∙ rw t in
        ap number-of (pgm_row-before w r tb here s m (λ e. absurd (omega (arith, short, e)))) ∙ rw (short, t))
        (λ t.
        let there : before_samples w (length s) ≡ 0 = cut_short ∙ rw t in
        ap number-of (pgm_row-there w r tb here s m there)
        ∙ record_written-number 2 (record { row = r }) (under_table tb r) (pixel_bytes (big_endian w s)) m
        ∙ rw t written-number)

    module _ (none : line_refusal w s ≡ 0) where
      there-none : before_samples w (length s) ≡ 0
      unfolding line_refusal
      there-none = cut_short ∙ or_else-zero-left (refuse_if (ltb (length s) (2 * w)) 18) (too_high (big_endian w s)) none

      high-none : write_number 2 (record { row = r }) (under_table tb r) (pixel_bytes (big_endian w s)) (length m) ≡ 0
      unfolding line_refusal
      high-none = written-number ∙ or_else-zero-right (refuse_if (ltb (length s) (2 * w)) 18) (too_high (big_endian w s)) none

      pub pgm_row-bytes : take answered.answer.count answered.memory ≡ line_record tb w r s
      unfolding heights_record
      pgm_row-bytes =
          rw (pgm_row-there w r tb here s m there-none)
          (record_written-front 2 (record { row = r }) (under_table tb r) (pixel_bytes (big_endian w s)) m high-none)

      pub pgm_row-count : answered.answer.count ≤ length answered.memory
      pgm_row-count =
          let b = record_for 2 (record { row = r }) (under_table tb r) (pixel_bytes (big_endian w s)) in
          rw (
            pgm_row-there w r tb here s m there-none,
            record_written-done 2 (record { row = r }) (under_table tb r) (pixel_bytes (big_endian w s)) m high-none,
          )
          (omega (arith, length-append b (drop (length b) m)))

  -- ---- the table's
  module _ (m : List ℕ) (room : 6 + length tb ≤ length m) where
    length-table_bytes : length (table_bytes tb) ≡ 6 + length tb
    unfolding table_bytes
    length-table_bytes = length-record_bytes 1 tb

    table_none : write_number 1 no_heading new_sheet tb (length m) ≡ 0
    table_none =
        let can : RecordWritable 1 no_heading new_sheet tb = record { writable = refl; place = unfold table_place in refl; given = ok } in
        write_number-writable 1 no_heading new_sheet tb (length m) can
        ∙ less_number-none (length m) (length (record_for 1 no_heading new_sheet tb)) 5 (omega (arith, length-record_bytes 1 tb))

    pub table_written-bytes : let o = record_written 1 no_heading new_sheet tb m in
        take o.answer.count o.memory ≡ table_bytes tb
    unfolding table_bytes
    table_written-bytes = record_written-front 1 no_heading new_sheet tb m table_none

    pub table_written-count : let o = record_written 1 no_heading new_sheet tb m in o.answer.count ≤ length o.memory
    table_written-count =
        let b = record_for 1 no_heading new_sheet tb in
        rw (record_written-done 1 no_heading new_sheet tb m table_none) (omega (arith, length-append b (drop (length b) m)))
