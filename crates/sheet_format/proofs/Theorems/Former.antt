-- Document 02, ticket 5, of records: a packed row that was written before that ticket is judged and read as the same row.
-- Assumes nothing.
use Rattle.std.specs.Prelude.{ℕ, ◌*◌, ◌≤◌, ◌≡◌, false, List, [], ltb}
use Rattle.std.proofs.Common.{le_refl, ◌∙◌, append-nil}
use Rattle.std.proofs.Math.Path.{refl, sym, ap}
use Rattle.std.proofs.Math.ListN.{length}
use Rattle.bitstream.specs.Bits.{words_of, words_for}
use Rattle.bitstream.specs.Bits.Laws.{length_cut}
use Rattle.answer.specs.Outcome.{writes, Lent, nothing, lent, room_number}
use Rattle.answer.specs.Outcome.Laws.{less_number-none}
use Rattle.row_format.specs.Lists.{any}
use Rattle.row_format.specs.Table.{table_number}
use Rattle.row_format.specs.Row.{fresh, pixel_bytes}
use Rattle.row_format.specs.FirstHeight.{former_items_for, former_bits, former_bytes}
use Rattle.row_format.specs.Reading.{done}
use Rattle.row_format.proofs.Reading.Laws.{lent-room}
use Rattle.row_format.proofs.Theorems.Done.{reads-row_reading}
use Rattle.row_format.proofs.Theorems.Former.{former-reads, former-pixels}
use Rattle.sheet_format.specs.Context.{Context, table_for}
use Rattle.sheet_format.specs.Kind.Row.{row_heading, pixel_count, row_content}
use Rattle.sheet_format.specs.Kind.PackedRow.{packed_reading, packed_leftover, packed_bits, packed_content}
use Rattle.sheet_format.specs.Record.{body_of, record_number}
use Rattle.sheet_format.specs.Reading.{record_held, record_content, record_judged, record_read, ReachesRow}
use Rattle.sheet_format.specs.Reading.Laws.{record_content-of}
use Rattle.sheet_format.proofs.Theorems.Place.{row_number}

module _ (c : Context) (r ps : List ℕ) (there : ReachesRow c r)
    (ok : table_number (table_for c (row_heading (body_of r))) ≡ 0) (count : pixel_count (body_of r) ≡ length ps)
    (few : length ps ≤ 4096) (pixels : any (ltb 4095) ps ≡ false)
    (words : row_content (body_of r) ≡ former_bytes (words_of (table_for c (row_heading (body_of r)))) ps) where
  abbrev t : List ℕ
  t = words_of (table_for c (row_heading (body_of r)))

  -- with room for the row, its reading is done
  runs : (l : Lent) → room_number l (2 * length ps) ≡ 0
      → packed_reading l c (body_of r) ≡ done (former_items_for t fresh ps) (length (former_bits t ps))
  unfolding packed_reading
  runs l room =
      let tb = table_for c (row_heading (body_of r)) in
      rw (count, words ∙ sym (append-nil (former_bytes t ps)))
      (reads-row_reading l tb (length ps) _ _ _ (former-reads l tb ps (record { table = ok; few = few; room = room }) pixels []))

  none_left : packed_leftover c (body_of r) ≡ 0
  unfolding packed_leftover former_bits
  none_left =
      let u = length (former_bits t ps) in
      let size : length (row_content (body_of r)) ≡ 4 * words_for (length (former_bits t ps)) =
      ap length words ∙ length_cut 8 (4 * words_for u) (former_bits t ps) in
      rw (runs nothing refl, size) (less_number-none (4 * words_for u) (4 * words_for u) 14 (le_refl (4 * words_for u)))

  number : (l : Lent) → room_number l (2 * length ps) ≡ 0 → record_number l c r ≡ 0
  number l room = row_number c r there l ∙ rw (runs l room, none_left)

  pub former-judged : record_judged c r ≡ record_held c r
  unfolding record_judged
  former-judged = rw (number nothing refl)

  pub former-held : (record_held c r).bits ≡ length (former_bits t ps)
  unfolding record_held packed_bits
  former-held = rw (there.kind, runs nothing refl)

  pub former-read : (m : List ℕ) → 2 * length ps ≤ length m → record_read c r m ≡ writes (record_held c r) (pixel_bytes ps) m
  unfolding record_read packed_content
  former-read m room =
      let content : record_content c r ≡ pixel_bytes ps =
      record_content-of c r there.kind refl ∙ rw (runs nothing refl, former-pixels t ps pixels) in
      rw (number (lent (length m)) (lent-room (length m) (length ps) room), content)
