-- Demand 1 of packing and unpacking: a refused call leaves the lent memory as found, and a done one writes only the words or
-- pixels that it counts. Assumes nothing.
use Rattle.std.specs.Prelude.{ℕ, zero, suc, ◌*◌, ◌/◌, ◌≡◌, refl, List, length}
use Rattle.std.proofs.Common.{arith, sym, ap, ◌∙◌}
use Rattle.bitstream.specs.Bits.{flat, halves_of, words_of, words_for}
use Rattle.bitstream.specs.Bits.Laws.{length_cut}
use Rattle.answer.specs.declared.Answer.{Answer}
use Rattle.answer.specs.Outcome.{answer_of, refusal, lent, Kept, Within}
use Rattle.answer.specs.Outcome.Laws.{writes-within, unless-kept}
use Rattle.row_format.specs.Row.{fresh, pixels_of, row_bits, row_bytes, pixel_bytes}
use Rattle.row_format.specs.Row.Laws.{length-pixels_of}
use Rattle.row_format.specs.Place.Laws.{place_shown-twice}
use Rattle.row_format.specs.Reading.{Run, done, stop, row_reading}
use Rattle.row_format.proofs.Reading.Laws.{room-lent}
use Rattle.row_format.specs.Calls.{pack_number, packed_row, packed, row_refusal, row_outcome, unpacked}
use Rattle.row_format.proofs.Calls.Laws.{pack_number-zero-room, packed-done, packed-refused}
use Rattle.row_format.proofs.Theorems.Done.{GivesRow, row_reading-gives}

-- ---- refused
pub packed-kept : (tb pb m : List ℕ) → ((packed tb pb m).answer.number ≡ 0 → ⊥)
    → Kept (refusal (packed tb pb m).answer.number) m (packed tb pb m)
unfolding packed
packed-kept tb pb m =
    unless-kept refusal m (packed_row (words_of tb) (halves_of pb) m) (λ (a : Answer). a.number) (λ k. refl)
    (pack_number tb (halves_of pb) (length m / 4)) (λ some. absurd (some refl))

row_outcome-kept : (m : List ℕ) (x : Run) → ((row_outcome m x).answer.number ≡ 0 → ⊥)
    → Kept (row_refusal (row_outcome m x).answer.at (row_outcome m x).answer.number) m (row_outcome m x)
row_outcome-kept m (done is u) some = absurd (some refl)
row_outcome-kept m (stop e at u) some =
    record { answer = ap (λ (p : ℕ). record { number = e; count = 0; at = p }) (sym (place_shown-twice e at)); memory = refl }

pub unpacked-kept : (tb wb : List ℕ) (n : ℕ) (m : List ℕ) → ((unpacked tb wb n m).answer.number ≡ 0 → ⊥)
    → Kept (row_refusal (unpacked tb wb n m).answer.at (unpacked tb wb n m).answer.number) m (unpacked tb wb n m)
unfolding unpacked
unpacked-kept tb wb n m = row_outcome-kept m (row_reading (lent (length m)) tb n wb)

-- ---- done or refused
pub packed-within : (tb pb m : List ℕ) → Within (4 * words_for (packed tb pb m).answer.count) m (packed tb pb m)
packed-within tb pb m = by_number (pack_number tb (halves_of pb) (length m / 4)) refl
  where
    by_number : (e : ℕ) → pack_number tb (halves_of pb) (length m / 4) ≡ e
        → Within (4 * words_for (packed tb pb m).answer.count) m (packed tb pb m)
    by_number zero e =
        let b = row_bits (words_of tb) (halves_of pb) in
        let k = 4 * words_for (length b) in
        let room = pack_number-zero-room tb (halves_of pb) (length m / 4) e in
        rw (packed-done tb pb m e)
        (writes-within (answer_of 0 (length b)) k (row_bytes (words_of tb) (halves_of pb)) m (length_cut 8 k b) (omega arith))
    by_number (suc k) e = rw (packed-refused tb pb m k e) (record { size = refl; rest = refl })

row_outcome-within : (n : ℕ) (m : List ℕ) (x : Run) → GivesRow (lent (length m)) n x → Within (2 * n) m (row_outcome m x)
row_outcome-within n m (done is u) h =
    let ps = pixels_of fresh is in
    let size : 2 * length (pixels_of fresh is) ≡ 2 * n = ap (2 *◌) (length-pixels_of fresh is ∙ h.count) in
    writes-within (record { number = 0; count = u; at = 0 }) (2 * n) (pixel_bytes ps) m (length_cut 8 (2 * length ps) (flat 16 ps) ∙ size)
    (room-lent (length m) n h.room)
row_outcome-within n m (stop e at u) h = record { size = refl; rest = refl }

pub unpacked-within : (tb wb : List ℕ) (n : ℕ) (m : List ℕ) → Within (2 * n) m (unpacked tb wb n m)
unfolding unpacked
unpacked-within tb wb n m =
    row_outcome-within n m (row_reading (lent (length m)) tb n wb) (row_reading-gives (lent (length m)) tb n wb)
