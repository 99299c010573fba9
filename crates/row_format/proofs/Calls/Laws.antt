-- The laws of the calls' numbers: when each refusal is given. Assumes nothing.
use Rattle.std.specs.Prelude.{ℕ, suc, ◌*◌, ◌/◌, ◌≤◌, ◌≡◌, refl, List, [], length, take, drop, ltb}
use Rattle.std.proofs.Common.{arith, sym, ap, ◌∙◌, take_at, ltb-false, le-ltb}
use Rattle.bitstream.specs.Bits.{cut, words_of, halves_of, words_for}
use Rattle.bitstream.specs.Bits.Laws.{length_cut}
use Rattle.answer.specs.declared.Answer.{Answer}
use Rattle.answer.specs.Outcome.{Outcome, ◌or_else◌, refuse_if, refusal, refused, wrote, answer_of, lent}
use Rattle.answer.specs.Outcome.Laws.{or_else-none, or_else-zero-left, or_else-zero-right, unless-number}
use Rattle.row_format.specs.Lists.{any}
use Rattle.row_format.specs.Lists.Laws.{cond-zero-test}
use Rattle.row_format.specs.Table.{table_number, max_item_bits}
use Rattle.row_format.specs.Place.{place_shown}
use Rattle.row_format.specs.Row.{bits, items_for, row_bits, row_bytes, too_many}
use Rattle.row_format.specs.Row.Laws.{too_many-zero}
use Rattle.row_format.specs.Reading.{Run, done, stop, run_number, run_place, row_reading}
use Rattle.row_format.proofs.Reading.Laws.{row_reading-nothing}
use Rattle.row_format.specs.Calls.{checked, pack_number, packed_row, packed, row_outcome, unpacked, room, Packable}

-- ---- checking, and the room question
pub checked-number : (tb : List ℕ) → (checked tb).number ≡ table_number tb
unfolding checked
checked-number tb =
    unless-number (λ (a : Answer). a.number) refusal (answer_of 0 (max_item_bits (words_of tb))) (λ k. refl) (table_number tb) refl

pub answer-number : (tb : List ℕ) {a : Answer} → a ≡ checked tb → a.number ≡ table_number tb
answer-number tb is = ap (λ (x : Answer). x.number) is ∙ checked-number tb

pub room-number : (tb : List ℕ) (n : ℕ) → (room tb n).number ≡ (table_number tb or_else too_many n)
unfolding room
room-number tb n =
    unless-number (λ (a : Answer). a.number) refusal (answer_of 0 (words_for (n * max_item_bits (words_of tb)))) (λ k. refl)
    (table_number tb or_else too_many n) refl

-- ---- the numbers of the calls
-- the number that a packing answers is that of its refusals
pub packed-number : (tb pb m : List ℕ) → (packed tb pb m).answer.number ≡ pack_number tb (halves_of pb) (length m / 4)
unfolding packed
packed-number tb pb m =
    unless-number (λ (o : Outcome Answer). o.answer.number) (λ e. refused e m) (packed_row (words_of tb) (halves_of pb) m)
    (λ k. refl) (pack_number tb (halves_of pb) (length m / 4)) refl

-- ---- of no pixels: the table's number alone
pub packed-nothing : (tb pb m : List ℕ) → length pb ≡ 0 → (packed tb pb m).answer.number ≡ table_number tb
unfolding pack_number row_bits items_for bits any cut
packed-nothing tb pb m none =
    let no-pixels : halves_of pb ≡ [] = rw none in
    packed-number tb pb m ∙ rw (no-pixels, le-ltb (length m / 4) 0 (omega arith)) (or_else-none (table_number tb))

-- the number that an unpacking answers is that of its reading
pub row_outcome-number : (m : List ℕ) (x : Run) → (row_outcome m x).answer.number ≡ run_number x
row_outcome-number m (done is u) = refl
row_outcome-number m (stop e at u) = refl

-- and its place is that of its reading, where the number shows one
pub row_outcome-at : (m : List ℕ) (x : Run) → (row_outcome m x).answer.at ≡ place_shown (run_number x) (run_place x)
row_outcome-at m (done is u) = refl
row_outcome-at m (stop e at u) = refl

pub unpacked-number : (tb wb : List ℕ) (n : ℕ) (m : List ℕ)
    → (unpacked tb wb n m).answer.number ≡ run_number (row_reading (lent (length m)) tb n wb)
unfolding unpacked
unpacked-number tb wb n m = row_outcome-number m (row_reading (lent (length m)) tb n wb)

pub unpacked-nothing : (tb wb m : List ℕ) → (unpacked tb wb 0 m).answer.number ≡ table_number tb
unpacked-nothing tb wb m = unpacked-number tb wb 0 m ∙ row_reading-nothing (lent (length m)) tb wb

-- ---- packing
pub pack_number-packable : (tb ps : List ℕ) (room_words : ℕ) → Packable tb ps
    → pack_number tb ps room_words ≡ refuse_if (ltb room_words (words_for (length (row_bits (words_of tb) ps)))) 5
unfolding pack_number
pack_number-packable tb ps room_words ok = rw (ok.table, le-ltb 4096 (length ps) ok.few, ok.pixels)

-- done: packable, and with room enough
pub packable : (tb ps : List ℕ) (room_words : ℕ) → pack_number tb ps room_words ≡ 0 → Packable tb ps
unfolding pack_number
packable tb ps room_words e =
    let full = refuse_if (ltb room_words (words_for (length (row_bits (words_of tb) ps)))) 5 in
    let rest = refuse_if (any (ltb 4095) ps) 4 or_else full in
    let after_table = or_else-zero-right (table_number tb) (too_many (length ps) or_else rest) e in
    let after-few = or_else-zero-right (too_many (length ps)) rest after_table in
    record {
      table = or_else-zero-left (table_number tb) (too_many (length ps) or_else rest) e;
      few = too_many-zero (length ps) (or_else-zero-left (too_many (length ps)) rest after_table);
      pixels = cond-zero-test (any (ltb 4095) ps) 3 0 (or_else-zero-left (refuse_if (any (ltb 4095) ps) 4) full after-few);
    }

pub pack_number-zero-room : (tb ps : List ℕ) (room_words : ℕ) → pack_number tb ps room_words ≡ 0
    → words_for (length (row_bits (words_of tb) ps)) ≤ room_words
pack_number-zero-room tb ps room_words e =
    let need = words_for (length (row_bits (words_of tb) ps)) in
    let left = sym (pack_number-packable tb ps room_words (packable tb ps room_words e)) ∙ e in
    ltb-false room_words need (cond-zero-test (ltb room_words need) 4 0 left)

pub packed-done : (tb pb m : List ℕ) → pack_number tb (halves_of pb) (length m / 4) ≡ 0
    → packed tb pb m ≡ wrote (length (row_bits (words_of tb) (halves_of pb))) (row_bytes (words_of tb) (halves_of pb)) m
unfolding packed
packed-done tb pb m e = rw e

pub packed-refused : (tb pb m : List ℕ) (e : ℕ) → pack_number tb (halves_of pb) (length m / 4) ≡ suc e
    → packed tb pb m ≡ refused (suc e) m
unfolding packed
packed-refused tb pb m e h = rw h

-- the words that a done packing wrote
pub packed-front : (tb pb m : List ℕ) → pack_number tb (halves_of pb) (length m / 4) ≡ 0
    → take (4 * words_for (packed tb pb m).answer.count) (packed tb pb m).memory ≡ row_bytes (words_of tb) (halves_of pb)
packed-front tb pb m e =
    let b = row_bits (words_of tb) (halves_of pb) in
    let k = 4 * words_for (length b) in
    let front = row_bytes (words_of tb) (halves_of pb) in
    rw (packed-done tb pb m e) (take_at front (drop (length front) m) k (length_cut 8 k b))
