-- Demand 2: the row that packing wrote is read back. Assumes nothing.
use Rattle.std.specs.Prelude.{ℕ, ◌-◌, ◌*◌, ◌/◌, ◌≤◌, ◌≡◌, refl, false, List, [], ◌∷◌, ◌++◌, length, take, drop, replicate, ltb}
use Rattle.std.proofs.Common.{arith, sym, ◌∙◌, append_assoc, length-append, ltb-false}
use Rattle.std.proofs.Math.Seq.{drop-append_seam}
use Rattle.bitstream.specs.Bits.{words_of, halves_of, stream, words_for, Below}
use Rattle.answer.specs.Outcome.{Lent, lent}
use Rattle.row_format.specs.Lists.{any}
use Rattle.row_format.specs.Lists.Laws.{any-false-head, any-false-tail}
use Rattle.row_format.specs.BitLaws.{stream-bytes_of}
use Rattle.row_format.specs.Table.{Accepted}
use Rattle.row_format.specs.Table.Laws.{accepted, table_number-verdict}
use Rattle.row_format.specs.Row.{Item, State, fresh, previous, item_for, after, item_bits, items_for, pixels_of, bits, row_bits, row_bytes}
use Rattle.row_format.specs.Reading.{read_item, done, read_by, read_items, row_reading, FitAll, Readable}
use Rattle.row_format.proofs.Reading.Laws.{first_number-readable, lent-room}
use Rattle.row_format.specs.Calls.{pack_number, packed, row_wrote, unpacked, Packable}
use Rattle.row_format.proofs.Calls.Laws.{packed-number, packable, packed-done, packed-front}
use Rattle.row_format.specs.Row.Laws.{length-items_for}
use Rattle.row_format.proofs.Theorems.Items.{after-height, read_item-own, item_for-right}
use Rattle.row_format.proofs.Theorems.Words.{below-row_bits, stray-zeros, bytes_of-halves_of}

-- ---- bits
pub read_by-own : (t : List ℕ) (ok : Accepted t) (s : State) (is : List Item) (r : List ℕ) → FitAll t s is
    → read_by (read_item t) s (length is) (bits t is ++ r) ≡ done is (length (bits t is))
unfolding read_by bits
read_by-own t ok s [] r fits = refl
read_by-own t ok s (i ∷ is) r fits =
    rw (
      append_assoc (item_bits t i) (bits t is) r,
      read_item-own t ok s i (bits t is ++ r) fits.0,
      drop-append_seam (item_bits t i) (bits t is ++ r),
      read_by-own t ok (after s i) is r fits.1,
      length-append (item_bits t i) (bits t is),
    )

-- the items that packing gives for pixels at most 4095 fit, and stand for those pixels
pub record AllRight (t : List ℕ) (s : State) (ps : List ℕ) : Type 0 where
  pub fits : FitAll t s (items_for t s ps)
  pub pixels : pixels_of s (items_for t s ps) ≡ ps

pub items_for-right : (t : List ℕ) (s : State) (ps : List ℕ) → previous s ≤ 4093 → any (ltb 4095) ps ≡ false → AllRight t s ps
unfolding items_for pixels_of
items_for-right t s [] h e = record { fits = tt; pixels = refl }
items_for-right t s (p ∷ ps) h e =
    let first = item_for-right t s p h (ltb-false 4095 p (any-false-head (ltb 4095) p ps e)) in
    let height = after-height t s (item_for t s p) h first.fits in
    let rest = items_for-right t (after s (item_for t s p)) ps height (any-false-tail (ltb 4095) p ps e) in
    record { fits = (first.fits, rest.fits); pixels = rw (first.pixel, rest.pixels) }

pub pixels_of-items_for : (t ps : List ℕ) → any (ltb 4095) ps ≡ false → pixels_of fresh (items_for t fresh ps) ≡ ps
pixels_of-items_for t ps e = (items_for-right t fresh ps (omega arith) e).pixels

-- a row's bits are read back, whatever follows them
pub read_items-row_bits : (t : List ℕ) (ok : Accepted t) (ps r : List ℕ) → any (ltb 4095) ps ≡ false
    → read_items t (length ps) (row_bits t ps ++ r) ≡ done (items_for t fresh ps) (length (row_bits t ps))
unfolding read_items row_bits
read_items-row_bits t ok ps r e =
    let fits = (items_for-right t fresh ps (omega arith) e).fits in
    rw (length-items_for t fresh ps) at (read_by-own t ok fresh (items_for t fresh ps) r fits)

-- ---- the calls
-- a row's words are read as the row, whatever words follow
pub row_reading-row_bytes : (m : Lent) (tb ps rest : List ℕ) → Readable m tb (length ps) → any (ltb 4095) ps ≡ false
    → let t = words_of tb in
    row_reading m tb (length ps) (row_bytes t ps ++ rest) ≡ done (items_for t fresh ps) (length (row_bits t ps))
unfolding row_reading
row_reading-row_bytes m tb ps rest ok e =
    let t = words_of tb in
    let b = row_bits t ps in
    let padding = replicate (32 * words_for (length b) - length b) 0 ++ stream rest in
    rw (
      first_number-readable m tb (length ps) ok,
      stream-bytes_of b rest (below-row_bits t ps),
      read_items-row_bits t (accepted t (table_number-verdict tb ok.table)) ps padding e,
      stray-zeros b (stream rest),
    )

-- what packing wrote is unpacked: the bits are those written, and the pixels' bytes the row's own
pub unpacked-row_bytes : (tb pb rest m : List ℕ) → Below 256 pb → Packable tb (halves_of pb)
    → length (halves_of pb) ≤ length m / 2
    → unpacked tb (row_bytes (words_of tb) (halves_of pb) ++ rest) (length (halves_of pb)) m
    ≡ row_wrote (length (row_bits (words_of tb) (halves_of pb))) (take (2 * length (halves_of pb)) pb) m
unfolding unpacked
unpacked-row_bytes tb pb rest m bytes ok room =
    let ps = halves_of pb in
    let asked : Readable (lent (length m)) tb (length ps) =
    record { table = ok.table; few = ok.few; room = lent-room (length m) (length ps) (omega arith) } in
    rw (
      row_reading-row_bytes (lent (length m)) tb ps rest asked ok.pixels,
      pixels_of-items_for (words_of tb) ps ok.pixels,
      bytes_of-halves_of pb bytes,
    )

-- so too from the words that a done packing wrote, whatever follows them, and from the very memory that it leaves
module _ (tb pb m : List ℕ) (bytes : Below 256 pb) (packs : (packed tb pb m).answer.number ≡ 0) where
  passed : pack_number tb (halves_of pb) (length m / 4) ≡ 0
  passed = sym (packed-number tb pb m) ∙ packs

  pub unpacked-front : (rest m' : List ℕ) → length (halves_of pb) ≤ length m' / 2
      → let front = take (4 * words_for (packed tb pb m).answer.count) (packed tb pb m).memory in
      unpacked tb (front ++ rest) (length (halves_of pb)) m'
      ≡ row_wrote (packed tb pb m).answer.count (take (2 * length (halves_of pb)) pb) m'
  unpacked-front rest m' room =
      rw (packed-front tb pb m passed, packed-done tb pb m passed)
      (unpacked-row_bytes tb pb rest m' bytes (packable tb (halves_of pb) (length m / 4) passed) room)

  pub unpacked-packed : (m' : List ℕ) → length (halves_of pb) ≤ length m' / 2
      → unpacked tb (packed tb pb m).memory (length (halves_of pb)) m'
      ≡ row_wrote (packed tb pb m).answer.count (take (2 * length (halves_of pb)) pb) m'
  unpacked-packed m' room =
      let front = row_bytes (words_of tb) (halves_of pb) in
      rw (packed-done tb pb m passed)
      (unpacked-row_bytes tb pb (drop (length front) m) m' bytes (packable tb (halves_of pb) (length m / 4) passed) room)
