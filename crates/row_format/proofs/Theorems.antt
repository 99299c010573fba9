-- The theorems about tables, rows and the calls, in the words of the customer's demands, of document 01 and of document 02's
-- tickets 2, by which a refusal gives zero for every count and value but the place of 6 to 10, and 5, by which a row's first height
-- is raw; the files below prove them. tb, pb and wb are the bytes of a table, of pixels and of words, t is a table's words, r is a
-- run of bits, and m is the memory lent for writing, as it was. A table is accepted where its verdict is 0. M is max_item_bits t, and
-- an item's bits are those of item_bits t. Assumes nothing.
use Rattle.std.specs.Prelude.{ℕ, ◌+◌, ◌*◌, ◌/◌, ◌^◌, ◌≤◌, ◌<◌, ◌≡◌, refl, true, false, List, [], ◌∷◌, ◌++◌, ◌↔◌, ◌⊎◌, length, take, drop, get_or, pos, negsuc, ◌-ℤ◌, ◌≤ℤ◌, ltb, eqb}
use Rattle.std.proofs.Common.{le_trans, sym, ◌∙◌}
use Rattle.bitstream.specs.Bits.{digits, begins, words_of, halves_of, stream, words_for, Below}
use Rattle.answer.specs.Outcome.{answer_of, refusal, lent, Kept, Within}
use Rattle.row_format.specs.Lists.{any}
use Rattle.row_format.specs.Place.{has_place}
use Rattle.row_format.specs.Table.{low_limit, table_size, codeword_at, escape_length, signed_difference, entry_difference, has_difference, clash, verdict, table_number, Apart, Accepted, max_item_bits}
use Rattle.row_format.specs.Table.Laws.{clash-false-apart, apart-clash-false, accepted, verdict-accepted, signed-difference_to, length-codeword_at, escape_length-least, codeword_at-least, codeword_at-most, codeword_at-only, max_item_bits-least, max_item_bits-most}
use Rattle.row_format.specs.Row.{Item, difference, escape, State, fresh, past, previous, difference_to, item_for, pixel_of, after_all, item_bits, items_for, pixels_of, bits, row_bits, row_bytes, pixel_bytes}
use Rattle.row_format.specs.Row.Laws.{item_for-escape, by_difference-lacks, length-items_for}
use Rattle.row_format.specs.Reading.{inside, Fits, FitAll, bits_of_reading, read_item, done, stop, bits_of_run, prepend_all, read_by, read_items, stray, first_number, Readable, Reads, StoppedAt, StrayAt, departs, any_departs, Departure}
use Rattle.row_format.specs.FirstHeight.{AllBad, FirstHeight, AllBadItems, former_bits, former_bytes}
use Rattle.row_format.specs.Calls.{checked, Packable, packed, row_refusal, row_refused, row_wrote, unpacked, Accepts, bits_used, room}
use Rattle.row_format.proofs.Calls.Laws.{packed-number, packed-done}
use Bounds.{read_item-uses, bits_used-most, bits_used-none, bits_used-run, length-row_bits}
use Differences.{entry-for, entry-signed, item_bits-entry, leads, pixel_of-difference_to}
use RoundTrip.{read_by-own, pixels_of-items_for, unpacked-front, unpacked-packed}
use Previous.{fit-height, items_for-height, items_for-append, read_items-add, read_items-stop}
use Locality.{unpacked-alike}
use Room.{packed-five, packed-enough, room-done, packed-room-enough}
use Tightness.{tight}
use Standing.{RunStands, read_items-stands, stands-pixels}
use Departures.{departs-exactly, any_departs-exactly}
use OwnWords.{own-words, own-words-packed}
use Memory.{packed-kept, packed-within, unpacked-kept, unpacked-within}
use Numbers.{checked-in, room_in, packed-in, unpacked-in}
use Done.{unpacked-accepts, unpacked-reads, unpacked-stands, bits_used-count, pixels-left}
use BitsLeft.{bits_used-words}
use Places.{unpacked-none, unpacked-stopped, stopped-unpacked, unpacked-stray, stray-unpacked, stray-used, unpacked-within-used}
use Places.{stopped-before, stopped-before-used}
use WordsEnd.{words-end}
use FirstRaw.{heights-first, items_for-first, row_bits-first, first-raw, later-difference, fresh-exactly}
use Former.{former-unpacked, former-longer, former-same, former-same-bad}
pub mod Search
pub mod Bounds
pub mod Items
pub mod Differences
pub mod RoundTrip
pub mod Previous
pub mod Words
pub mod Locality
pub mod Room
pub mod Tightness
pub mod Standing
pub mod Departures
pub mod OwnWords
pub mod Memory
pub mod Numbers
pub mod BitsLeft
pub mod Shown
pub mod Stops
pub mod Places
pub mod WordsEnd
pub mod Done
pub mod FirstRaw
pub mod Former

-- ---- an accepted table
-- a table is accepted exactly when what document 01 asks of one is true; the sentences one by one follow
pub table-accepted : (t : List ℕ) → (verdict t ≡ 0) ↔ Accepted t
table-accepted t = (accepted t, verdict-accepted t)

-- 3 is "a string equals or begins another": the verdict's test fails exactly when of no two different places the string of one
-- begins that of the other
pub clash-apart : (ss : List (List ℕ)) → (clash ss ≡ false) ↔ Apart (length ss) (λ i. get_or ss i [])
clash-apart ss = (clash-false-apart ss, apart-clash-false ss)

module _ (t : List ℕ) (ok : verdict t ≡ 0) where
  -- "A table is 6 + tableSize words"; "tableSize is 1 to 8187, and lowLimit + tableSize is at most 8187"
  pub table-sizes :
      (length t ≡ 6 + table_size t) × (1 ≤ table_size t) × (table_size t ≤ 8187) × (low_limit t + table_size t ≤ 8187)
  table-sizes = let a = accepted t ok in (a.words, a.size-least, a.size-most, a.sum-most)

  -- "Lengths are 1 to 27, the raw string's 1 to 15"
  pub codeword-lengths : (j : ℕ) → j < 3 + table_size t → (1 ≤ length (codeword_at t j)) × (length (codeword_at t j) ≤ 27)
  codeword-lengths j h = let a = accepted t ok in (codeword_at-least t a j h, codeword_at-most t a j h)

  pub escape-lengths : (1 ≤ escape_length t) × (escape_length t ≤ 15)
  escape-lengths = let a = accepted t ok in (escape_length-least t a, a.escape-most)

  -- "No bit is set above the string"
  pub codeword-above : (j : ℕ) → j < 3 + table_size t → get_or t (3 + j) 0 / 32 < 2 ^ length (codeword_at t j)
  codeword-above j h = rw (length-codeword_at t j) ((accepted t ok).word j h).above

  -- "So steps lie within -4093 to 4093"
  pub entry-differences : (i : ℕ) → i < table_size t
      → (negsuc 4092 ≤ℤ signed_difference (entry_difference t i)) × (signed_difference (entry_difference t i) ≤ℤ pos 4093)
  entry-differences = entry-signed t (accepted t ok)

  -- "If the table has the step": some entry stands for it; and "its string" is that entry's. (Of any table's words)
  pub has-difference : (k : ℕ) → (has_difference t k ≡ true) ↔ ((i : ℕ) × (i < table_size t) × (entry_difference t i ≡ k))
  has-difference = entry-for t

  pub entry-codeword : (i : ℕ) → item_bits t (difference (entry_difference t i)) ≡ codeword_at t (3 + i)
  entry-codeword = item_bits-entry t

  -- "No string equals or begins another, the three special ones included"
  pub prefix-free : (i j : ℕ) → i < 3 + table_size t → j < 3 + table_size t → (i ≡ j → ⊥)
      → begins (codeword_at t i) (codeword_at t j) ≡ false
  prefix-free = (accepted t ok).apart

  -- so that no two can begin the same bits
  pub codewords-apart : (i j : ℕ) (r : List ℕ) → i < 3 + table_size t → j < 3 + table_size t
      → begins (codeword_at t i) r ≡ true → begins (codeword_at t j) r ≡ true → i ≡ j
  codewords-apart = codeword_at-only t (accepted t ok)

  pub max_item_bits-range : (13 ≤ max_item_bits t) × (max_item_bits t ≤ 27)
  max_item_bits-range = let a = accepted t ok in (max_item_bits-least t a, max_item_bits-most t a)

-- ---- demand 2: packing writes what is prescribed, and unpacking gives the row back
-- "step = pixel - previous height"
pub difference-signed : (s : State) (p : ℕ) → previous s ≤ 4093 → signed_difference (difference_to s p) ≡ pos p -ℤ pos (previous s)
difference-signed s p h = signed-difference_to p (previous s) h

-- 8 is "a step leads outside 0 to 4093": a step leads inside exactly when it is that of some height, and then it stands for
-- that height
pub difference-leads : (s : State) (k : ℕ) → previous s ≤ 4093
    → (inside s k ≡ true) ↔ ((p : ℕ) × (p ≤ 4093) × (k ≡ difference_to s p))
difference-leads = leads

pub difference-pixel : (s : State) (p : ℕ) → previous s ≤ 4093 → pixel_of s (difference (difference_to s p)) ≡ p
difference-pixel = pixel_of-difference_to

-- what is previous is at most 4093, as these three ask, wherever packing uses it: after the items of any pixels at most 4095,
-- which is the state from which the next pixels are written
pub row-previous : (t ps : List ℕ) → any (ltb 4095) ps ≡ false → previous (after_all fresh (items_for t fresh ps)) ≤ 4093
row-previous = items_for-height

pub row-onward : (t ps qs : List ℕ)
    → items_for t fresh (ps ++ qs) ≡ items_for t fresh ps ++ items_for t (after_all fresh (items_for t fresh ps)) qs
row-onward t ps qs = items_for-append t fresh ps qs

-- "a step that the table lacks must come back as the height itself"
pub lacking-difference : (t : List ℕ) (s : State) (p : ℕ) → p ≤ 4093 → has_difference t (difference_to s p) ≡ false
    → item_for t s p ≡ escape p
lacking-difference t s p most lacks = item_for-escape t s p most (by_difference-lacks t s p lacks)

-- every pixel at most 4095 is the pixel that its item stands for
pub items-pixels : (t ps : List ℕ) → any (ltb 4095) ps ≡ false → pixels_of fresh (items_for t fresh ps) ≡ ps
items-pixels = pixels_of-items_for

-- "unpacking gives that row back and uses exactly the bits written": from the words that a done packing wrote, whatever
-- follows them, the answer is 0 and the bits written, and the pixels' bytes are the row's own
module _ (tb pb m : List ℕ) (bytes : Below 256 pb) (packs : (packed tb pb m).answer.number ≡ 0) where
  pub round_trip : (rest m' : List ℕ) → length (halves_of pb) ≤ length m' / 2
      → let front = take (4 * words_for (packed tb pb m).answer.count) (packed tb pb m).memory in
      unpacked tb (front ++ rest) (length (halves_of pb)) m'
      ≡ row_wrote (packed tb pb m).answer.count (take (2 * length (halves_of pb)) pb) m'
  round_trip = unpacked-front tb pb m bytes packs

  -- the same from the very memory that packing leaves
  pub round-trip-memory : (m' : List ℕ) → length (halves_of pb) ≤ length m' / 2
      → unpacked tb (packed tb pb m).memory (length (halves_of pb)) m'
      ≡ row_wrote (packed tb pb m).answer.count (take (2 * length (halves_of pb)) pb) m'
  round-trip-memory = unpacked-packed tb pb m bytes packs

-- "Foreign words are read by the same rules or refused". Items that may stand where they stand, written one after the other,
-- are read as those items, whatever bits follow
pub fitting-read : (t : List ℕ) → verdict t ≡ 0 → (s : State) (is : List Item) (r : List ℕ) → FitAll t s is
    → read_by (read_item t) s (length is) (bits t is ++ r) ≡ done is (length (bits t is))
fitting-read t ok = read_by-own t (accepted t ok)

-- and nothing else is read. Of a reading of n items from the bits r that gave the items is and used u bits:
module _ (t : List ℕ) (ok : verdict t ≡ 0) (n : ℕ) (r : List ℕ) (bin : Below 2 r) (is : List Item) (u : ℕ)
    (read : read_items t n r ≡ done is u) where
  stands : RunStands t fresh n r is u
  stands = read_items-stands t (accepted t ok) n r is u bin read

  -- n items, each of which may stand where it stands: a step that the table has and that leads to 0 to 4093, or a raw height
  -- below 4094
  pub read-items : (length is ≡ n) × FitAll t fresh is
  read-items = (stands.count, stands.fits)

  -- their bits stand in front, and are the bits used
  pub read-bits : (r ≡ bits t is ++ drop u r) × (u ≡ length (bits t is))
  read-bits = (stands.front.there, stands.front.size)

  -- they stand for a row: n pixels, none above 4095
  pub read-pixels : (length (pixels_of fresh is) ≡ n) × (any (ltb 4095) (pixels_of fresh is) ≡ false)
  read-pixels = stands-pixels t n r is u stands

  -- what is previous after them is at most 4093, and from there and from the bits after theirs the next items are read
  pub read-previous : previous (after_all fresh is) ≤ 4093
  read-previous = fit-height t is stands.fits

  pub read-onward : (k : ℕ) → read_items t (n + k) r ≡ prepend_all is u (read_by (read_item t) (after_all fresh is) k (drop u r))
  read-onward k = read_items-add t n k r is u read

-- "at the earliest faulty item": one that stops a reading stops every reading of more items
pub read-stopped : (t : List ℕ) (n k : ℕ) (r : List ℕ) (e at u : ℕ) → read_items t n r ≡ stop e at u
    → read_items t (n + k) r ≡ stop e at u
read-stopped = read_items-stop

-- "accepts a raw item although the table has the step", and a first height by its step: an item that may stand where it stands,
-- as all do that are read, departs from what packing would write exactly where it is a departure in words
pub item-departs : (t : List ℕ) (s : State) (i : Item) → Fits t s i → (departs t s i ≡ true) ↔ Departure t s i
item-departs = departs-exactly

-- and of such items none departs exactly when none is a departure where it stands, after the items js and before the items ks
pub items-depart : (t : List ℕ) (s : State) (is : List Item) → FitAll t s is
    → (any_departs t s is ≡ false)
    ↔ ((js ks : List Item) (i : Item) → is ≡ js ++ (i ∷ ks) → Departure t (after_all s js) i → ⊥)
items-depart = any_departs-exactly

-- "The used words of an accepted reading are the very words packing would write exactly when" no item departs
pub used-words-own : (t : List ℕ) → verdict t ≡ 0 → (wb : List ℕ) → Below 256 wb → (n : ℕ) (is : List Item) (u : ℕ)
    → read_items t n (stream wb) ≡ done is u → stray u (stream wb) ≡ false
    → (take (4 * words_for u) wb ≡ row_bytes t (pixels_of fresh is)) ↔ (any_departs t fresh is ≡ false)
used-words-own t ok = own-words t (accepted t ok)

-- unpacking is done where what is asked before the first item is given, n items are read and no unused bit is set; and only
-- there
pub unpacked-granted : (tb wb : List ℕ) (n : ℕ) (m : List ℕ) (is : List Item) (u : ℕ) → Reads (lent (length m)) tb n wb is u
    → unpacked tb wb n m ≡ row_wrote u (pixel_bytes (pixels_of fresh is)) m
unpacked-granted = unpacked-reads

pub unpacked-done : (tb wb : List ℕ) (n : ℕ) (m : List ℕ) → (unpacked tb wb n m).answer.number ≡ 0 → Accepts tb wb n m
unpacked-done = unpacked-accepts

module _ (tb wb : List ℕ) (n : ℕ) (m : List ℕ) (got : Accepts tb wb n m) where
  -- the items are n, and may stand where they stand; its words begin with their bits; and it leaves the pixels that they
  -- stand for
  pub unpacked-items : (length got.items ≡ n) × FitAll (words_of tb) fresh got.items
  unpacked-items = let there = unpacked-stands tb wb n m got in (there.count, there.fits)

  pub unpacked-words : stream wb ≡ bits (words_of tb) got.items ++ drop (unpacked tb wb n m).answer.count (stream wb)
  unpacked-words = (unpacked-stands tb wb n m got).front.there

  pub unpacked-pixels : halves_of (take (2 * n) (unpacked tb wb n m).memory) ≡ pixels_of fresh got.items
  unpacked-pixels = pixels-left tb wb n m got

  -- the used words are packing's own, of a packing, with room enough, of the pixels that it left
  pub unpacked-words-own : Below 256 wb → (mw : List ℕ)
      → let pb = take (2 * n) (unpacked tb wb n m).memory in
      (packed tb pb mw).answer.number ≡ 0
      → (take (4 * words_for (unpacked tb wb n m).answer.count) wb
      ≡ take (4 * words_for (packed tb pb mw).answer.count) (packed tb pb mw).memory)
      ↔ (any_departs (words_of tb) fresh got.items ≡ false)
  unpacked-words-own bytes = own-words-packed tb wb n m bytes got

-- ---- demand 3
-- "every row of n pixels, each at most 4095, takes at most n times M bits"; under any table, and of any pixels
pub row-bits : (t ps : List ℕ) → length (row_bits t ps) ≤ length ps * max_item_bits t
row-bits = length-row_bits

-- "Its packing is refused for room exactly when the bits it takes, rounded up to whole words, exceed the words lent"
pub room-refused : (tb pb m : List ℕ) → Packable tb (halves_of pb)
    → ((packed tb pb m).answer.number ≡ 5) ↔ (length m / 4 < words_for (length (row_bits (words_of tb) (halves_of pb))))
room-refused = packed-five

pub room-granted : (tb pb m : List ℕ) → Packable tb (halves_of pb)
    → words_for (length (row_bits (words_of tb) (halves_of pb))) ≤ length m / 4 → (packed tb pb m).answer.number ≡ 0
room-granted = packed-enough

-- "when done, it reports exactly the bits it takes"
pub packed-bits : (tb pb m : List ℕ) → (packed tb pb m).answer.number ≡ 0
    → (packed tb pb m).answer.count ≡ length (row_bits (words_of tb) (halves_of pb))
packed-bits tb pb m h = rw (packed-done tb pb m (sym (packed-number tb pb m) ∙ h))

-- "The bit count reported by either call is the sum of the items' lengths": of a done unpacking, these are the bits it used
pub unpacked-bits : (tb wb : List ℕ) (n : ℕ) (m : List ℕ) (got : Accepts tb wb n m)
    → ((unpacked tb wb n m).answer.count ≡ length (bits (words_of tb) got.items))
    × (bits_used tb wb n m ≡ (unpacked tb wb n m).answer.count)
unpacked-bits tb wb n m got = ((unpacked-stands tb wb n m got).front.size, bits_used-count tb wb n m got)

-- "The room question answers n x M / 32, rounded up"
pub room-answer : (tb : List ℕ) (n : ℕ) → table_number tb ≡ 0 → n ≤ 4096
    → room tb n ≡ answer_of 0 (words_for (n * max_item_bits (words_of tb)))
room-answer = room-done

-- the room question's answer is enough for every row of so many pixels
pub room-enough : (tb pb m : List ℕ) → Packable tb (halves_of pb) → (room tb (length (halves_of pb))).count ≤ length m / 4
    → (packed tb pb m).answer.number ≡ 0
room-enough = packed-room-enough

-- "Whatever stands in the words, unpacking n pixels never uses more than n times M bits, done or refused"; under any table
pub reading-bits : (tb wb : List ℕ) (n : ℕ) (m : List ℕ) → bits_used tb wb n m ≤ n * max_item_bits (words_of tb)
reading-bits = bits_used-most

-- "Refused before its first item it uses none, and 10 adds none": else it uses the bits of its run, whether 10 is given or not
pub reading-bits-none : (tb wb : List ℕ) (n : ℕ) (m : List ℕ) → (first_number (lent (length m)) tb n ≡ 0 → ⊥)
    → bits_used tb wb n m ≡ 0
reading-bits-none = bits_used-none

pub reading-bits-run : (tb wb : List ℕ) (n : ℕ) (m : List ℕ) → first_number (lent (length m)) tb n ≡ 0
    → bits_used tb wb n m ≡ bits_of_run (read_items (words_of tb) n (stream wb))
reading-bits-run = bits_used-run

-- "Its items, a refused one too, use at most M bits each"
pub item-bits : (t : List ℕ) (s : State) (r : List ℕ) → bits_of_reading (read_item t s r) ≤ max_item_bits t
item-bits = read_item-uses

-- "Any two runs of words that are alike in their first n times M bits, rounded up to whole words, get the same answer when n
-- pixels are unpacked from them", the place included; under any table
pub words-alike : (tb wb wb' : List ℕ) (n : ℕ) (m : List ℕ)
    → let k = words_for (n * max_item_bits (words_of tb)) in
    4 * k ≤ length wb → 4 * k ≤ length wb' → take (4 * k) wb ≡ take (4 * k) wb'
    → unpacked tb wb n m ≡ unpacked tb wb' n m
words-alike = unpacked-alike

-- "If the table has neither -4093 nor +4093 as a step, and no string is longer than the raw string's length plus 12, then for
-- each such n some row of n pixels, each at most 4095, takes exactly n times M bits"
pub row-bits-tight : (t : List ℕ) → verdict t ≡ 0 → has_difference t 0 ≡ false → has_difference t 8186 ≡ false
    → ((j : ℕ) → j < 3 + table_size t → length (codeword_at t j) ≤ escape_length t + 12)
    → (n : ℕ) → (ps : List ℕ) × (length ps ≡ n) × (any (ltb 4095) ps ≡ false) × (length (row_bits t ps) ≡ n * max_item_bits t)
row-bits-tight t ok least most = tight t (accepted t ok) least

-- by ticket 5 the second of these steps may be there: 4093 at a row's start is raw in any case
pub row-bits-met : (t : List ℕ) → verdict t ≡ 0 → has_difference t 0 ≡ false
    → ((j : ℕ) → j < 3 + table_size t → length (codeword_at t j) ≤ escape_length t + 12)
    → (n : ℕ) → (ps : List ℕ) × (length ps ≡ n) × (any (ltb 4095) ps ≡ false) × (length (row_bits t ps) ≡ n * max_item_bits t)
row-bits-met t ok = tight t (accepted t ok)

-- the two steps that it names, held as counts from -4093
pub least-difference : signed_difference 0 ≡ negsuc 4092
least-difference = refl

pub most-difference : signed_difference 8186 ≡ pos 4093
most-difference = refl

-- ---- document 02, ticket 2: where reading stopped
-- "refusals 6 to 9 return the bit place of the faulty item's first bit and zero elsewhere; 10 returns the first unused bit".
-- Places are counted from bit 0 of the row's first word. Every other number has none, and done has none
module _ (tb wb : List ℕ) (n : ℕ) (m : List ℕ) where
  pub place_none : has_place (unpacked tb wb n m).answer.number ≡ false → (unpacked tb wb n m).answer.at ≡ 0
  place_none = unpacked-none tb wb n m

  pub place-done : (unpacked tb wb n m).answer.number ≡ 0 → (unpacked tb wb n m).answer.at ≡ 0
  place-done e = place_none (rw e)

  -- 6 to 9: the items before the faulty one are read, the place is the sum of their lengths, and there stands an item that is
  -- refused so. And back
  pub place-item : 6 ≤ (unpacked tb wb n m).answer.number → (unpacked tb wb n m).answer.number ≤ 9
      → StoppedAt (lent (length m)) tb n wb (unpacked tb wb n m).answer.number (unpacked tb wb n m).answer.at
  place-item = unpacked-stopped tb wb n m

  pub place-item-back : (e at : ℕ) → StoppedAt (lent (length m)) tb n wb e at
      → (unpacked tb wb n m ≡ row_refused at e m) × ((unpacked tb wb n m).answer.at ≡ at)
  place-item-back = stopped-unpacked tb wb n m

  -- unpacking just those items from the same words, with room for them, is done or is refused 10, at that place; and uses
  -- exactly the bits up to it
  module _ (e at : ℕ) (got : StoppedAt (lent (length m)) tb n wb e at) (m' : List ℕ) (room : 2 * length got.items ≤ length m') where
    pub before-fault : (unpacked tb wb (length got.items) m' ≡ row_wrote at (pixel_bytes (pixels_of fresh got.items)) m')
        ⊎ (unpacked tb wb (length got.items) m' ≡ row_refused at 10 m')
    before-fault = stopped-before (lent (length m)) tb n wb e at got m' room

    pub before-fault-bits : bits_used tb wb (length got.items) m' ≡ at
    before-fault-bits = stopped-before-used (lent (length m)) tb n wb e at got m' room

  -- 10: the row's items are read, and the place is the bits that they take, which are the bits used. And back
  pub place-unused : (unpacked tb wb n m).answer.number ≡ 10 → StrayAt (lent (length m)) tb n wb (unpacked tb wb n m).answer.at
  place-unused = unpacked-stray tb wb n m

  pub place-unused-bits : (unpacked tb wb n m).answer.number ≡ 10 → (unpacked tb wb n m).answer.at ≡ bits_used tb wb n m
  place-unused-bits ten = sym (stray-used tb wb n m (unpacked tb wb n m).answer.at (place-unused ten))

  pub place-unused-back : (at : ℕ) → StrayAt (lent (length m)) tb n wb at → unpacked tb wb n m ≡ row_refused at 10 m
  place-unused-back = stray-unpacked tb wb n m

  -- whatever is answered, under any table, the place is at most n times M, and at most 32 times the words
  pub place-most : (unpacked tb wb n m).answer.at ≤ n * max_item_bits (words_of tb)
  place-most = le_trans (unpacked-within-used tb wb n m) (bits_used-most tb wb n m)

  pub place-words : (unpacked tb wb n m).answer.at ≤ 32 * (length wb / 4)
  place-words = le_trans (unpacked-within-used tb wb n m) (bits_used-words tb wb n m)

  -- where the items so far use all bits and more are asked for, it is that: "6: words end: .. the rest is empty"
  pub place_end : Readable (lent (length m)) tb n → (is : List Item) → length is < n
      → read_items (words_of tb) (length is) (stream wb) ≡ done is (32 * (length wb / 4))
      → unpacked tb wb n m ≡ row_refused (32 * (length wb / 4)) 6 m
  place_end ok is fewer read =
      (stopped-unpacked tb wb n m 6 (32 * (length wb / 4)) (words-end (lent (length m)) tb n wb ok is fewer read)).0

-- ---- document 02, ticket 5: first height always raw
-- a row of pixels at most 4095 has a first height, "the first pixel that is neither 4094 nor 4095", or none
pub first-height : (ps : List ℕ) → any (ltb 4095) ps ≡ false → AllBad ps ⊎ FirstHeight ps
first-height = heights-first

-- the first height "is raw and becomes previous", under every table: its item, behind one for each pixel before it, is the escape
-- of that very height, and the pixels after it are written from it
pub first-height-raw : (t ps : List ℕ) (f : FirstHeight ps)
    → (length (items_for t fresh f.before) ≡ length f.before)
    × (items_for t fresh ps ≡ items_for t fresh f.before ++ (escape f.height ∷ items_for t (past f.height) f.rest))
first-height-raw t ps f = (length-items_for t fresh f.before, items_for-first t ps f)

-- so that a row's bits are those of the bad spots before it, the raw string, the height in 12 bits, and the bits of the rest
pub first-height-bits : (t ps : List ℕ) (f : FirstHeight ps)
    → row_bits t ps
    ≡ bits t (items_for t fresh f.before)
    ++ ((codeword_at t 0 ++ digits 12 f.height) ++ bits t (items_for t (past f.height) f.rest))
first-height-bits = row_bits-first

-- "whether or not the table has its value as a step from 0": an item of a height by its case. The first is raw; a later one is
-- its step where the table has that, and the height itself where not
pub height-first : (t : List ℕ) (p : ℕ) → p ≤ 4093 → item_for t fresh p ≡ escape p
height-first = first-raw

pub height-later : (t : List ℕ) (q p : ℕ) → p ≤ 4093 → has_difference t (difference_to (past q) p) ≡ true
    → item_for t (past q) p ≡ difference (difference_to (past q) p)
height-later = later-difference

-- "first height", of items: no height has come yet exactly where the items so far are bad pixels and bad biases
pub height-none : (js : List Item) → (after_all fresh js ≡ fresh) ↔ AllBadItems js
height-none = fresh-exactly

-- "Old words are still read as before": a row that was packed by the rule before this ticket is read back as the same row, by
-- exactly the bits that it took, whatever follows its words
pub former-read : (tb pb rest m : List ℕ) → Below 256 pb → Packable tb (halves_of pb) → length (halves_of pb) ≤ length m / 2
    → unpacked tb (former_bytes (words_of tb) (halves_of pb) ++ rest) (length (halves_of pb)) m
    ≡ row_wrote (length (former_bits (words_of tb) (halves_of pb))) (take (2 * length (halves_of pb)) pb) m
former-read = former-unpacked

-- what the new rule costs: where the table has the first height as a step from 0, the row's bits now and that step's string are as
-- many as its bits by the former rule and the raw string's with 12 more; else, and where it has no height, the bits are the same
module _ (t ps : List ℕ) where
  pub former-cost : (f : FirstHeight ps) → has_difference t (difference_to fresh f.height) ≡ true
      → length (row_bits t ps) + length (item_bits t (difference (difference_to fresh f.height)))
      ≡ length (former_bits t ps) + (escape_length t + 12)
  former-cost = former-longer t ps

  pub former-alike : (f : FirstHeight ps) → has_difference t (difference_to fresh f.height) ≡ false
      → row_bits t ps ≡ former_bits t ps
  former-alike = former-same t ps

  pub former-alike-bad : AllBad ps → row_bits t ps ≡ former_bits t ps
  former-alike-bad = former-same-bad t ps

-- ---- demand 1
-- "each call .. answers with a number from document 01", and its order lists which
pub checked-numbers : (tb : List ℕ) → any (eqb (checked tb).number) (0 ∷ 1 ∷ 2 ∷ 3 ∷ []) ≡ true
unfolding any
checked-numbers tb = checked-in (λ e. any (eqb e) (0 ∷ 1 ∷ 2 ∷ 3 ∷ []) ≡ true) tb refl refl refl refl

pub packed-numbers : (tb pb m : List ℕ) → any (eqb (packed tb pb m).answer.number) (0 ∷ 1 ∷ 2 ∷ 3 ∷ 11 ∷ 4 ∷ 5 ∷ []) ≡ true
unfolding any
packed-numbers tb pb m =
    packed-in (λ e. any (eqb e) (0 ∷ 1 ∷ 2 ∷ 3 ∷ 11 ∷ 4 ∷ 5 ∷ []) ≡ true) tb pb m refl refl refl refl refl refl refl

pub unpacked-numbers : (tb wb : List ℕ) (n : ℕ) (m : List ℕ)
    → any (eqb (unpacked tb wb n m).answer.number) (0 ∷ 1 ∷ 2 ∷ 3 ∷ 11 ∷ 5 ∷ 6 ∷ 7 ∷ 8 ∷ 9 ∷ 10 ∷ []) ≡ true
unfolding any
unpacked-numbers tb wb n m =
    unpacked-in (λ e. any (eqb e) (0 ∷ 1 ∷ 2 ∷ 3 ∷ 11 ∷ 5 ∷ 6 ∷ 7 ∷ 8 ∷ 9 ∷ 10 ∷ []) ≡ true) tb wb n m
    refl refl refl refl refl refl refl refl refl refl refl

pub room-numbers : (tb : List ℕ) (n : ℕ) → any (eqb (room tb n).number) (0 ∷ 1 ∷ 2 ∷ 3 ∷ 11 ∷ []) ≡ true
unfolding any
room-numbers tb n = room_in (λ e. any (eqb e) (0 ∷ 1 ∷ 2 ∷ 3 ∷ 11 ∷ []) ≡ true) tb n refl refl refl refl refl

-- "A refused call gives its number, zero for every count and value, and leaves the lent memory as found"
pub packed-refused-keeps : (tb pb m : List ℕ) → ((packed tb pb m).answer.number ≡ 0 → ⊥)
    → Kept (refusal (packed tb pb m).answer.number) m (packed tb pb m)
packed-refused-keeps = packed-kept

-- by ticket 2, "zero for every count and value but the place of 6 to 10"
pub unpacked-refused-keeps : (tb wb : List ℕ) (n : ℕ) (m : List ℕ) → ((unpacked tb wb n m).answer.number ≡ 0 → ⊥)
    → Kept (row_refusal (unpacked tb wb n m).answer.at (unpacked tb wb n m).answer.number) m (unpacked tb wb n m)
unpacked-refused-keeps = unpacked-kept

-- "A done call writes only the pixels, words or bytes that it counts"
pub packed-writes-words : (tb pb m : List ℕ) → Within (4 * words_for (packed tb pb m).answer.count) m (packed tb pb m)
packed-writes-words = packed-within

pub unpacked-writes-pixels : (tb wb : List ℕ) (n : ℕ) (m : List ℕ) → Within (2 * n) m (unpacked tb wb n m)
unpacked-writes-pixels = unpacked-within
