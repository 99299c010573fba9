-- The theorems about a shelf of tables, in the words of document 02's ticket 6; the files below prove them. s is the shelf as it was,
-- p and q are parties and i is a place, of any value; tb, pb and wb are the bytes of a table, of pixels and of words, and m is the memory
-- lent for a row. A table is accepted where its number is 0. Assumes nothing.
use Rattle.std.specs.Prelude.{ℕ, suc, ◌+◌, ◌*◌, ◌/◌, ◌≤◌, ◌<◌, ◌≡◌, true, false, List, [], ◌∷◌, ◌++◌, ◌↔◌, length, take, get_or, replicate, eqb}
use Rattle.std.proofs.Math.Path.{refl}
use Rattle.std.proofs.Common.{sym, ap, ◌∙◌}
use Rattle.answer.specs.declared.Answer.{Answer}
use Rattle.answer.specs.Outcome.{refusal, ◌or_else◌, Kept, Within}
use Rattle.bitstream.specs.Bits.{words_of, halves_of, words_for, Below}
use Rattle.row_format.specs.Lists.{any}
use Rattle.row_format.specs.Table.{table_size, table_number, max_item_bits}
use Rattle.row_format.specs.Calls.{row_refusal, row_wrote}
use Rattle.answer.specs.Outcome.Laws.{or_else-zero-left}
use Rattle.shelf_format.specs.Shelf.{place_bytes, shelf_bytes, place, placed, filled, is_free, table_in, is_party, is_common, is_own, is_seen, may_use, SameView}
use Rattle.shelf_format.specs.Calls.{short_number, tables_number, shelf_opened, not_changed, PlaceWritten, LowestFree, shelf_put, RemovablePlace, shelf_removed, use_refusal, UsablePlace, TableAt, shelf_packed, shelf_unpacked, shelf_room, UseRefused, UsesTable}
use Rattle.shelf_format.proofs.Calls.Laws.{short_none}
use Rattle.shelf_format.specs.Run.{Call, reply, after_call, Turn, shelf_after, replies_to, calls_of, opened_in, replies_alone}
use Places.{common-exactly, own-exactly, nobody, may-exactly}
use Numbers.{open_in, put_in, remove-in, pack-in, unpack-in, room-in-shelf}
use Frame.{open-number, open-alike, put-kept, remove-kept, open_kept, remove-wrote, open-within, pack-kept, pack-within, unpack-kept, unpack-within}
use Put.{put-short, put-unknown, put_refused, put_full, put-room, lowest, lowest-wrote}
use Use.{use-short, use-not-its, use-free, use-none, uses-refused, uses-table, remove-short, remove-not-its, remove-none, removable, remove-granted}
use Use.{put-stands, remove-free, open-place, open-stands, open_free}
use Unread.{rest-unread, oversized, alike-places, alike-twelve}
use Rows.{usable, shelf-back, shelf-most, pack-either, unpack-either, room-either}
use Isolation.{Both, reply-alike, own-both, other-unseen, replies-alone, isolated, left-alike, common-kept}
pub mod Places
pub mod Numbers
pub mod Frame
pub mod Put
pub mod Use
pub mod Seen
pub mod Unread
pub mod Rows
pub mod Isolation

-- ---- "Places 0 to 3 are common .., 4 to 7 hers (party 0), 8 to 11 the partner's (party 1)", and nobody else has any
pub common-places : (i : ℕ) → (is_common i ≡ true) ↔ (i < 4)
common-places = common-exactly

pub her-places : (i : ℕ) → (is_own 0 i ≡ true) ↔ ((4 ≤ i) × (i < 8))
her-places = own-exactly 0 refl

pub partner-places : (i : ℕ) → (is_own 1 i ≡ true) ↔ ((8 ≤ i) × (i < 12))
partner-places = own-exactly 1 refl

pub unknown-party : (p i : ℕ) → 2 ≤ p → (is_own p i ≡ false) × (may_use p i ≡ false)
unknown-party = nobody

-- "Each may .. use .. tables in their own four, and use the common ones"
pub usable-places : (p i : ℕ) → is_party p ≡ true → (may_use p i ≡ true) ↔ (is_seen p i ≡ true)
usable-places = may-exactly

-- ---- demand 1: the numbers that each call may answer
pub open-numbers : (t0 t1 t2 t3 s : List ℕ) → any (eqb (shelf_opened t0 t1 t2 t3 s).answer.number) (0 ∷ 1 ∷ 2 ∷ 3 ∷ 5 ∷ []) ≡ true
unfolding any
open-numbers t0 t1 t2 t3 s =
    open_in (λ e. any (eqb e) (0 ∷ 1 ∷ 2 ∷ 3 ∷ 5 ∷ []) ≡ true) refl refl t0 t1 t2 t3 s refl refl refl

pub put-numbers : (s : List ℕ) (p : ℕ) (tb : List ℕ)
    → any (eqb (shelf_put s p tb).answer.number) (0 ∷ 5 ∷ 24 ∷ 1 ∷ 2 ∷ 3 ∷ 22 ∷ []) ≡ true
unfolding any
put-numbers s p tb =
    put_in (λ e. any (eqb e) (0 ∷ 5 ∷ 24 ∷ 1 ∷ 2 ∷ 3 ∷ 22 ∷ []) ≡ true) refl refl refl s p tb refl refl refl refl

pub remove-numbers : (s : List ℕ) (p i : ℕ) → any (eqb (shelf_removed s p i).answer.number) (0 ∷ 5 ∷ 24 ∷ 23 ∷ []) ≡ true
unfolding any
remove-numbers s p i = remove-in (λ e. any (eqb e) (0 ∷ 5 ∷ 24 ∷ 23 ∷ []) ≡ true) refl refl refl refl s p i

module _ (s : List ℕ) (p i : ℕ) where
  pub pack-numbers : (pb m : List ℕ)
      → any (eqb (shelf_packed s p i pb m).answer.number) (0 ∷ 5 ∷ 24 ∷ 23 ∷ 1 ∷ 2 ∷ 3 ∷ 11 ∷ 4 ∷ []) ≡ true
  unfolding any
  pack-numbers pb m =
      pack-in (λ e. any (eqb e) (0 ∷ 5 ∷ 24 ∷ 23 ∷ 1 ∷ 2 ∷ 3 ∷ 11 ∷ 4 ∷ []) ≡ true) refl refl refl refl s p i pb m
      refl refl refl refl refl

  pub unpack-numbers : (wb : List ℕ) (n : ℕ) (m : List ℕ)
      → any (eqb (shelf_unpacked s p i wb n m).answer.number) (0 ∷ 5 ∷ 24 ∷ 23 ∷ 1 ∷ 2 ∷ 3 ∷ 11 ∷ 6 ∷ 7 ∷ 8 ∷ 9 ∷ 10 ∷ []) ≡ true
  unfolding any
  unpack-numbers wb n m =
      unpack-in (λ e. any (eqb e) (0 ∷ 5 ∷ 24 ∷ 23 ∷ 1 ∷ 2 ∷ 3 ∷ 11 ∷ 6 ∷ 7 ∷ 8 ∷ 9 ∷ 10 ∷ []) ≡ true) refl refl refl refl s p i wb n m
      refl refl refl refl refl refl refl refl refl

  pub room-numbers : (n : ℕ) → any (eqb (shelf_room s p i n).number) (0 ∷ 5 ∷ 24 ∷ 23 ∷ 1 ∷ 2 ∷ 3 ∷ 11 ∷ []) ≡ true
  unfolding any
  room-numbers n =
      room-in-shelf (λ e. any (eqb e) (0 ∷ 5 ∷ 24 ∷ 23 ∷ 1 ∷ 2 ∷ 3 ∷ 11 ∷ []) ≡ true) refl refl refl refl s p i n refl refl refl refl

-- ---- "A refused call gives its number, zero for every count and value, and leaves the lent memory as found": the shelf, of the calls
-- that may write it
pub open-refused-keeps : (t0 t1 t2 t3 s : List ℕ) → ((shelf_opened t0 t1 t2 t3 s).answer.number ≡ 0 → ⊥)
    → Kept (refusal (shelf_opened t0 t1 t2 t3 s).answer.number) s (shelf_opened t0 t1 t2 t3 s)
open-refused-keeps = open_kept

pub put-refused-keeps : (s : List ℕ) (p : ℕ) (tb : List ℕ) → ((shelf_put s p tb).answer.number ≡ 0 → ⊥)
    → Kept (not_changed (shelf_put s p tb).answer.number) s (shelf_put s p tb)
put-refused-keeps = put-kept

pub remove-refused-keeps : (s : List ℕ) (p i : ℕ) → ((shelf_removed s p i).answer.number ≡ 0 → ⊥)
    → Kept (not_changed (shelf_removed s p i).answer.number) s (shelf_removed s p i)
remove-refused-keeps = remove-kept

-- and the words or pixels, of a use; the shelf is lent to it for reading only
module _ (s : List ℕ) (p i : ℕ) where
  pub pack-refused-keeps : (pb m : List ℕ) → ((shelf_packed s p i pb m).answer.number ≡ 0 → ⊥)
      → Kept (refusal (shelf_packed s p i pb m).answer.number) m (shelf_packed s p i pb m)
  pack-refused-keeps = pack-kept s p i

  pub pack-writes-words : (pb m : List ℕ) → Within (4 * words_for (shelf_packed s p i pb m).answer.count) m (shelf_packed s p i pb m)
  pack-writes-words = pack-within s p i

  pub unpack-refused-keeps : (wb : List ℕ) (n : ℕ) (m : List ℕ) → ((shelf_unpacked s p i wb n m).answer.number ≡ 0 → ⊥)
      → let a = (shelf_unpacked s p i wb n m).answer in
      Kept (row_refusal a.at a.number) m (shelf_unpacked s p i wb n m)
  unpack-refused-keeps = unpack-kept s p i

  pub unpack-writes-pixels : (wb : List ℕ) (n : ℕ) (m : List ℕ) → Within (2 * n) m (shelf_unpacked s p i wb n m)
  unpack-writes-pixels = unpack-within s p i

-- ---- "This amends demand 1: .. a done opening the twelve places and nothing else"
pub open-writes-places : (t0 t1 t2 t3 s : List ℕ) → Within shelf_bytes s (shelf_opened t0 t1 t2 t3 s)
open-writes-places = open-within

-- "refuses 1, 2, 3, table by table, then 5"
pub open_order : (t0 t1 t2 t3 s : List ℕ)
    → (shelf_opened t0 t1 t2 t3 s).answer.number ≡ (tables_number (t0 ∷ t1 ∷ t2 ∷ t3 ∷ []) or_else short_number s)
open_order = open-number

-- so on a shelf that is long enough it is done exactly where all four tables are accepted, as `opened_in` counts
pub open_done : (t0 t1 t2 t3 s : List ℕ) → shelf_bytes ≤ length s
    → ((shelf_opened t0 t1 t2 t3 s).answer.number ≡ 0) ↔ (tables_number (t0 ∷ t1 ∷ t2 ∷ t3 ∷ []) ≡ 0)
open_done t0 t1 t2 t3 s long =
    let number = open-number t0 t1 t2 t3 s in
    let tables = tables_number (t0 ∷ t1 ∷ t2 ∷ t3 ∷ []) in
    (λ done. or_else-zero-left tables (short_number s) (sym number ∙ done), λ good. number ∙ rw (good, short_none s long))

-- "Opening takes four tables, leaves the other places free": each of the twelve is written whole
module _ (t0 t1 t2 t3 s : List ℕ) (done : (shelf_opened t0 t1 t2 t3 s).answer.number ≡ 0) where
  pub open-places : (i : ℕ) → i < 12
      → place (shelf_opened t0 t1 t2 t3 s).memory i ≡ filled (get_or ((t0 ∷ t1 ∷ t2 ∷ t3 ∷ []) ++ replicate 8 []) i [])
  open-places = open-place t0 t1 t2 t3 s done

  -- a common place has its table, for either party to use
  pub open-common : (p i : ℕ) → is_party p ≡ true → i < 4
      → TableAt (shelf_opened t0 t1 t2 t3 s).memory p i (get_or (t0 ∷ t1 ∷ t2 ∷ t3 ∷ []) i [])
  open-common = open-stands t0 t1 t2 t3 s done

  -- every use of a place of its own is refused 23
  pub open-others : (p i : ℕ) → is_own p i ≡ true → use_refusal (shelf_opened t0 t1 t2 t3 s).memory p i ≡ 23
  open-others = open_free t0 t1 t2 t3 s done

-- ---- putting: 5, "24, 23, then 1, 2, 3 .., then 22"
module _ (s : List ℕ) (p : ℕ) (tb : List ℕ) where
  pub put-5 : length s < shelf_bytes → (shelf_put s p tb).answer.number ≡ 5
  put-5 = put-short s p tb

  module _ (long : shelf_bytes ≤ length s) where
    pub put-24 : is_party p ≡ false → (shelf_put s p tb).answer.number ≡ 24
    put-24 = put-unknown s p tb long

    -- also where all four are taken
    pub put-table : {e : ℕ} → is_party p ≡ true → table_number tb ≡ suc e → (shelf_put s p tb).answer.number ≡ suc e
    put-table = put_refused s p tb long

    pub put-done : is_party p ≡ true → table_number tb ≡ 0 → (i : ℕ) → is_own p i ≡ true → is_free (place s i) ≡ true
        → (shelf_put s p tb).answer.number ≡ 0
    put-done = put-room s p tb long

-- "an accepted table is refused for a full shelf exactly when all four are taken"
pub put-22 : (s : List ℕ) (p : ℕ) → is_party p ≡ true → (tb : List ℕ) → shelf_bytes ≤ length s → table_number tb ≡ 0
    → ((shelf_put s p tb).answer.number ≡ 22) ↔ ((i : ℕ) → is_own p i ≡ true → is_free (place s i) ≡ false)
put-22 = put_full

-- "A put takes the lowest free place of that party's four and answers it"; "a done put or removal changes its one place and nothing else"
module _ (s : List ℕ) (p : ℕ) (tb : List ℕ) (done : (shelf_put s p tb).answer.number ≡ 0) where
  pub put_lowest : LowestFree s p (shelf_put s p tb).answer.place
  put_lowest = lowest s p tb done

  pub put-changes : PlaceWritten (shelf_put s p tb).answer.place (filled tb) s (shelf_put s p tb)
  put-changes = lowest-wrote s p tb done

  -- the table that was put is the one that a use of that place uses, so packing, unpacking and the room question are those with it
  pub put-used : TableAt (shelf_put s p tb).memory p (shelf_put s p tb).answer.place tb
  put-used = put-stands s p tb done

  pub put-uses : UsesTable (shelf_put s p tb).memory p (shelf_put s p tb).answer.place tb
  put-uses = uses-table (shelf_put s p tb).memory p (shelf_put s p tb).answer.place put-used

-- ---- removing: 5, "24, 23"; a common place and an unknown party are 24, since such a place is not the party's own
module _ (s : List ℕ) (p i : ℕ) where
  pub remove-5 : length s < shelf_bytes → (shelf_removed s p i).answer.number ≡ 5
  remove-5 = remove-short s p i

  pub remove-24 : shelf_bytes ≤ length s → is_own p i ≡ false → (shelf_removed s p i).answer.number ≡ 24
  remove-24 = remove-not-its s p i

  pub remove-23 : shelf_bytes ≤ length s → is_own p i ≡ true → is_free (place s i) ≡ true → (shelf_removed s p i).answer.number ≡ 23
  remove-23 = remove-none s p i

  pub remove-done : ((shelf_removed s p i).answer.number ≡ 0) ↔ RemovablePlace s p i
  remove-done = (removable s p i, remove-granted s p i)

  module _ (done : (shelf_removed s p i).answer.number ≡ 0) where
    pub remove-changes : PlaceWritten i (filled []) s (shelf_removed s p i)
    remove-changes = remove-wrote s p i done

    -- every use of it is refused 23 then
    pub remove-used : use_refusal (shelf_removed s p i).memory p i ≡ 23
    remove-used = remove-free s p i done

-- ---- uses: 5, "24, 23, then 1, 2, 3 .., then the call's own"
module _ (s : List ℕ) (p i : ℕ) where
  pub use-5 : length s < shelf_bytes → use_refusal s p i ≡ 5
  use-5 = use-short s p i

  pub use-24 : shelf_bytes ≤ length s → may_use p i ≡ false → use_refusal s p i ≡ 24
  use-24 = use-not-its s p i

  pub use-23 : shelf_bytes ≤ length s → may_use p i ≡ true → is_free (place s i) ≡ true → use_refusal s p i ≡ 23
  use-23 = use-free s p i

  pub use-granted : (use_refusal s p i ≡ 0) ↔ UsablePlace s p i
  use-granted = (usable s p i, use-none s p i)

  -- these refuse every use alike
  pub use-refused : {e : ℕ} → use_refusal s p i ≡ suc e → UseRefused s p i (suc e)
  use-refused = uses-refused s p i

  -- "Demands 2 and 3 hold for each table used, on a shelf that is long enough": a use is the row's own call with the table of the place,
  -- for which they are proved
  pub use-table : {tb : List ℕ} → TableAt s p i tb → UsesTable s p i tb
  use-table = uses-table s p i

  -- so what is packed under a place is unpacked under it, and takes at most n times M bits
  module _ (pb m : List ℕ) (done : (shelf_packed s p i pb m).answer.number ≡ 0) where
    pub use-round-trip : Below 256 pb → (m' : List ℕ) → length (halves_of pb) ≤ length m' / 2
        → shelf_unpacked s p i (shelf_packed s p i pb m).memory (length (halves_of pb)) m'
        ≡ row_wrote (shelf_packed s p i pb m).answer.count (take (2 * length (halves_of pb)) pb) m'
    use-round-trip = shelf-back s p i pb m done

    pub use-bits : (shelf_packed s p i pb m).answer.count ≤ length (halves_of pb) * max_item_bits (words_of (table_in (place s i)))
    use-bits = shelf-most s p i pb m done

-- a common place is the same to both parties: a row that one packs under it the other unpacks
module _ (s : List ℕ) (p q i : ℕ) (party : is_party p ≡ true) (party' : is_party q ≡ true) (common : i < 4) where
  pub common-pack : (pb m : List ℕ) → shelf_packed s p i pb m ≡ shelf_packed s q i pb m
  common-pack = pack-either s p q i party party' common

  pub common-unpack : (wb : List ℕ) (n : ℕ) (m : List ℕ) → shelf_unpacked s p i wb n m ≡ shelf_unpacked s q i wb n m
  common-unpack = unpack-either s p q i party party' common

  pub common-room : (n : ℕ) → shelf_room s p i n ≡ shelf_room s q i n
  common-room = room-either s p q i party party' common

-- ---- "no word after a table is looked at": tb has the bytes that its tableSize says, accepted or not, and whatever follows it in the
-- place j, every call of every party gets the same
pub after_table : (s : List ℕ) (j : ℕ) (tb r r' : List ℕ) → length tb ≡ 24 + 4 * table_size (words_of tb)
    → length (tb ++ r) ≡ place_bytes → length (tb ++ r') ≡ place_bytes → place_bytes * j + place_bytes ≤ length s
    → (q : ℕ) (c : Call) → reply (placed s j (tb ++ r)) q c ≡ reply (placed s j (tb ++ r')) q c
after_table = rest-unread

-- the table of a place whose tableSize was spoilt, so that no place has words for it, has the number 1
pub spoilt-size : (b : List ℕ) → length b ≡ place_bytes → 8187 < table_size (words_of b) → table_number (table_in b) ≡ 1
spoilt-size = oversized

-- ---- isolation, or noninterference: "Packing, unpacking and every number one party gets depend on the common places, that party's own
-- places and the call alone"
-- what alike means: every place that is common or the party's own has the same bytes on both
pub alike : (p : ℕ) (s s' : List ℕ) → SameView p s s' ↔ ((i : ℕ) → is_seen p i ≡ true → place s i ≡ place s' i)
alike = alike-places

-- one call: the same reply, and alike shelves after it
module _ (p : ℕ) (s s' : List ℕ) (long : shelf_bytes ≤ length s) (long' : shelf_bytes ≤ length s') (same : SameView p s s') where
  both : Both p s s'
  both = record { long = long; long' = long'; alike = same }

  pub call-alike : (c : Call) → (reply s p c ≡ reply s' p c) × SameView p (after_call s p c) (after_call s' p c)
  call-alike c = (reply-alike p s s' both c, (own-both p s s' both c).alike)

  -- runs: the same calls of p in the same order, and any calls of others between them, in number, kind and content. p gets the same,
  -- call for call, its lent memory included, and its places hold the same at the end. "Opening the shelf anew ends the comparison":
  -- openings that are refused may be among the calls
  module _ (ts ts' : List Turn) (unopened : opened_in ts ≡ false) (unopened' : opened_in ts' ≡ false)
      (calls : calls_of p ts ≡ calls_of p ts') where
    pub isolation : replies_to p s ts ≡ replies_to p s' ts'
    isolation = isolated p s s' ts ts' both unopened unopened' calls

    pub isolation-places : SameView p (shelf_after s ts) (shelf_after s' ts')
    isolation-places = left-alike p s s' ts ts' both unopened unopened' calls

-- a call of another party, known or unknown, changes nothing that p sees
pub other-call : (p q : ℕ) (s : List ℕ) (c : Call) → (p ≡ q → ⊥) → shelf_bytes ≤ length s → SameView p (after_call s q c) s
other-call = other-unseen

-- so p gets what it would get if nobody else had made a call
pub as-alone : (p : ℕ) (s : List ℕ) (ts : List Turn) → shelf_bytes ≤ length s → opened_in ts ≡ false
    → replies_to p s ts ≡ replies_alone p s (calls_of p ts)
as-alone = replies-alone

-- "Places 0 to 3 are common, loaded when the shelf is opened and never changed after": whoever calls, in any run
pub common-unchanged : (s : List ℕ) (ts : List Turn) → shelf_bytes ≤ length s → opened_in ts ≡ false → (i : ℕ) → i < 4
    → place (shelf_after s ts) i ≡ place s i
common-unchanged = common-kept

-- a done opening begins the comparison anew: its answer does not depend on what a shelf held, and whatever two shelves held, they are
-- alike to everybody after it
module _ (t0 t1 t2 t3 s s' : List ℕ) (long : shelf_bytes ≤ length s) (long' : shelf_bytes ≤ length s') where
  pub opened-answer : (shelf_opened t0 t1 t2 t3 s).answer ≡ (shelf_opened t0 t1 t2 t3 s').answer
  opened-answer = open-alike t0 t1 t2 t3 s s' long long'

  pub opened-alike : (shelf_opened t0 t1 t2 t3 s).answer.number ≡ 0
      → (p : ℕ) → SameView p (shelf_opened t0 t1 t2 t3 s).memory (shelf_opened t0 t1 t2 t3 s').memory
  opened-alike done p =
      alike-twelve p (shelf_opened t0 t1 t2 t3 s).memory (shelf_opened t0 t1 t2 t3 s').memory
      (λ i few. open-place t0 t1 t2 t3 s done i few ∙ sym (open-place t0 t1 t2 t3 s' (sym (ap (λ (a : Answer). a.number) opened-answer) ∙ done) i few))
