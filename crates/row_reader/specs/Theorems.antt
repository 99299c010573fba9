-- What holds of the reader that gives one item a call, in the words of document 01 and of document 02's ticket 2; the proofs are
-- in Step/Laws.antt and below Walk/. tb and wb are the bytes of the table and of the words, m is the memory lent to a row call,
-- as it was. Assumes nothing.
use Rattle.std.specs.Prelude.{ℕ, ◌+◌, ◌/◌, ◌≤◌, ◌<◌, ◌≡◌, refl, true, false, ◌⊎◌, List, [], ◌∷◌, length, drop, eqb}
use Rattle.std.proofs.Common.{arith}
use Rattle.bitstream.specs.Bits.{words_of, stream}
use Rattle.row_item.specs.Coded.{row_state}
use Rattle.row_format.specs.Lists.{any}
use Rattle.row_format.specs.Table.{table_number, max_item_bits}
use Rattle.row_format.specs.Row.{pixel_bytes}
use Rattle.row_format.specs.Reading.{bits_of_reading}
use Rattle.row_format.specs.Calls.{row_refused, row_wrote, unpacked}
use Rattle.row_format.proofs.Theorems.Bounds.{read_item-uses}
use Rattle.row_format.proofs.Theorems.Done.{unpacked-accepts}
use Rattle.row_format.proofs.Theorems.Numbers.{table_number-in}
use Rattle.row_format.proofs.Theorems.Places.{unpacked-stopped}
use Rattle.row_reader.specs.declared.step.Place.{Place}
use Rattle.row_reader.specs.Step.{start_place, impossible, refused_at, reading_at, item_read}
use Rattle.row_reader.specs.Step.Laws.{place_number-unopened, place_number-impossible, place_number-given, item_read-number, item_read-in}
use Rattle.row_reader.specs.Walk.{gave, ended, walk, Handed, RefusedWithin}
use Rattle.row_reader.specs.Walk.Laws as laws
use Rattle.row_reader.specs.Walk.Rows as rows

-- "where it gives n items, a row call of n with room for them gives those pixels or refuses 10"
pub reader-gives : (tb wb : List ℕ) → table_number tb ≡ 0 → (n : ℕ) (m : List ℕ) → n ≤ length m / 2 → n ≤ 4096
    → (ps : List ℕ) (pl : Place) → walk tb wb n (start_place tb) ≡ gave ps pl
    → (unpacked tb wb n m ≡ row_wrote pl.at (pixel_bytes ps) m) ⊎ (unpacked tb wb n m ≡ row_refused pl.at 10 m)
reader-gives tb wb ok = rows.gives tb wb ok

-- and back: where a row call of n is done, the reader gives those n items, with the same bits
pub reader-gives-back : (tb wb : List ℕ) (n : ℕ) (m : List ℕ) → (unpacked tb wb n m).answer.number ≡ 0 → Handed tb wb n m
reader-gives-back tb wb n m h =
    let a = unpacked-accepts tb wb n m h in
    rows.hands tb wb a.reads.given.table n m a

-- "where it refuses 6 to 9, every row call that reaches the item gives that number", and the place where the reader stands: the
-- walk of k steps ended after i items, and the row call asks for more than i
pub reader-refuses : (tb wb : List ℕ) → table_number tb ≡ 0 → (n : ℕ) (m : List ℕ) → n ≤ length m / 2 → n ≤ 4096
    → (k e i : ℕ) (pl : Place) → k ≤ 4096 → walk tb wb k (start_place tb) ≡ ended e i pl → i < n
    → (unpacked tb wb n m ≡ row_refused pl.at e m) × ((unpacked tb wb n m).answer.at ≡ pl.at)
reader-refuses tb wb ok = rows.refuses tb wb ok

-- and back: where a row call gives 6 to 9, the reader gives the same number and place at that item
pub reader-refuses-back : (tb wb : List ℕ) (n : ℕ) (m : List ℕ)
    → 6 ≤ (unpacked tb wb n m).answer.number → (unpacked tb wb n m).answer.number ≤ 9
    → RefusedWithin tb wb n (unpacked tb wb n m).answer.number (unpacked tb wb n m).answer.at
reader-refuses-back tb wb n m low high =
    let got = unpacked-stopped tb wb n m low high in
    rows.refused-within tb wb got.given.table n m (unpacked tb wb n m).answer.number (unpacked tb wb n m).answer.at got

-- "each call .. answers with a number from document 01": opening a reader, and taking an item at whatever place
pub opening-numbers : (tb : List ℕ) → any (eqb (start_place tb).opening) (0 ∷ 1 ∷ 2 ∷ 3 ∷ []) ≡ true
unfolding any
opening-numbers tb = table_number-in (λ e. any (eqb e) (0 ∷ 1 ∷ 2 ∷ 3 ∷ []) ≡ true) tb refl refl refl refl

pub reader-numbers : (tb wb : List ℕ) (pl : Place)
    → any (eqb (item_read tb wb pl).number) (0 ∷ 1 ∷ 2 ∷ 3 ∷ 11 ∷ 6 ∷ 7 ∷ 8 ∷ 9 ∷ []) ≡ true
unfolding any
reader-numbers tb wb pl =
    item_read-in (λ e. any (eqb e) (0 ∷ 1 ∷ 2 ∷ 3 ∷ 11 ∷ 6 ∷ 7 ∷ 8 ∷ 9 ∷ []) ≡ true) refl refl refl refl refl tb wb pl
    refl refl refl refl

-- "A refusal moves nothing", and gives nothing but its number
pub reader-stays : (tb wb : List ℕ) (pl : Place) → ((item_read tb wb pl).number ≡ 0 → ⊥)
    → item_read tb wb pl ≡ refused_at (item_read tb wb pl).number pl
reader-stays = laws.stays

-- document 02, ticket 2: "the pixel reader .. must pass it up". A refusal's place is the one that the reader had, which for 6
-- to 9 is that of the item that it was reading
pub reader-place : (tb wb : List ℕ) (pl : Place) → ((item_read tb wb pl).number ≡ 0 → ⊥) → (item_read tb wb pl).place ≡ pl
reader-place tb wb pl = (laws.item_read-place tb wb pl (item_read tb wb pl) refl).1

-- "Opening it refuses 1, 2, 3", and a reader whose opening was refused never gives an item
pub reader-unopened : (tb wb : List ℕ) (pl : Place) → (pl.opening ≡ 0 → ⊥) → pl.opening ≤ 3
    → (item_read tb wb pl).number ≡ pl.opening
reader-unopened tb wb pl h o =
    let shut = place_number-unopened pl o h in
    item_read-number tb wb pl pl.opening shut h

-- "after 4096 items it answers 11"
pub reader-full : (tb wb : List ℕ) (pl : Place) → pl.opening ≡ 0 → 4096 ≤ pl.count → (item_read tb wb pl).number ≡ 11
reader-full tb wb pl o h = item_read-number tb wb pl 11 (place_number-given pl o h) (λ z. omega arith)

-- an impossible place is answered 11; where a reader opened with an accepted table stands is none of these
pub reader-impossible : (tb wb : List ℕ) (pl : Place) → pl.opening ≡ 0 → impossible pl ≡ true
    → (item_read tb wb pl).number ≡ 11
reader-impossible tb wb pl o e = item_read-number tb wb pl 11 (place_number-impossible pl o e) (λ z. omega arith)

pub reader-possible : (tb wb : List ℕ) → table_number tb ≡ 0 → (pl : Place) → (item_read tb wb pl).number ≡ 0
    → impossible (item_read tb wb pl).place ≡ false
reader-possible tb wb ok = laws.given-possible tb wb ok

pub walk-possible : (tb wb : List ℕ) → table_number tb ≡ 0 → (n : ℕ) (ps : List ℕ) (pl : Place)
    → walk tb wb n (start_place tb) ≡ gave ps pl → impossible pl ≡ false
walk-possible tb wb ok = laws.walk-place tb wb ok

-- "Its items, a refused one too, use at most M bits each": the definition's bits, and the place after a given item
pub reader-item-bits : (tb wb : List ℕ) (pl : Place) → bits_of_reading (reading_at tb wb pl) ≤ max_item_bits (words_of tb)
reader-item-bits tb wb pl = read_item-uses (words_of tb) (row_state pl.progress) (drop pl.at (stream wb))

pub reader-moves : (tb wb : List ℕ) (pl : Place) → (item_read tb wb pl).place.at ≤ pl.at + max_item_bits (words_of tb)
reader-moves = laws.moves
