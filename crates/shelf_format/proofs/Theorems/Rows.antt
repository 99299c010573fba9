-- Demands 2 and 3 on a shelf: the theorems of rows, for the table of a place. Assumes nothing.
use Rattle.std.specs.Prelude.{ℕ, zero, suc, ◌*◌, ◌/◌, ◌≤◌, ◌<◌, ◌≡◌, refl, true, List, length, take}
use Rattle.std.proofs.Common.{arith, sym, ap, ◌∙◌}
use borrow.Author.Tests.{lt-ltb}
use Rattle.answer.specs.declared.Answer.{Answer}
use Rattle.answer.specs.Outcome.{Outcome}
use Rattle.bitstream.specs.Bits.{words_of, halves_of, Below}
use Rattle.row_format.specs.Table.{max_item_bits}
use Rattle.row_format.specs.Calls.{packed, row_wrote}
use Rattle.row_format.proofs.Theorems.{round-trip-memory, packed-bits, row-bits}
use Rattle.shelf_format.specs.Shelf.{place, table_in, is_party, may_use, view}
use Rattle.shelf_format.proofs.Shelf.Laws.{view-usable}
use Rattle.shelf_format.specs.Calls.{held_number, use_refusal, UsablePlace, UsesTable, shelf_packed, shelf_unpacked, shelf_room}
use Rattle.shelf_format.proofs.Calls.Laws.{held, use-seen}
use Rattle.shelf_format.proofs.Theorems.Use.{uses-refused, uses-table}

-- ---- what no refusal of a use says
pub usable : (s : List ℕ) (p i : ℕ) → use_refusal s p i ≡ 0 → UsablePlace s p i
usable s p i none =
    let h = held (may_use p i) s (place s i) (use-seen s p i ∙ none) in
    record { long = h.long; allowed = h.allowed; taken = h.taken }

pub packed-usable : (s : List ℕ) (p i : ℕ) (pb m : List ℕ) → (shelf_packed s p i pb m).answer.number ≡ 0 → UsablePlace s p i
packed-usable s p i pb m done = by_number (use_refusal s p i) refl
  where
    by_number : (n : ℕ) → use_refusal s p i ≡ n → UsablePlace s p i
    by_number zero e = usable s p i e
    by_number (suc k) e =
        let refusal = ap (λ (o : Outcome Answer). o.answer.number) ((uses-refused s p i e).pack pb m) in
        absurd (omega (arith, refusal, done))

-- ---- demand 2, and demand 3
module _ (s : List ℕ) (p i : ℕ) (pb m : List ℕ) (done : (shelf_packed s p i pb m).answer.number ≡ 0) where
  uses : UsesTable s p i (table_in (place s i))
  uses = uses-table s p i (record { usable = packed-usable s p i pb m done; table = refl })

  row : shelf_packed s p i pb m ≡ packed (table_in (place s i)) pb m
  row = uses.pack pb m

  number : (packed (table_in (place s i)) pb m).answer.number ≡ 0
  number = sym (ap (λ (o : Outcome Answer). o.answer.number) row) ∙ done

  pub shelf-back : Below 256 pb → (m' : List ℕ) → length (halves_of pb) ≤ length m' / 2
      → shelf_unpacked s p i (shelf_packed s p i pb m).memory (length (halves_of pb)) m'
      ≡ row_wrote (shelf_packed s p i pb m).answer.count (take (2 * length (halves_of pb)) pb) m'
  shelf-back bytes m' room =
      rw row
      (uses.unpack (packed (table_in (place s i)) pb m).memory (length (halves_of pb)) m'
      ∙ round-trip-memory (table_in (place s i)) pb m bytes number m' room)

  pub shelf-most : (shelf_packed s p i pb m).answer.count ≤ length (halves_of pb) * max_item_bits (words_of (table_in (place s i)))
  shelf-most =
      rw (row, packed-bits (table_in (place s i)) pb m number) (row-bits (words_of (table_in (place s i))) (halves_of pb))

-- ---- a common place is the same to both
module _ (s : List ℕ) (p q i : ℕ) (party : is_party p ≡ true) (party' : is_party q ≡ true) (common : i < 4) where
  may : (r : ℕ) → is_party r ≡ true → may_use r i ≡ true
  unfolding may_use
  may r known = rw (known, lt-ltb i 4 common)

  seen : (r : ℕ) → is_party r ≡ true → view r s i ≡ place s i
  seen r known = view-usable r i s (may r known)

  pub pack-either : (pb m : List ℕ) → shelf_packed s p i pb m ≡ shelf_packed s q i pb m
  unfolding shelf_packed held_number
  pack-either pb m = rw (may p party, may q party', seen p party, seen q party')

  pub unpack-either : (wb : List ℕ) (n : ℕ) (m : List ℕ) → shelf_unpacked s p i wb n m ≡ shelf_unpacked s q i wb n m
  unfolding shelf_unpacked held_number
  unpack-either wb n m = rw (may p party, may q party', seen p party, seen q party')

  pub room-either : (n : ℕ) → shelf_room s p i n ≡ shelf_room s q i n
  unfolding shelf_room held_number
  room-either n = rw (may p party, may q party', seen p party, seen q party')
