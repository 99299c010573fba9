-- The ways out of reading a line. Assumes nothing.
use Prim.Native.Nat.{ℕ, ◌*◌, ◌≤◌, ◌<◌}
use native.Mathlib.Omega.{arith}
use mathlib.Core.Path.{◌≡◌, refl, sym, ap, ◌∙◌}
use mathlib.Core.List.{List, ◌++◌}
use lib.ListN.{length, drop}
use lib.Dec.{ltb}
use borrow.Author.Tests.{lt-ltb, le-ltb}
use Rattle.bitstream.specs.Memory.Part.{part_from, part-is}
use Rattle.answer.specs.Outcome.{◌or_else◌, refuse_if, lent, room_number}
use Rattle.answer.specs.Outcome.Laws.{less_number-zero, or_else-zero-left, or_else-zero-right, given-first, given-next}
use Rattle.row_format.specs.Row.{too_many}
use Rattle.sheet_format.specs.declared.SheetState.{SheetState}
use Rattle.sheet_format.specs.declared.RecordRead.{RecordRead}
use Rattle.sheet_format.specs.Context.{Context, no_heading, state_of}
use Rattle.sheet_format.specs.Line.{Line, read_line}
use Rattle.sheet_format.specs.Kind.ContourLine.{number_count, line_content, line_of, fault_number, bytes_of_line, line_number, line_own, number_bytes, read_numbers, line_place, line_kind}
use Rattle.sheet_format.specs.Kind.ContourLine.Laws.{line-lawful}
use Rattle.sheet_format.specs.Record.{content_number}
use Rattle.sheet_format.specs.Record.Laws.{content-passed}
use Rattle.sheet_format.specs.Reading.{refused_record}
use Rattle.sheet_format.proofs.Theorems.Room.{own-content}
use Rattle.sheet_reader.specs.Leaves.{accepted_record, ContentLeaves}
use Rattle.sheet_reader.specs.Leaves.Laws.{refuses, holds}

-- ---- the number of the numbers, in any sheet
module _ (b : List ℕ) (room : ℕ) {count : ℕ} (is : count ≡ number_count b) (c : Context) where
  pub numbers-many : 4096 < count → 11 ≡ line_own (lent room) c b
  unfolding line_own line_number
  numbers-many h = rw (← is, lt-ltb 4096 count h)

  module _ (few : count ≤ 4096) where
    line_is : read_line count (part_from 2 b) ≡ line_of b
    line_is = rw (part-is 2 b, is)

    -- the count is in order
    past-count : {n : ℕ}
        → n ≡ (fault_number (line_of b) or_else refuse_if (ltb (bytes_of_line (line_of b)) (length (line_content b))) 14)
        or_else room_number (lent room) (4 * number_count b)
        → n ≡ line_own (lent room) c b
    unfolding line_own line_number
    past-count h = h ∙ rw none
      where
        none : too_many (number_count b) ≡ 0
        none = rw (← is, le-ltb 4096 count few)

    pub numbers-fault : {e : ℕ} → e ≡ fault_number (read_line count (part_from 2 b)) → (e ≡ 0 → ⊥) → e ≡ line_own (lent room) c b
    numbers-fault fault some =
        past-count (given-first _ _ (given-first (fault_number (line_of b)) _ (fault ∙ ap fault_number line_is) some) some)

    module _ (none : 0 ≡ fault_number (read_line count (part_from 2 b))) {used : ℕ}
        (used_is : used ≡ bytes_of_line (read_line count (part_from 2 b))) where
      past-fault : {n : ℕ} → n ≡ refuse_if (ltb used (length (part_from 2 b))) 14 or_else room_number (lent room) (4 * count)
          → n ≡ line_own (lent room) c b
      past-fault h =
          let faultless : fault_number (line_of b) ≡ 0 = sym (none ∙ ap fault_number line_is) in
          let bytes : bytes_of_line (line_of b) ≡ used = sym (used_is ∙ ap bytes_of_line line_is) in
          past-count (rw (faultless, bytes, ← part-is 2 b, ← is) h)

      pub numbers-leftover : used < length (part_from 2 b) → 14 ≡ line_own (lent room) c b
      numbers-leftover more = past-fault (rw (lt-ltb used (length (part_from 2 b)) more))

      pub numbers-full : length (part_from 2 b) ≤ used → room < 4 * count → 5 ≡ line_own (lent room) c b
      numbers-full all less = past-fault (rw (le-ltb used (length (part_from 2 b)) all, lt-ltb room (4 * count) less))

      pub numbers-right : length (part_from 2 b) ≤ used → 4 * count ≤ room → 0 ≡ line_own (lent room) c b
      numbers-right all enough = past-fault (rw (le-ltb used (length (part_from 2 b)) all, le-ltb room (4 * count) enough))

-- ---- the record, in a sheet that holds c
line-chain : (b : List ℕ) (c : Context) (room : ℕ) → 2 ≤ length b → {place : ℕ} → place ≡ line_place c no_heading
    → content_number line_kind (lent room) c b ≡ place or_else line_own (lent room) c b
unfolding content_number
line-chain b c room there place_is = rw (le-ltb (length b) 2 there, place_is)

module _ {b : List ℕ} {room whole : ℕ} {m : List ℕ} {x : RecordRead} {c : Context} where
  pub line-missing : length b < 2 → x ≡ refused_record 0 14 → ContentLeaves line_kind room 4 whole c b m x m
  unfolding content_number
  line-missing h is = record { leaves = refuses is (rw (lt-ltb (length b) 2 h)) (λ e. omega arith) }

  module _ (there : 2 ≤ length b) {place : ℕ} (place_is : place ≡ line_place c no_heading) where
    pub line-misplaced : x ≡ refused_record 0 place → (place ≡ 0 → ⊥) → ContentLeaves line_kind room 4 whole c b m x m
    line-misplaced is some =
        record { leaves = refuses is (given-first place _ refl some ∙ sym (line-chain b c room there place_is)) some }

    pub line_refused : place ≡ 0 → {n : ℕ} → n ≡ line_own (lent room) c b → x ≡ refused_record 0 n → (n ≡ 0 → ⊥)
        → ContentLeaves line_kind room 4 whole c b m x m
    line_refused placed judged is some =
        record { leaves = refuses is (given-next placed judged ∙ sym (line-chain b c room there place_is)) some }

-- what is known of an accepted record with the body b, whose count is given
pub record LineAccepted (b : List ℕ) (c : Context) (room count : ℕ) : Type 0 where
  pub count-is : count ≡ number_count b
  pub zero : content_number line_kind (lent room) c b ≡ 0

pub line-accepted : (b : List ℕ) (c : Context) {room count place n : ℕ} → 2 ≤ length b → place ≡ line_place c no_heading → place ≡ 0
    → count ≡ number_count b → n ≡ line_own (lent room) c b → n ≡ 0 → LineAccepted b c room count
line-accepted b c {room} there place_is placed count-is judged right =
    record { count-is = count-is; zero = line-chain b c room there place_is ∙ sym (given-next placed judged) ∙ right }

module _ {b : List ℕ} {room count : ℕ} {c : Context} (ok : LineAccepted b c room count) where
  line-passed : line_own (lent room) c b ≡ 0
  line-passed = (content-passed line_kind (lent room) c b ok.zero).own

  content : (length (read_numbers c b) ≡ 4 * number_count b) × (room_number (lent room) (4 * number_count b) ≡ 0)
  content = own-content line-lawful c b (lent room) line-passed

  same_line : read_line count (part_from 2 b) ≡ line_of b
  same_line = rw (part-is 2 b, ok.count-is)

  pub line-right : fault_number (read_line count (part_from 2 b)) ≡ 0
  unfolding line_own line_number
  line-right =
      let number = or_else-zero-left (line_number b) _ line-passed in
      rw same_line (or_else-zero-left (fault_number (line_of b)) _ (or_else-zero-right (too_many (number_count b)) _ number))

  pub line-fits : 4 * count ≤ room
  line-fits = rw ok.count-is (less_number-zero room (4 * number_count b) 4 content.1)

  pub line-held : {st : SheetState} → state_of c ≡ st → {whole : ℕ} {m : List ℕ} {x : RecordRead} {m' : List ℕ}
      → x ≡ accepted_record 4 0 count 0 whole st
      → (room ≤ length m → m' ≡ number_bytes (read_line count (part_from 2 b)) ++ drop (4 * count) m)
      → ContentLeaves line_kind room 4 whole c b m x m'
  unfolding read_numbers
  line-held {st} shows {m = m} {m' = m'} is kept =
      let size : length (read_numbers c b) ≡ 4 * count = rw ok.count-is content.0 in
      record {
        leaves = holds ok.zero (is ∙ rw (← shows, ok.count-is)) (4 * count) m' size
            (λ enough. kept enough ∙ ap (λ (l : Line). number_bytes l ++ drop (4 * count) m) same_line);
      }
