-- Laws: the ways out of packing and of the room question, in document 01's order. Assumes nothing.
use Prim.Native.Nat.{ℕ, ◌+◌, ◌*◌, ◌/◌, ◌≤◌, ◌<◌}
use native.Mathlib.Nat.{mul-le-mul_left}
use native.Mathlib.Omega.{arith}
use mathlib.Core.Path.{◌≡◌, sym, ap, ◌∙◌}
use mathlib.Core.Bool.{Bool, true, false}
use mathlib.Core.List.{List}
use lib.ListN.{length}
use lib.Dec.{ltb}
use borrow.Author.Tests.{lt-ltb, le-ltb, ltb-false}
use Rattle.bitstream.specs.Bits.{words_of, halves_of, words_for}
use Rattle.answer.specs.declared.Answer.{Answer}
use Rattle.answer.specs.Outcome.{Outcome, ◌or_else◌, refuse_if, unless, lent, room_number, answer_of, refusal, refused, outcome}
use Rattle.answer.specs.Outcome.Laws.{or_else-assoc, unless-refused, unless-first}
use Rattle.row_format.specs.Lists.{any}
use Rattle.row_format.specs.Table.{table_number, max_item_bits}
use Rattle.row_format.specs.Table.Laws.{max_item_bits-most, accepted-table}
use Rattle.row_format.specs.Row.{row_bits, too_many, too_high}
use Rattle.row_format.specs.Calls.{checked, pack_number, packed_row, packed, room}
use Rattle.row_format.proofs.Calls.Laws.{answer-number}
use Rattle.code_table.specs.Check.Laws.{length-words}
use Rattle.row_pixels.specs.Laws.{inside-halves, past-halves}
use Rattle.row_packer.specs.Write.{Written}

-- ---- the table
module _ (tb : List ℕ) {a : Answer} (is : a ≡ checked tb) where
  pub checked_zero : a.number ≡ 0 → table_number tb ≡ 0
  checked_zero e = sym (answer-number tb is) ∙ e

  pub checked-count : a.number ≡ 0 → a.count ≡ max_item_bits (words_of tb)
  unfolding checked
  checked-count e = ap (λ (x : Answer). x.count) is ∙ rw (checked_zero e)

  -- refused, it is a refusal by the table's number
  checked_refused : (a.number ≡ 0 → ⊥) → a ≡ refusal (table_number tb)
  unfolding checked
  checked_refused n =
      is
      ∙ unless-refused (table_number tb) refusal (answer_of 0 (max_item_bits (words_of tb))) (λ e. n (answer-number tb is ∙ e))

module _ (tb : List ℕ) (table : table_number tb ≡ 0) where
  pub header-words : 6 ≤ length tb / 4
  header-words = omega (arith, (accepted-table tb table).words, length-words tb)

  -- M is at most 27
  times-most : (n : ℕ) → n ≤ 4096 → n * max_item_bits (words_of tb) ≤ 110592
  times-most n h = omega (arith, mul-le-mul_left n (max_item_bits-most (words_of tb) (accepted-table tb table)))

-- ---- packing
-- 1, 2, 3
pub packed-table : (tb pb m : List ℕ) {a : Answer} → a ≡ checked tb → (a.number ≡ 0 → ⊥) → outcome a m ≡ packed tb pb m
unfolding packed pack_number
packed-table tb pb m is n =
    ap (λ (x : Answer). outcome x m) (checked_refused tb is n)
    ∙ sym (unless-first (table_number tb) _ (λ e. refused e m) (packed_row (words_of tb) (halves_of pb) m) (λ e. n (answer-number tb is ∙ e)))

-- the words that a row takes
abbrev pub words : List ℕ → List ℕ → ℕ
words tb pb = words_for (length (row_bits (words_of tb) (halves_of pb)))

-- ---- the row
-- what refuses it
abbrev pub row_number : List ℕ → ℕ
row_number ps = too_many (length ps) or_else too_high ps

module _ (pb : List ℕ) where
  -- 11
  pub judged-many : 4096 < length pb / 2 → 11 ≡ row_number (halves_of pb)
  judged-many h = rw (lt-ltb 4096 (length (halves_of pb)) (inside-halves pb h))

  module _ (few : length pb / 2 ≤ 4096) where
    few-pixels : ltb 4096 (length (halves_of pb)) ≡ false
    few-pixels = le-ltb 4096 (length (halves_of pb)) (past-halves pb few)

    -- 4, or none
    pub judged : {above : Bool} → above ≡ any (ltb 4095) (halves_of pb) → refuse_if above 4 ≡ row_number (halves_of pb)
    judged e = rw (few-pixels, e)

module _ (tb pb m : List ℕ) (table : table_number tb ≡ 0) where
  -- 11, 4
  pub packed-judged : {n : ℕ} → n ≡ row_number (halves_of pb) → (n ≡ 0 → ⊥) → outcome (answer_of n 0) m ≡ packed tb pb m
  unfolding packed pack_number
  packed-judged {n} is h =
      let ps = halves_of pb in
      let room_left = room_number (lent (length m / 4)) (words tb pb) in
      let first : table_number tb or_else too_many (length ps) or_else too_high ps or_else room_left ≡ n or_else room_left =
      rw (table, is) (sym (or_else-assoc (too_many (length ps)) (too_high ps) room_left)) in
      sym (ap (λ (k : ℕ). unless k (λ e. refused e m) (packed_row (words_of tb) ps m)) first
      ∙ unless-first n room_left (λ e. refused e m) (packed_row (words_of tb) ps m) h)

  module _ (few : length pb / 2 ≤ 4096) where
    module _ (none_above : any (ltb 4095) (halves_of pb) ≡ false) where
      -- 5
      pub packed-full : true ≡ ltb (length m / 4) (words tb pb) → outcome (answer_of 5 0) m ≡ packed tb pb m
      unfolding packed pack_number
      packed-full e = rw (table, few-pixels pb few, none_above, ← e)

      module _ (enough : false ≡ ltb (length m / 4) (words tb pb)) where
        -- done: there is room, and the row is written
        pub room-enough : 4 * words tb pb ≤ length m
        room-enough = omega (arith, ltb-false (length m / 4) (words tb pb) (sym enough))

        pub packed_all : {o : List ℕ} {bits : ℕ} → Written (words_of tb) (halves_of pb) m o bits
            → outcome (answer_of 0 bits) o ≡ packed tb pb m
        unfolding packed pack_number
        packed_all w = rw (table, few-pixels pb few, none_above, ← enough, w.memory, w.bits)

-- under the same table and of the same pixels
pub packed-same : {tb tb' pb pb' : List ℕ} (m : List ℕ) {x : Outcome Answer} → tb ≡ tb' → pb ≡ pb' → x ≡ packed tb pb m → x ≡ packed tb' pb' m
packed-same {tb} {tb'} {pb} {pb'} m e f q =
    q ∙ ap (λ (t : List ℕ). packed t pb m) e ∙ ap (λ (b : List ℕ). packed tb' b m) f

-- ---- the room question
pub room-table : (tb : List ℕ) (n : ℕ) {a : Answer} → a ≡ checked tb → (a.number ≡ 0 → ⊥) → a ≡ room tb n
unfolding room
room-table tb n is h =
    checked_refused tb is h
    ∙ sym (unless-first (table_number tb) _ refusal _ (λ e. h (answer-number tb is ∙ e)))

module _ (tb : List ℕ) (n : ℕ) (table : table_number tb ≡ 0) where
  pub room-many : 4096 < n → answer_of 11 0 ≡ room tb n
  unfolding room
  room-many h = rw (table, lt-ltb 4096 n h)

  module _ (few : n ≤ 4096) {most : ℕ} (is : most ≡ max_item_bits (words_of tb)) where
    pub room_most : n * most ≤ 110592
    room_most = rw is (times-most tb table n few)

    pub room-done : answer_of 0 ((n * most + 31) / 32) ≡ room tb n
    unfolding room
    room-done = rw (table, le-ltb 4096 n few, is)
