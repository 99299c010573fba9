-- Demand 1: packing and unpacking answer a number from document 01, and only those that it lists for the call. Each law is
-- over any property P that these numbers have. Assumes nothing.
use Prim.Native.Nat.{ℕ, zero, suc, ◌*◌, ◌/◌, ◌%◌, ◌<◌}
use Rattle.std.proofs.Common.{arith, subst}
use Rattle.std.specs.Prelude.{◌≡◌, List, length, drop, ltb, eqb}
use Rattle.bitstream.specs.Bits.{words_of, halves_of, stream, words_for}
use Rattle.answer.specs.Outcome.{refuse_if, Lent, lent, room_number}
use Rattle.answer.specs.Outcome.Laws.{refuse_if-in, or_else-in, unless-in}
use Rattle.row_format.specs.Lists.{any}
use Rattle.row_format.specs.Lists.Laws.{by-test}
use Rattle.row_format.specs.Table.{wrong_size, wrong_codeword, clash, codewords, codeword_at, verdict, table_number}
use Rattle.row_format.specs.Row.{Item, State, fresh, after, row_bits, too_many}
use Rattle.row_format.proofs.Reading.Laws.{unmatched-cases, raw_height-cases, matched-cases}
use Rattle.row_format.specs.Reading.{Match, none, found, find, Reading, item, fault, matched, taken, read_item, Run, done, stop, run_number, prepend, follow, read_by, read_items, stray, without_stray, first_number, row_reading}
use Rattle.row_format.specs.Calls.{checked, pack_number, packed, unpacked, room}
use Rattle.row_format.proofs.Calls.Laws.{checked-number, room-number, packed-number, unpacked-number}

module _ (P : ℕ → Type 0) where
  pub table_number-in : (b : List ℕ) → P 0 → P 1 → P 2 → P 3 → P (table_number b)
  unfolding table_number verdict
  table_number-in b p0 p1 p2 p3 =
      let t = words_of b in
      by-test (eqb (length b % 4) 0)
      (λ e. rw e (by-test (wrong_size t) (λ d. rw d p1)
      (λ d. rw d (by-test (wrong_codeword t) (λ c. rw c p2) (λ c. rw c (refuse_if-in P (clash (codewords t)) 3 p0 p3))))))
      (λ e. rw e p1)

  pub checked-in : (tb : List ℕ) → P 0 → P 1 → P 2 → P 3 → P (checked tb).number
  checked-in tb p0 p1 p2 p3 = rw (checked-number tb) (table_number-in tb p0 p1 p2 p3)

  pub room_in : (tb : List ℕ) (n : ℕ) → P 0 → P 1 → P 2 → P 3 → P 11 → P (room tb n).number
  room_in tb n p0 p1 p2 p3 p11 =
      rw (room-number tb n)
      (or_else-in P (table_number tb) _ (table_number-in tb p0 p1 p2 p3) (refuse_if-in P (ltb 4096 n) 11 p0 p11))

  pack_number-in : (tb ps : List ℕ) (room_words : ℕ) → P 0 → P 1 → P 2 → P 3 → P 11 → P 4 → P 5
      → P (pack_number tb ps room_words)
  unfolding pack_number
  pack_number-in tb ps room_words p0 p1 p2 p3 p11 p4 p5 =
      or_else-in P (table_number tb) _ (table_number-in tb p0 p1 p2 p3)
      (or_else-in P (too_many (length ps)) _ (refuse_if-in P (ltb 4096 (length ps)) 11 p0 p11)
      (or_else-in P (refuse_if (any (ltb 4095) ps) 4) _ (refuse_if-in P (any (ltb 4095) ps) 4 p0 p4)
      (refuse_if-in P (ltb room_words (words_for (length (row_bits (words_of tb) ps)))) 5 p0 p5)))

  pub packed-in : (tb pb m : List ℕ) → P 0 → P 1 → P 2 → P 3 → P 11 → P 4 → P 5 → P (packed tb pb m).answer.number
  packed-in tb pb m p0 p1 p2 p3 p11 p4 p5 =
      rw (packed-number tb pb m) (pack_number-in tb (halves_of pb) (length m / 4) p0 p1 p2 p3 p11 p4 p5)

  -- ---- reading
  abbrev pub FaultIn : Reading → Type 0
  FaultIn (item i u) = Unit {0}
  FaultIn (fault e u) = P e

  abbrev pub StopIn : Run → Type 0
  StopIn (done is u) = Unit {0}
  StopIn (stop e at u) = P e

  module _ (p6 : P 6) (p7 : P 7) (p8 : P 8) (p9 : P 9) where
    taken_in : (t : List ℕ) (s : State) (r : List ℕ) (m : Match) → FaultIn (taken t s r m)
    unfolding matched
    taken_in t s r none = unmatched-cases FaultIn (codewords t) r (λ e. p6) (λ e. p7)
    taken_in t s r (found zero) = raw_height-cases FaultIn (length (codeword_at t 0)) r (λ h. p6) (λ h g. tt) (λ h g. p9)
    taken_in t s r (found (suc zero)) = tt
    taken_in t s r (found (suc (suc zero))) = tt
    taken_in t s r (found (suc (suc (suc i)))) = matched-cases FaultIn t s r i _ (λ e. tt) (λ e. p8)

    pub read_item-in : (t : List ℕ) (s : State) (r : List ℕ) → FaultIn (read_item t s r)
    unfolding read_item
    read_item-in t s r = taken_in t s r (find (codewords t) r)

    prepend-in : (i : Item) (u : ℕ) (x : Run) → StopIn x → StopIn (prepend i u x)
    prepend-in i u (done is v) h = tt
    prepend-in i u (stop e at v) h = h

    follow-in : (x : Reading) (f : Item → ℕ → Run) → FaultIn x → ((i : Item) (u : ℕ) → StopIn (f i u)) → StopIn (follow x f)
    follow-in (item i u) f h rest = prepend-in i u (f i u) (rest i u)
    follow-in (fault e u) f h rest = h

    read_by-in : (t : List ℕ) (s : State) (n : ℕ) (r : List ℕ) → StopIn (read_by (read_item t) s n r)
    unfolding read_by
    read_by-in t s zero r = tt
    read_by-in t s (suc n) r = follow-in (read_item t s r) _ (read_item-in t s r) (λ i u. read_by-in t (after s i) n (drop u r))

    pub read_items-in : (t : List ℕ) (n : ℕ) (r : List ℕ) → StopIn (read_items t n r)
    unfolding read_items
    read_items-in t n r = read_by-in t fresh n r

    without_stray-in : (r : List ℕ) (x : Run) → P 10 → StopIn x → StopIn (without_stray r x)
    without_stray-in r (done is u) p10 h = by-test (stray u r) (λ e. rw e p10) (λ e. rw e tt)
    without_stray-in r (stop e at u) p10 h = h

    -- before its first item a reading is refused by what first_number says
    pub row_reading-in : (m : Lent) (tb : List ℕ) (n : ℕ) (wb : List ℕ) → P 10
        → ((k : ℕ) → first_number m tb n ≡ suc k → P (suc k)) → StopIn (row_reading m tb n wb)
    unfolding row_reading
    row_reading-in m tb n wb p10 first =
        let items = read_items (words_of tb) n (stream wb) in
        unless-in StopIn (first_number m tb n) (λ e. stop e 0 0) (without_stray (stream wb) items) first
        (λ e. without_stray-in (stream wb) items p10 (read_items-in (words_of tb) n (stream wb)))

  pub first_number-in : (m : Lent) (tb : List ℕ) (n : ℕ) → P 0 → P 1 → P 2 → P 3 → P 11 → P (room_number m (2 * n))
      → P (first_number m tb n)
  unfolding first_number
  first_number-in m tb n p0 p1 p2 p3 p11 room =
      or_else-in P (table_number tb) _ (table_number-in tb p0 p1 p2 p3)
      (or_else-in P (too_many n) _ (refuse_if-in P (ltb 4096 n) 11 p0 p11) room)

  run_number-in : (x : Run) → P 0 → StopIn x → P (run_number x)
  run_number-in (done is u) p0 h = p0
  run_number-in (stop e at u) p0 h = h

  pub row_reading-number-in : (m : Lent) (tb : List ℕ) (n : ℕ) (wb : List ℕ)
      → P 0 → P 1 → P 2 → P 3 → P 11 → P (room_number m (2 * n)) → P 6 → P 7 → P 8 → P 9 → P 10
      → P (run_number (row_reading m tb n wb))
  row_reading-number-in m tb n wb p0 p1 p2 p3 p11 room p6 p7 p8 p9 p10 =
      let first = first_number-in m tb n p0 p1 p2 p3 p11 room in
      run_number-in (row_reading m tb n wb) p0 (row_reading-in p6 p7 p8 p9 m tb n wb p10 (λ k e. subst P e first))

  pub unpacked-in : (tb wb : List ℕ) (n : ℕ) (m : List ℕ)
      → P 0 → P 1 → P 2 → P 3 → P 11 → P 5 → P 6 → P 7 → P 8 → P 9 → P 10 → P (unpacked tb wb n m).answer.number
  unpacked-in tb wb n m p0 p1 p2 p3 p11 p5 p6 p7 p8 p9 p10 =
      let room = refuse_if-in P (ltb (length m) (2 * n)) 5 p0 p5 in
      rw (unpacked-number tb wb n m) (row_reading-number-in (lent (length m)) tb n wb p0 p1 p2 p3 p11 room p6 p7 p8 p9 p10)

-- a reading that stops does so by a number other than 0
pub row_reading-stops : (m : Lent) (tb : List ℕ) (n : ℕ) (wb : List ℕ) → StopIn (λ e. 0 < e) (row_reading m tb n wb)
row_reading-stops m tb n wb =
    row_reading-in (λ e. 0 < e) (omega arith) (omega arith) (omega arith) (omega arith) m tb n wb (omega arith)
    (λ k e. omega arith)
