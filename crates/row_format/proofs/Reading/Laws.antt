-- The laws of reading: what reading one item answers, case by case, and what reading a row comes to. Assumes nothing.
use Rattle.std.specs.Prelude.{ℕ, zero, suc, ◌+◌, ◌*◌, ◌≤◌, ◌<◌, ◌≡◌, true, false, not, List, [], length, take, drop, ltb}
use Rattle.std.proofs.Math.Path.{refl}
use Rattle.std.proofs.Common.{ap, subst, ltb-true, ltb-false}
use Rattle.bitstream.specs.Bits.{num_of, begins, words_of, stream}
use Rattle.answer.specs.Outcome.{◌or_else◌, Lent, nothing, lent, room_number}
use Rattle.answer.specs.Outcome.Laws.{or_else-none, or_else-zero-left, or_else-zero-right, room_number-none, less_number-none, less_number-zero, unless-number, unless-in}
use Rattle.row_format.specs.Lists.{any, least}
use Rattle.row_format.specs.Lists.Laws.{by-test}
use Rattle.row_format.specs.Table.{entry_difference, table_number}
use Rattle.row_format.specs.Row.{Item, difference, escape, State, after, too_many}
use Rattle.row_format.specs.Row.Laws.{too_many-zero}
use Rattle.row_format.specs.Reading.{Reading, item, fault, unmatched, raw_height, inside, matched, Run, done, stop, run_number, prepend, follow, read_by, read_items, stray, without_stray, first_number, row_reading, Readable, Reads}

-- to show something of such an answer, show it of each case
module _ (P : Reading → Type 0) where
  pub unmatched-cases : (ss : List (List ℕ)) (r : List ℕ)
      → (any (begins r) ss ≡ true → P (fault 6 (length r)))
      → (any (begins r) ss ≡ false → P (fault 7 (least (λ k. not (any (begins (take k r)) ss)) (length r))))
      → P (unmatched ss r)
  unfolding unmatched
  unmatched-cases ss r six seven = by-test (any (begins r) ss) (λ e. rw e (six e)) (λ e. rw e (seven e))

  pub raw_height-cases : (n : ℕ) (r : List ℕ)
      → (length r < n + 12 → P (fault 6 (length r)))
      → (n + 12 ≤ length r → num_of (take 12 (drop n r)) < 4094 → P (item (escape (num_of (take 12 (drop n r)))) (n + 12)))
      → (n + 12 ≤ length r → 4094 ≤ num_of (take 12 (drop n r)) → P (fault 9 (n + 12)))
      → P (raw_height n r)
  unfolding raw_height
  raw_height-cases n r six height nine =
      let h = num_of (take 12 (drop n r)) in
      by-test (ltb (length r) (n + 12))
      (λ e. rw e (six (ltb-true (length r) (n + 12) e)))
      (λ e. rw e (by-test (ltb h 4094)
      (λ d. rw d (height (ltb-false (length r) (n + 12) e) (ltb-true h 4094 d)))
      (λ d. rw d (nine (ltb-false (length r) (n + 12) e) (ltb-false h 4094 d)))))

  pub matched-cases : (t : List ℕ) (s : State) (r : List ℕ) (i n : ℕ)
      → (inside s (entry_difference t i) ≡ true → P (item (difference (entry_difference t i)) n))
      → (inside s (entry_difference t i) ≡ false → P (fault 8 n))
      → P (matched t s r (suc (suc (suc i))) n)
  unfolding matched
  matched-cases t s r i n step eight = by-test (inside s (entry_difference t i)) (λ e. rw e (step e)) (λ e. rw e (eight e))

-- ---- a run of n items has n, by any way of reading one
abbrev pub Counted : ℕ → Run → Type 0
Counted n (done is u) = length is ≡ n
Counted n (stop e at u) = Unit {0}

prepend-counted : (n : ℕ) (i : Item) (u : ℕ) (x : Run) → Counted n x → Counted (suc n) (prepend i u x)
prepend-counted n i u (done is v) h = ap suc h
prepend-counted n i u (stop e at v) h = tt

follow-counted : (n : ℕ) (x : Reading) (f : Item → ℕ → Run) → ((i : Item) (u : ℕ) → Counted n (f i u))
    → Counted (suc n) (follow x f)
follow-counted n (item i u) f rest = prepend-counted n i u (f i u) (rest i u)
follow-counted n (fault e u) f rest = tt

pub read_by-counted : (f : State → List ℕ → Reading) (s : State) (n : ℕ) (r : List ℕ) → Counted n (read_by f s n r)
unfolding read_by
read_by-counted f s zero r = refl
read_by-counted f s (suc n) r =
    follow-counted n (f s r) (λ i u. read_by f (after s i) n (drop u r)) (λ i u. read_by-counted f (after s i) n (drop u r))

pub read_by-count : (f : State → List ℕ → Reading) (s : State) (n : ℕ) (r : List ℕ) (is : List Item) (u : ℕ)
    → read_by f s n r ≡ done is u → length is ≡ n
read_by-count f s n r is u e = subst (Counted n) e (read_by-counted f s n r)

-- ---- what is asked before the first item
module _ (m : Lent) (tb : List ℕ) (n : ℕ) where
  pub first_number-readable : Readable m tb n → first_number m tb n ≡ 0
  unfolding first_number
  first_number-readable ok = rw (ok.table, less_number-none 4096 n 11 ok.few, ok.room)

  pub readable : first_number m tb n ≡ 0 → Readable m tb n
  unfolding first_number
  readable e =
      let room = room_number m (2 * n) in
      let after_table = or_else-zero-right (table_number tb) (too_many n or_else room) e in
      record {
        table = or_else-zero-left (table_number tb) (too_many n or_else room) e;
        few = too_many-zero n (or_else-zero-left (too_many n) room after_table);
        room = or_else-zero-right (too_many n) room after_table;
      }

-- room counted in bytes
pub lent-room : (k n : ℕ) → 2 * n ≤ k → room_number (lent k) (2 * n) ≡ 0
lent-room k n h = less_number-none k (2 * n) 5 h

pub room-lent : (k n : ℕ) → room_number (lent k) (2 * n) ≡ 0 → 2 * n ≤ k
room-lent k n e = less_number-zero k (2 * n) 4 e

-- ---- what reading a row comes to
-- of no pixels: the table's number alone
pub row_reading-nothing : (m : Lent) (tb wb : List ℕ) → run_number (row_reading m tb 0 wb) ≡ table_number tb
unfolding row_reading first_number read_items read_by stray any
row_reading-nothing m tb wb =
    rw (room_number-none m, or_else-none (table_number tb))
    (unless-number run_number (λ e. stop e 0 0) (done [] 0) (λ k. refl) (table_number tb) refl)

-- with room enough it is what it is where nothing is lent
pub row_reading-room : (m : Lent) (tb : List ℕ) (n : ℕ) (wb : List ℕ) → room_number m (2 * n) ≡ 0
    → row_reading m tb n wb ≡ row_reading nothing tb n wb
unfolding row_reading first_number
row_reading-room m tb n wb e = rw e

-- to show something of it, show it of each case: refused before the first item, at an item, by 10, and done
module _ (P : Run → Type 0) (m : Lent) (tb : List ℕ) (n : ℕ) (wb : List ℕ)
    (first : (k : ℕ) → first_number m tb n ≡ suc k → P (stop (suc k) 0 0))
    (faulty : (e at u : ℕ) → Readable m tb n → read_items (words_of tb) n (stream wb) ≡ stop e at u → P (stop e at u))
    (unused : (is : List Item) (u : ℕ) → Readable m tb n → read_items (words_of tb) n (stream wb) ≡ done is u
    → stray u (stream wb) ≡ true → P (stop 10 u u))
    (whole : (is : List Item) (u : ℕ) → Reads m tb n wb is u → P (done is u)) where
  by-run : (x : Run) → read_items (words_of tb) n (stream wb) ≡ x → Readable m tb n → P (without_stray (stream wb) x)
  by-run (done is u) e ok = by-test (stray u (stream wb))
      (λ set. rw set (unused is u ok e set))
      (λ clear. rw clear (whole is u (record { given = ok; read = e; clean = clear })))
  by-run (stop k at u) e ok = faulty k at u ok e

  pub row_reading-cases : P (row_reading m tb n wb)
  unfolding row_reading
  row_reading-cases =
      let items = read_items (words_of tb) n (stream wb) in
      unless-in P (first_number m tb n) (λ e. stop e 0 0) (without_stray (stream wb) items) first
      (λ none. by-run items refl (readable m tb n none))
