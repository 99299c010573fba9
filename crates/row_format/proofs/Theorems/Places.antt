-- Document 02, ticket 2: the place that an unpacking answers, and what stands before it and at it. Assumes nothing.
use Rattle.std.specs.Prelude.{ℕ, suc, ◌+◌, ◌*◌, ◌≤◌, ◌≡◌, refl, true, false, ◌⊎◌, List, length}
use Rattle.std.proofs.Common.{arith, ap, ◌∙◌, inl, inr}
use Rattle.bitstream.specs.Bits.{words_of, stream}
use Rattle.answer.specs.Outcome.{Lent, lent}
use Rattle.row_format.specs.Place.{has_place}
use Rattle.row_format.specs.Place.Laws.{has_place-true, place_shown-none, place_shown-zero}
use Rattle.row_format.specs.Lists.Laws.{by-test, true-false}
use Rattle.row_format.specs.Row.{Item, fresh, pixels_of, pixel_bytes}
use Rattle.row_format.specs.Reading.{Run, done, stop, read_items, stray, first_number, row_reading, bits_of_run, Readable, StoppedAt, StrayAt}
use Rattle.row_format.proofs.Reading.Laws.{first_number-readable, lent-room, row_reading-cases}
use Rattle.row_format.specs.Calls.{row_refused, row_wrote, row_outcome, unpacked, bits_used}
use Rattle.row_format.proofs.Theorems.Bounds.{bits_used-run}
use Rattle.row_format.proofs.Theorems.Done.{unpacked-reads}
use Rattle.row_format.proofs.Theorems.Shown.{read_items-most, read_items-shown, read_items-place, first_number-none}
use Rattle.row_format.proofs.Theorems.Stops.{read-sum, read_items-stopped, stopped-read_items}

-- ---- which answers have a place
row_outcome-none : (m : List ℕ) (x : Run) → has_place (row_outcome m x).answer.number ≡ false → (row_outcome m x).answer.at ≡ 0
row_outcome-none m (done is u) none = refl
row_outcome-none m (stop e at u) none = place_shown-none e at none

module _ (tb wb : List ℕ) (n : ℕ) (m : List ℕ) where
  pub unpacked-none : has_place (unpacked tb wb n m).answer.number ≡ false → (unpacked tb wb n m).answer.at ≡ 0
  unfolding unpacked
  unpacked-none = row_outcome-none m (row_reading (lent (length m)) tb n wb)

  -- ---- 6 to 9: at a faulty item
  pub unpacked-stopped : 6 ≤ (unpacked tb wb n m).answer.number → (unpacked tb wb n m).answer.number ≤ 9
      → StoppedAt (lent (length m)) tb n wb (unpacked tb wb n m).answer.number (unpacked tb wb n m).answer.at
  unfolding unpacked
  unpacked-stopped = row_reading-cases At (lent (length m)) tb n wb first faulty
      (λ is u ok read set low high. absurd (omega arith)) (λ is u got low high. absurd (omega arith))
    where
      At : Run → Type 0
      At x = 6 ≤ (row_outcome m x).answer.number → (row_outcome m x).answer.number ≤ 9
          → StoppedAt (lent (length m)) tb n wb (row_outcome m x).answer.number (row_outcome m x).answer.at

      first : (k : ℕ) → first_number (lent (length m)) tb n ≡ suc k → At (stop (suc k) 0 0)
      first k e low high =
          true-false (has_place-true (suc k) low (omega arith)) (rw e at (first_number-none (lent (length m)) tb n))

      faulty : (e at u : ℕ) → Readable (lent (length m)) tb n → read_items (words_of tb) n (stream wb) ≡ stop e at u
          → At (stop e at u)
      faulty e at u ok read low high =
          rw (read_items-shown (words_of tb) n (stream wb) e at u read)
          (read_items-stopped (lent (length m)) tb n wb e at u ok read)

  -- and back
  row-stopped : (e at u : ℕ) → Readable (lent (length m)) tb n → read_items (words_of tb) n (stream wb) ≡ stop e at u
      → unpacked tb wb n m ≡ row_refused at e m
  unfolding unpacked row_reading
  row-stopped e at u ok read = rw (first_number-readable (lent (length m)) tb n ok, read)

  pub stopped-unpacked : (e at : ℕ) → StoppedAt (lent (length m)) tb n wb e at
      → (unpacked tb wb n m ≡ row_refused at e m) × ((unpacked tb wb n m).answer.at ≡ at)
  stopped-unpacked e at got =
      let read = stopped-read_items (lent (length m)) tb n wb e at got in
      let left = row-stopped e at (at + got.used) got.given read in
      (left, rw left (read_items-shown (words_of tb) n (stream wb) e at (at + got.used) read))

  -- ---- 10: after the items
  pub unpacked-stray : (unpacked tb wb n m).answer.number ≡ 10 → StrayAt (lent (length m)) tb n wb (unpacked tb wb n m).answer.at
  unfolding unpacked
  unpacked-stray = row_reading-cases At (lent (length m)) tb n wb first faulty unused (λ is u got ten. absurd (omega arith))
    where
      At : Run → Type 0
      At x = (row_outcome m x).answer.number ≡ 10 → StrayAt (lent (length m)) tb n wb (row_outcome m x).answer.at

      first : (k : ℕ) → first_number (lent (length m)) tb n ≡ suc k → At (stop (suc k) 0 0)
      first k e ten = true-false refl (rw (e ∙ ten) at (first_number-none (lent (length m)) tb n))

      faulty : (e at u : ℕ) → Readable (lent (length m)) tb n → read_items (words_of tb) n (stream wb) ≡ stop e at u
          → At (stop e at u)
      faulty e at u ok read ten =
          absurd (omega (arith, read_items-most (words_of tb) n (stream wb) e at u read))

      unused : (is : List Item) (u : ℕ) → Readable (lent (length m)) tb n → read_items (words_of tb) n (stream wb) ≡ done is u
          → stray u (stream wb) ≡ true → At (stop 10 u u)
      unused is u ok read set ten =
          record { given = ok; items = is; read = read; sum = read-sum tb ok.table n wb is u read; set = set }

  pub stray-unpacked : (at : ℕ) → StrayAt (lent (length m)) tb n wb at → unpacked tb wb n m ≡ row_refused at 10 m
  unfolding unpacked row_reading
  stray-unpacked at got = rw (first_number-readable (lent (length m)) tb n got.given, got.read, got.set)

  -- it adds none to the bits used
  pub stray-used : (at : ℕ) → StrayAt (lent (length m)) tb n wb at → bits_used tb wb n m ≡ at
  stray-used at got =
      bits_used-run tb wb n m (first_number-readable (lent (length m)) tb n got.given) ∙ ap bits_of_run got.read

  -- ---- how far it can be: within the bits used
  pub unpacked-within-used : (unpacked tb wb n m).answer.at ≤ bits_used tb wb n m
  unfolding unpacked bits_used
  unpacked-within-used = row_reading-cases Near (lent (length m)) tb n wb (λ k e. rw (place_shown-zero (suc k)) (omega arith))
      faulty (λ is u ok read set. omega arith) (λ is u got. omega arith)
    where
      Near : Run → Type 0
      Near x = (row_outcome m x).answer.at ≤ bits_of_run x

      faulty : (e at u : ℕ) → Readable (lent (length m)) tb n → read_items (words_of tb) n (stream wb) ≡ stop e at u
          → Near (stop e at u)
      faulty e at u ok read =
          rw (read_items-shown (words_of tb) n (stream wb) e at u read)
          (read_items-place (words_of tb) n (stream wb) e at u read)

-- ---- the items before a faulty one, unpacked by themselves from the same words: done, or refused 10
module _ (m : Lent) (tb : List ℕ) (n : ℕ) (wb : List ℕ) (e at : ℕ) (got : StoppedAt m tb n wb e at) (m' : List ℕ)
    (room : 2 * length got.items ≤ length m') where
  before : Readable (lent (length m')) tb (length got.items)
  before = record {
    table = got.given.table;
    few = omega (arith, got.fewer, got.given.few);
    room = lent-room (length m') (length got.items) room;
  }

  pub stopped-before : (unpacked tb wb (length got.items) m' ≡ row_wrote at (pixel_bytes (pixels_of fresh got.items)) m')
      ⊎ (unpacked tb wb (length got.items) m' ≡ row_refused at 10 m')
  stopped-before = by-test (stray at (stream wb))
      (λ set. inr (stray-unpacked tb wb (length got.items) m' at
      (record { given = before; items = got.items; read = got.read; sum = got.sum; set = set })))
      (λ clear. inl (unpacked-reads tb wb (length got.items) m' got.items at
      (record { given = before; read = got.read; clean = clear })))

  pub stopped-before-used : bits_used tb wb (length got.items) m' ≡ at
  stopped-before-used =
      bits_used-run tb wb (length got.items) m' (first_number-readable (lent (length m')) tb (length got.items) before)
      ∙ ap bits_of_run got.read
