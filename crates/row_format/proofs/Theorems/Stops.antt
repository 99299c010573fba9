-- A reading that stops: the items before the faulty one, and the place of it; and back. Assumes nothing.
use Prim.Native.Nat.{ℕ, zero, suc, ◌+◌, ◌-◌, ◌<◌}
use Rattle.std.proofs.Common.{add-zero, arith, ap, ◌∙◌, drop-drop}
use Rattle.std.specs.Prelude.{◌≡◌, List, [], ◌∷◌, drop}
use Rattle.std.proofs.Math.Path.{refl, subst}
use Rattle.std.proofs.Math.ListN.{length}
use Rattle.bitstream.specs.Bits.{words_of, stream}
use Rattle.bitstream.specs.Bits.Laws.{below-flat}
use Rattle.answer.specs.Outcome.{Lent}
use Rattle.row_format.specs.Table.{table_number}
use Rattle.row_format.specs.Table.Laws.{accepted-table}
use Rattle.row_format.specs.Row.{Item, State, fresh, after, after_all, bits}
use Rattle.row_format.specs.Reading.{Reading, item, fault, read_item, Run, done, stop, prepend, follow, read_by, read_items, Readable, StoppedAt}
use Rattle.row_format.proofs.Theorems.Previous.{read_items-add}
use Rattle.row_format.proofs.Theorems.Standing.{read_items-stands}

-- ---- under an accepted table the bits that a reading uses are those of its items
pub read-sum : (tb : List ℕ) → table_number tb ≡ 0 → (n : ℕ) (wb : List ℕ) (is : List Item) (u : ℕ)
    → read_items (words_of tb) n (stream wb) ≡ done is u → u ≡ length (bits (words_of tb) is)
read-sum tb ok n wb is u read =
    (read_items-stands (words_of tb) (accepted-table tb ok) n (stream wb) is u (below-flat 8 _) read).front.size

-- ---- by any way of reading one item, from any state
module _ (f : State → List ℕ → Reading) where
  record Before (s : State) (n : ℕ) (r : List ℕ) (e at : ℕ) : Type 0 where
    items : List Item
    fewer : length items < n
    read : read_by f s (length items) r ≡ done items at
    used : ℕ
    faulty : f (after_all s items) (drop at r) ≡ fault e used

  abbrev StopsBefore : State → ℕ → List ℕ → Run → Type 0
  StopsBefore s n r (done is u) = Unit {0}
  StopsBefore s n r (stop e at u) = Before s n r e at

  module _ (s : State) (n : ℕ) (r : List ℕ) where
    prepend-before : (i : Item) (u : ℕ) → f s r ≡ item i u → (x : Run) → StopsBefore (after s i) n (drop u r) x
        → StopsBefore s (suc n) r (prepend i u x)
    unfolding read_by after_all
    prepend-before i u read (done is v) b = tt
    prepend-before i u read (stop e at v) b = record {
      items = i ∷ b.items;
      fewer = omega (arith, b.fewer);
      read = rw read (ap (prepend i u) b.read);
      used = b.used;
      faulty = rw (drop-drop at u r) at b.faulty;
    }

    first-before : (e u : ℕ) → f s r ≡ fault e u → Before s (suc n) r e 0
    unfolding read_by after_all
    first-before e u read = record { items = []; fewer = omega arith; read = refl; used = u; faulty = read }

    follow-before : (x : Reading) → f s r ≡ x → (g : Item → ℕ → Run)
        → ((i : Item) (u : ℕ) → StopsBefore (after s i) n (drop u r) (g i u)) → StopsBefore s (suc n) r (follow x g)
    follow-before (item i u) read g rest = prepend-before i u read (g i u) (rest i u)
    follow-before (fault e u) read g rest = first-before e u read

  read_by-before : (s : State) (n : ℕ) (r : List ℕ) → StopsBefore s n r (read_by f s n r)
  unfolding read_by
  read_by-before s zero r = tt
  read_by-before s (suc n) r =
      follow-before s n r (f s r) refl (λ i u. read_by f (after s i) n (drop u r))
      (λ i u. read_by-before (after s i) n (drop u r))

-- ---- a row's reading
module _ (m : Lent) (tb : List ℕ) (n : ℕ) (wb : List ℕ) where
  -- stopped at an item; and then the place is the sum of the lengths of the items before it
  pub read_items-stopped : (e at u : ℕ) → Readable m tb n → read_items (words_of tb) n (stream wb) ≡ stop e at u
      → StoppedAt m tb n wb e at
  unfolding read_items
  read_items-stopped e at u ok read =
      let f = read_item (words_of tb) in
      let b = subst (StopsBefore f fresh n (stream wb)) read (read_by-before f fresh n (stream wb)) in
      record {
        given = ok;
        items = b.items;
        fewer = b.fewer;
        read = b.read;
        sum = read-sum tb ok.table (length b.items) wb b.items at b.read;
        used = b.used;
        faulty = b.faulty;
      }

  -- and back
  pub stopped-read_items : (e at : ℕ) (got : StoppedAt m tb n wb e at)
      → read_items (words_of tb) n (stream wb) ≡ stop e at (at + got.used)
  unfolding read_by
  stopped-read_items e at got =
      let k = n - (length got.items + 1) in
      let more : length got.items + suc k ≡ n = omega (arith, got.fewer) in
      rw (← more) (read_items-add (words_of tb) (length got.items) (suc k) (stream wb) got.items at got.read
      ∙ rw got.faulty (ap (λ (p : ℕ). stop e p (at + got.used)) (add-zero at)))
