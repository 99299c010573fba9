-- A reading uses no bits but those that are left: under every table, accepted or not, no more than the words have. Assumes
-- nothing.
use Prim.Native.Nat.{ℕ, zero, suc, ◌*◌, ◌/◌, ◌≤◌}
use native.Mathlib.Omega.{arith}
use Rattle.std.specs.Prelude.{◌≡◌, Bool, true, not, List, length, take, drop}
use Rattle.std.proofs.Common.{length-drop}
use Rattle.bitstream.specs.Bits.{begins, words_of, stream}
use Rattle.answer.specs.Outcome.{lent}
use Rattle.row_format.specs.Lists.{any}
use Rattle.row_format.specs.Lists.Laws.{least-within}
use Rattle.row_format.specs.BitLaws.{begins-length, length-stream}
use Rattle.row_format.specs.Table.{codewords, codeword_at}
use Rattle.row_format.specs.Table.Laws.{get_d-codewords}
use Rattle.row_format.specs.Row.{Item, State, fresh, after}
use Rattle.row_format.specs.Reading.{Match, none, found, find, Reading, item, fault, bits_of_reading, raw_height, matched, taken, read_item, Run, bits_of_run, follow, read_by, read_items}
use Rattle.row_format.proofs.Reading.Laws.{unmatched-cases, raw_height-cases, row_reading-cases}
use Rattle.row_format.specs.Calls.{bits_used}
use Rattle.row_format.proofs.Theorems.Search.{Found, find-found}
use Rattle.row_format.proofs.Theorems.Bounds.{matched-uses, prepend-uses}

-- ---- one item
raw_height-within : (n : ℕ) (r : List ℕ) → bits_of_reading (raw_height n r) ≤ length r
raw_height-within n r =
    raw_height-cases (λ x. bits_of_reading x ≤ length r) n r (λ h. omega arith) (λ h g. omega arith) (λ h g. omega arith)

taken-within : (t : List ℕ) (s : State) (r : List ℕ) (m : Match) → Found (codewords t) r m
    → bits_of_reading (taken t s r m) ≤ length r
unfolding matched
taken-within t s r none e =
    let passes : ℕ → Bool = λ k. not (any (begins (take k r)) (codewords t)) in
    unmatched-cases (λ x. bits_of_reading x ≤ length r) (codewords t) r (λ six. omega arith)
    (λ seven. least-within passes (length r))
taken-within t s r (found zero) q = raw_height-within (length (codeword_at t 0)) r
taken-within t s r (found (suc j)) q =
    let there : begins (codeword_at t (suc j)) r ≡ true = rw (get_d-codewords t (suc j)) at q.1 in
    omega (arith, matched-uses t s r j (length (codeword_at t (suc j))), begins-length (codeword_at t (suc j)) r there)

pub read_item-within : (t : List ℕ) (s : State) (r : List ℕ) → bits_of_reading (read_item t s r) ≤ length r
unfolding read_item
read_item-within t s r = taken-within t s r (find (codewords t) r) (find-found (codewords t) r)

-- ---- a run of items, by any way of reading one within the bits left
follow-within : (r : List ℕ) (x : Reading) (f : Item → ℕ → Run) → bits_of_reading x ≤ length r
    → ((i : Item) (u : ℕ) → bits_of_run (f i u) ≤ length (drop u r)) → bits_of_run (follow x f) ≤ length r
follow-within r (item i u) f h rest = omega (arith, prepend-uses i u (f i u), rest i u, length-drop u r)
follow-within r (fault e u) f h rest = h

module _ (f : State → List ℕ → Reading) (each : (s : State) (r : List ℕ) → bits_of_reading (f s r) ≤ length r) where
  pub read_by-within : (s : State) (n : ℕ) (r : List ℕ) → bits_of_run (read_by f s n r) ≤ length r
  unfolding read_by
  read_by-within s zero r = omega arith
  read_by-within s (suc n) r =
      follow-within r (f s r) (λ i u. read_by f (after s i) n (drop u r)) (each s r)
      (λ i u. read_by-within (after s i) n (drop u r))

pub read_items-within : (t : List ℕ) (n : ℕ) (r : List ℕ) → bits_of_run (read_items t n r) ≤ length r
unfolding read_items
read_items-within t n r = read_by-within (read_item t) (read_item-within t) fresh n r

-- ---- the call
pub bits_used-words : (tb wb : List ℕ) (n : ℕ) (m : List ℕ) → bits_used tb wb n m ≤ 32 * (length wb / 4)
unfolding bits_used
bits_used-words tb wb n m =
    let left = rw (length-stream wb) at (read_items-within (words_of tb) n (stream wb)) in
    row_reading-cases (λ x. bits_of_run x ≤ 32 * (length wb / 4)) (lent (length m)) tb n wb (λ k e. omega arith)
    (λ e at u ok read. rw read at left) (λ is u ok read set. rw read at left) (λ is u got. rw got.read at left)
