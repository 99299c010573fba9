-- Where no bit is left an item is refused 6, and its place is the end of the words. Assumes nothing.
use Rattle.std.specs.Prelude.{ℕ, ◌*◌, ◌/◌, ◌<◌, ◌≡◌, true, drop}
use Rattle.std.proofs.Common.{arith}
use Rattle.std.proofs.Math.Path.{refl}
use mathlib.Core.List.{List, []}
use Rattle.std.proofs.Math.ListN.{length}
use Rattle.std.proofs.Math.Seq.{drop-length}
use Rattle.bitstream.specs.Bits.{begins, words_of, stream}
use Rattle.answer.specs.Outcome.{Lent}
use Rattle.row_format.specs.Lists.Laws.{true-false, any-false-at}
use Rattle.row_format.specs.BitLaws.{begins-length, length-stream}
use Rattle.row_format.specs.Table.{codewords, codeword_at, Accepted}
use Rattle.row_format.specs.Table.Laws.{accepted-table, get_d-codewords, length-codewords-size, codeword_at-least}
use Rattle.row_format.specs.Row.{Item, State, fresh, after_all}
use Rattle.row_format.specs.Reading.{Match, none, found, find, fault, unmatched, taken, read_item, done, read_items, Readable, StoppedAt}
use Rattle.row_format.proofs.Reading.Laws.{unmatched-cases}
use Rattle.row_format.proofs.Theorems.Search.{Found, find-found}
use Rattle.row_format.proofs.Theorems.Stops.{read-sum}

-- ---- one item: every string is longer than nothing, and nothing is a beginning of it
module _ (t : List ℕ) (ok : Accepted t) where
  unmatched-nothing : unmatched (codewords t) [] ≡ fault 6 0
  unfolding begins
  unmatched-nothing = unmatched-cases (λ x. x ≡ fault 6 0) (codewords t) [] (λ six. refl)
      (λ seven.
      let some : 0 < length (codewords t) = omega (arith, length-codewords-size t ok) in
      true-false refl (any-false-at (begins []) (codewords t) 0 [] seven some))

  taken-nothing : (s : State) (m : Match) → Found (codewords t) [] m → taken t s [] m ≡ fault 6 0
  taken-nothing s none e = unmatched-nothing
  taken-nothing s (found j) q =
      let there : begins (codeword_at t j) [] ≡ true = rw (get_d-codewords t j) at q.1 in
      let least = codeword_at-least t ok j (omega (arith, q.0, length-codewords-size t ok)) in
      absurd (omega (arith, begins-length (codeword_at t j) [] there))

  pub read_item-nothing : (s : State) → read_item t s [] ≡ fault 6 0
  unfolding read_item
  read_item-nothing s = taken-nothing s (find (codewords t) []) (find-found (codewords t) [])

-- ---- a row whose items so far use all bits, and that asks for more
module _ (m : Lent) (tb : List ℕ) (n : ℕ) (wb : List ℕ) (ok : Readable m tb n) (is : List Item) (fewer : length is < n)
    (read : read_items (words_of tb) (length is) (stream wb) ≡ done is (32 * (length wb / 4))) where
  pub words-end : StoppedAt m tb n wb 6 (32 * (length wb / 4))
  words-end =
      let nothing : drop (32 * (length wb / 4)) (stream wb) ≡ [] = rw (← length-stream wb) (drop-length (stream wb)) in
      record {
        given = ok;
        items = is;
        fewer = fewer;
        read = read;
        sum = read-sum tb ok.table (length is) wb is (32 * (length wb / 4)) read;
        used = 0;
        faulty = rw nothing (read_item-nothing (words_of tb) (accepted-table tb ok.table) (after_all fresh is));
      }
