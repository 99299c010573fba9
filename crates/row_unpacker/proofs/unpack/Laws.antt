-- The laws of unpacking's own steps, and of its ways out. Assumes nothing.
use Prim.Native.Nat.{ℕ, zero, suc, ◌+◌, ◌-◌, ◌*◌, ◌/◌, ◌%◌, ◌^◌, ◌≤◌, ◌<◌}
use native.Mathlib.Nat.{mul-le-mul_left}
use native.Mathlib.Omega.{arith}
use mathlib.Core.Path.{◌≡◌, refl, sym, ap, ◌∙◌}
use mathlib.Core.Bool.{true, false, not}
use mathlib.Core.List.{List, [], ◌∷◌, ◌++◌}
use lib.ListN.{length, take, drop}
use lib.Dec.{eqb}
use borrow.Author.Tests.{ne_eqb, lt-ltb, le-ltb}
use Rattle.answer.specs.Outcome.{Outcome, outcome, lent, answer_of}
use Rattle.answer.specs.Outcome.Laws.{or_else-zero-left, or_else-zero-right, less_number-zero, given-first, unless-refused}
use Rattle.bitstream.specs.Bits.{num_of, flat, words_of, stream, words_for, Below}
use Rattle.bitstream.specs.Bits.Laws.{below-head, below-tail, below-take, length_cut}
use Rattle.row_format.specs.declared.RowUnpacked.{RowUnpacked}
use Rattle.row_format.specs.Lists.{any}
use Rattle.row_format.specs.Place.Laws.{place_shown-zero}
use Rattle.row_format.specs.Table.{table_number}
use Rattle.row_format.specs.Row.{fresh, pixels_of, too_many}
use Rattle.row_format.specs.Row.Laws.{too_many-zero, length-pixels_of}
use Rattle.row_format.specs.Reading.{Run, done, stop, bits_of_run, read_item, read_items, stray, without_stray, first_number, row_reading, Readable}
use Rattle.row_format.proofs.Reading.Laws.{Counted, read_by-counted}
use Rattle.row_format.specs.Calls.{checked, row_outcome, unpacked}
use Rattle.row_format.proofs.Calls.Laws.{answer-number}
use Rattle.row_format.proofs.Theorems.Bounds.{read_items-uses}
use Rattle.row_format.proofs.Theorems.Shown.{read_items-shown, read_items-place}
use Rattle.row_unpacker.specs.View.{Seen}
use Rattle.row_unpacker.proofs.view.Laws.{low-window}
use Rattle.row_unpacker.specs.Row.{row_reached, RowIs}
use Rattle.row_unpacker.proofs.row.Laws.{max_item_bits-any}
use Rattle.row_unpacker.specs.declared.view.View.{View}
use Rattle.std.specs.Prelude.{Result, Ok, Err}
use Rattle.row_unpacker.specs.declared.item.Fault.{Fault}
use Rattle.row_unpacker.specs.Item.{stopped, numbered}

-- ---- unused bits of the last used word
-- some bit is set exactly where the number of the bits is not 0
any-set : (b : List ℕ) → Below 2 b → any (eqb 1) b ≡ not (eqb (num_of b) 0)
unfolding any num_of
any-set [] h = refl
any-set (zero ∷ b) h = any-set b (below-tail h) ∙ ap not (same (num_of b))
  where
    same : (n : ℕ) → eqb n 0 ≡ eqb (n * 2 + 0) 0
    same zero = refl
    same (suc n) = ne_eqb (suc n) 0 (λ e. omega arith) ∙ sym (ne_eqb (suc n * 2 + 0) 0 (λ e. omega arith))
any-set (suc zero ∷ b) h = sym (ap not (ne_eqb (num_of b * 2 + 1) 0 (λ e. omega arith)))
any-set (suc (suc x) ∷ b) h = absurd (omega (arith, below-head h))

module _ (r : List ℕ) (used : ℕ) where
  pub stray-none : used % 32 ≡ 0 → false ≡ stray used r
  unfolding stray any
  stray-none h = let e : 32 * words_for used - used ≡ 0 = omega arith in rw e

  pub stray-low : (v : View) → Seen (drop used r) v → (used % 32 ≡ 0 → ⊥)
      → (x : ℕ) → x ≡ v.window % 2 ^ (32 - used % 32) → not (eqb x 0) ≡ stray used r
  unfolding stray
  stray-low v seen h x is =
      let e : 32 * words_for used - used ≡ 32 - used % 32 = omega arith in
      rw (e, any-set (take (32 - used % 32) (drop used r)) (below-take (32 - used % 32) (drop used r) seen.bits))
      (ap (λ (k : ℕ). not (eqb k 0)) (is ∙ low-window (drop used r) v seen (32 - used % 32) (omega arith)))

-- ---- the answers as the code has them
abbrev pub row_stopped : ℕ → ℕ → RowUnpacked
row_stopped number at = record { number = number; count = 0; at = at }

abbrev pub row_done : ℕ → RowUnpacked
row_done used = record { number = 0; count = used; at = 0 }

pub answers : {a b : RowUnpacked} (m : List ℕ) → a ≡ b → outcome a m ≡ outcome b m
answers m is = ap (λ (x : RowUnpacked). outcome x m) is

-- ---- the ways out after a row was read: x is the code's answer, out the row's memory
module _ (r : List ℕ) (n : ℕ) (m out : List ℕ) (x : Result ℕ Fault) where
  module _ (used : ℕ) (e : x ≡ Ok used) where
    pub row-stray : (run : Run) → RowIs n out x (row_reached n fresh run) → true ≡ stray used r
        → outcome (row_stopped 10 used) m ≡ row_outcome m (without_stray r run)
    row-stray (done is u) h b = let same : u ≡ used = cc h.0 in rw (same, ← b)
    row-stray (stop k at u) h b = absurd (let z : ◌≡◌ {A = ℕ} 0 1 = cc in omega arith)

    whole_row : (run : Run) → Counted n run → RowIs n out x (row_reached n fresh run) → false ≡ stray used r → (m' : List ℕ)
        → m' ≡ take (2 * n) out ++ drop (2 * n) m → outcome (row_done used) m' ≡ row_outcome m (without_stray r run)
    whole_row (done is u) count h b m' copied =
        let same : u ≡ used = cc h.0 in
        let size : length (pixels_of fresh is) ≡ n = length-pixels_of fresh is ∙ count in
        rw (same, ← b, size, length_cut 8 (2 * n) (flat 16 (pixels_of fresh is)), copied, h.1)
    whole_row (stop k at u) count h b m' copied = absurd (let z : ◌≡◌ {A = ℕ} 0 1 = cc in omega arith)

    pub row_done_lem : (t : List ℕ) → RowIs n out x (row_reached n fresh (read_items t n r)) → false ≡ stray used r → (m' : List ℕ)
        → m' ≡ take (2 * n) out ++ drop (2 * n) m → outcome (row_done used) m' ≡ row_outcome m (without_stray r (read_items t n r))
    unfolding read_items
    row_done_lem t = whole_row (read_items t n r) (read_by-counted (read_item t) fresh n r)

    used-by : (run : Run) → RowIs n out x (row_reached n fresh run) → used ≡ bits_of_run run
    used-by (done is u) h = cc h.0
    used-by (stop k at u) h = absurd (let z : ◌≡◌ {A = ℕ} 0 1 = cc in omega arith)

    pub row-used : (t : List ℕ) → RowIs n out x (row_reached n fresh (read_items t n r)) → used ≤ n * 43
    row-used t h = omega (arith, used-by (read_items t n r) h, read_items-uses t n r, mul-le-mul_left n (max_item_bits-any t))

  -- refused: the run has stopped by this number, at this place
  module _ (number place : ℕ) (e : numbered x ≡ Err (stopped number place)) where
    stopped_by : (run : Run) → RowIs n out x (row_reached n fresh run) → run ≡ stop number place (bits_of_run run)
    stopped_by (done is u) h = absurd (let z : ◌≡◌ {A = ℕ} 0 1 = cc h.0 in omega arith)
    stopped_by (stop k at u) h =
        let same = sym e ∙ h in
        let number_same : k ≡ number = cc in
        let place_same : at ≡ place = cc in
        rw (number_same, place_same)

    module _ (t : List ℕ) (h : RowIs n out x (row_reached n fresh (read_items t n r))) where
      stops : read_items t n r ≡ stop number place (bits_of_run (read_items t n r))
      stops = stopped_by (read_items t n r) h

      pub row-refused : outcome (row_stopped number place) m ≡ row_outcome m (without_stray r (read_items t n r))
      row-refused =
          let shown = read_items-shown t n r number place (bits_of_run (read_items t n r)) stops in
          ap (λ (p : ℕ). outcome (row_stopped number p) m) (sym shown) ∙ ap (λ (q : Run). row_outcome m (without_stray r q)) (sym stops)

      pub row-place : place ≤ n * 43
      row-place =
          let before = read_items-place t n r number place (bits_of_run (read_items t n r)) stops in
          omega (arith, before, read_items-uses t n r, mul-le-mul_left n (max_item_bits-any t))

-- ---- what refuses before the first item, with so much room
pub accepted : (tb : List ℕ) {most : ℕ} → answer_of 0 most ≡ checked tb → table_number tb ≡ 0
accepted tb is = sym (answer-number tb is)

module _ (tb : List ℕ) (n room : ℕ) (table : table_number tb ≡ 0) where
  pub judged-many : 4096 < n → 11 ≡ first_number (lent room) tb n
  unfolding first_number
  judged-many h = rw (table, lt-ltb 4096 n h)

  module _ (few : n ≤ 4096) where
    pub judged-full : room / 2 < n → 5 ≡ first_number (lent room) tb n
    unfolding first_number
    judged-full h = rw (table, le-ltb 4096 n few, lt-ltb room (2 * n) (omega arith))

    pub judged-none : n ≤ room / 2 → 0 ≡ first_number (lent room) tb n
    unfolding first_number
    judged-none h = rw (table, le-ltb 4096 n few, le-ltb room (2 * n) (omega arith))

pub judged-table : (tb : List ℕ) (n room : ℕ) {k : ℕ} → k ≡ table_number tb → (k ≡ 0 → ⊥) → k ≡ first_number (lent room) tb n
unfolding first_number
judged-table tb n room e some = given-first (table_number tb) _ e some

-- ---- the whole call
module _ (tb wb : List ℕ) (n : ℕ) (m : List ℕ) {k : ℕ} (is : k ≡ first_number (lent (length m)) tb n) where
  pub unpacked-refused : (k ≡ 0 → ⊥) → outcome (row_stopped k 0) m ≡ unpacked tb wb n m
  unfolding unpacked row_reading
  unpacked-refused some =
      let run : row_reading (lent (length m)) tb n wb ≡ stop k 0 0 = rw (← is) (unless-refused k (λ e. stop e 0 0) _ some) in
      ap (λ (p : ℕ). outcome (row_stopped k p) m) (sym (place_shown-zero k)) ∙ sym (ap (row_outcome m) run)

  module _ (none : k ≡ 0) where
    pub readable : Readable (lent (length m)) tb n
    unfolding first_number
    readable =
        let all = sym is ∙ none in
        let rest = or_else-zero-right (table_number tb) _ all in
        record {
          table = or_else-zero-left (table_number tb) _ all;
          few = too_many-zero n (or_else-zero-left (too_many n) _ rest);
          room = or_else-zero-right (too_many n) _ rest;
        }

    pub room-enough : 2 * n ≤ length m
    room-enough = less_number-zero (length m) (2 * n) 4 readable.room

    pub unpacked-row : (o : Outcome RowUnpacked)
        → o ≡ row_outcome m (without_stray (stream wb) (read_items (words_of tb) n (stream wb))) → o ≡ unpacked tb wb n m
    unfolding unpacked row_reading
    unpacked-row o e = e ∙ rw (← is, none)
