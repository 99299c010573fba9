-- The bytes of a table of the size that it names: whole words, and as many. Assumes nothing.
use Prim.Native.Nat.{ℕ, ◌+◌, ◌*◌, ◌/◌, ◌%◌, ◌≤◌}
use native.Mathlib.Omega.{arith}
use mathlib.Core.Path.{◌≡◌, subst}
use mathlib.Core.List.{List}
use lib.ListN.{length}
use lib.Dec.{eqb}
use borrow.Author.Tests.{eqb-true, eqb-false, eq-eqb, ne_eqb}
use Rattle.bitstream.specs.Bits.{words_of}
use Rattle.row_format.specs.Lists.Laws.{by-test}
use Rattle.row_format.specs.Table.{table_size, low_limit}
use Rattle.code_table.specs.Check.{SizeJudged}
use Rattle.code_table.specs.Check.Laws.{size-incomplete, size-last}

pub size-bytes : (b : List ℕ) (s : ℕ) → s ≡ table_size (words_of b) → 1 ≤ table_size (words_of b)
    → low_limit (words_of b) + table_size (words_of b) ≤ 8187 → SizeJudged b (eqb (length b) (24 + 4 * s))
size-bytes b s named least most =
    by-test (eqb (length b) (24 + 4 * s))
    (λ e.
    let bytes = eqb-true (length b) (24 + 4 * s) e in
    rw e (subst (SizeJudged b) (eq-eqb (length b / 4) (6 + table_size (words_of b)) (omega arith))
    (size-last b (omega arith) least most)))
    (λ e.
    let other = eqb-false (length b) (24 + 4 * s) e in
    rw e (by-test (eqb (length b % 4) 0)
    (λ w.
    let whole = eqb-true (length b % 4) 0 w in
    subst (SizeJudged b) (ne_eqb (length b / 4) (6 + table_size (words_of b)) (λ g. other (omega arith)))
    (size-last b whole least most))
    (λ w. size-incomplete b (eqb-false (length b % 4) 0 w))))
