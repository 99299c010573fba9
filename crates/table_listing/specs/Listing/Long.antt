-- A table of more than 32772 bytes is refused 1, so that as many of its first bytes have its listing. Assumes nothing.
use Rattle.std.specs.Prelude.{ℕ, ◌+◌, ◌/◌, ◌%◌, ◌<◌, ◌≡◌, refl, List, [], length, take, ltb, eqb}
use Rattle.std.proofs.Common.{arith, sym, ap, ◌∙◌, take_all, length-take-le, ltb-true, ltb-false, eqb-true, ne_eqb}
use Rattle.std.proofs.lemmas.Bool.{eqb-false}
use Rattle.bitstream.specs.Bits.{words_of}
use Rattle.row_format.specs.Lists.Laws.{by-test}
use Rattle.row_format.specs.Table.{table_size, low_limit, table_number}
use Rattle.code_table.specs.Check.Laws.{size-incomplete, size_small, size-large, size-last}
use Rattle.table_listing.specs.Listing.{lines_for, lines}

-- 8193 words are the most
table_number-long : (b : List ℕ) → 32772 < length b → table_number b ≡ 1
table_number-long b h =
    let size = table_size (words_of b) in
    let low = low_limit (words_of b) in
    by-test (eqb (length b % 4) 0)
    (λ e. by-test (ltb size 1)
    (λ f. (size_small b (ltb-true size 1 f)).wrong refl)
    (λ f. by-test (ltb 8187 (low + size))
    (λ g. (size-large b (ltb-true 8187 (low + size) g)).wrong refl)
    (λ g.
    let whole = eqb-true (length b % 4) 0 e in
    let most = ltb-false 8187 (low + size) g in
    (size-last b whole (ltb-false size 1 f) most).wrong (ne_eqb (length b / 4) (6 + size) (λ q. omega arith)))))
    (λ e. (size-incomplete b (eqb-false (length b % 4) 0 e)).wrong refl)

lines_long : (b : List ℕ) → 32772 < length b → lines b ≡ lines_for 1 []
unfolding lines lines_for
lines_long b h = rw (table_number-long b h)

pub lines_cut : (n : ℕ) (b : List ℕ) → 32772 < n → lines (take n b) ≡ lines b
lines_cut n b h =
    by-test (ltb n (length b))
    (λ e.
    let more = ltb-true n (length b) e in
    lines_long (take n b) (omega (arith, length-take-le n b (omega arith))) ∙ sym (lines_long b (omega arith)))
    (λ e. ap lines (take_all n b (ltb-false n (length b) e)))
