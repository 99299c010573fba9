-- `code_table::check::check_codewords` meets its contract: the escape is too long, or a word is wrong, or the prefix test
-- decides. Assumes nothing.
use Rattle.std.proofs.Common.{◌≡◌, ℕ, ◌-◌, ◌/◌, ◌%◌, ◌<◌, ◌≤◌, List, length, take, arith, length-take-le, sym, ap, ◌∙◌, subst}
use Rattle.code_table.specs.Check.{WholeTable}
use Rattle.code_table.specs.Check.Laws.{whole_table}
use Rattle.code_table.proofs.check.Laws.{checked-escape, checked_refused, checked-gathered}
use Rattle.code_table.proofs.check.check_codewords.Goals as goal

-- the scratch lent for as many words as the table has
words-lent : (b s : List ℕ) → WholeTable b → 8190 ≤ length s → length (take (length b / 4 - 3) s) ≡ length b / 4 - 3
words-lent b s h room = length-take-le (length b / 4 - 3) s (omega (arith, whole_table b h))

pub returns-then-escape-gt15 : goal.returns-then-escape-gt15
returns-then-escape-gt15 c = checked-escape c.args.table.now c.requires.whole_table
    (subst (λ (k : ℕ). 15 < k % 32) c.word_at-escape.ensures c.if-escape-gt15.true)

pub slice_bounds-words-end-2 : goal.slice_bounds-words-end-2
slice_bounds-words-end-2 c = sym (words-lent c.args.table.now c.args.scratch.now c.requires.whole_table c.requires.in_bounds)

pub gather-requires : goal.gather-requires
gather-requires c = omega (
  arith,
  whole_table c.args.table.now c.requires.whole_table,
  words-lent c.args.table.now c.args.scratch.now c.requires.whole_table c.requires.in_bounds,
)

pub returns-in_default : goal.returns-in_default
returns-in_default c = checked_refused c.args.table.now c.requires.whole_table _
    (words-lent c.args.table.now c.args.scratch.now c.requires.whole_table c.requires.in_bounds) c.in_default.ensures

pub returns : goal.returns
returns c = c.judge.ensures
    ∙ checked-gathered c.args.table.now c.requires.whole_table _
    (words-lent c.args.table.now c.args.scratch.now c.requires.whole_table c.requires.in_bounds)
    c.in-Some.longest c.gather.new.words c.in-Some.ensures _
    (ap (◌% 32) c.word_at-escape.ensures) (omega arith)
