-- `code_table::plain::put_plain_table` meets its contract: either the bytes do not fit, or the words are stored. Assumes nothing.
use Prim.Native.Nat.{ℕ, ◌*◌}
use native.Mathlib.Omega.{arith}
use mathlib.Core.Path.{ap, ◌∙◌}
use mathlib.Core.List.{List, ◌++◌}
use lib.ListN.{length, drop}
use Rattle.code_table.specs.Plain.{word_bytes}
use Rattle.code_table.proofs.plain.PlainTableLaws.{plain-refused, plain-lent}
use Rattle.code_table.proofs.plain.put_plain_table.Goals as goal

pub returns-then-out-lt2072 : goal.returns-then-out-lt2072
returns-then-out-lt2072 c = plain-refused c.args.out.now c.if-out-lt2072.true

pub returns : goal.returns
returns c = plain-lent c.args.out.now c.store.new.out (omega arith)
    (c.store.ensures
    ∙ ap (λ (l : List ℕ). word_bytes l ++ drop (4 * length l) c.args.out.now) c.plain_words-words.ensures)
