-- `row_packer::field::Field::codeword` meets its contract: the word of the codeword, taken apart. Assumes nothing.
use native.Mathlib.Omega.{arith}
use Rattle.code_table.specs.Check.Laws.{length-words}
use Rattle.row_packer.proofs.field.Laws.{holds-codeword}
use Rattle.row_packer.proofs.field.Field.codeword.Goals as goal

pub word_at-w-requires : goal.word_at-w-requires
word_at-w-requires c = omega (arith, c.requires.accepted.words, length-words c.args.table.now)

pub returns : goal.returns
returns c = holds-codeword c.requires.accepted c.args.j c.requires.j_bound c.word_at-w.ensures
