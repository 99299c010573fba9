use Rattle.std.proofs.Common.{length, drop, refl, sym, ◌∙◌}
use Rattle.bitstream.specs.Bits.{words_of}
use Rattle.code_table.proofs.check.GatherTurn.{codeword_words-enough, codeword_words-at, gathering-none, gathering-more, gathered-wrong}
use Rattle.code_table.proofs.check.gather.Goals as goal

pub loop-i-init : goal.loop-i-init
loop-i-init c =
    let n = length c.args.words.now in
    gathering-none (drop 3 (words_of c.args.table.now)) n (codeword_words-enough c.args.table.now n c.requires) c.args.words.now refl

pub returns-then-not-well_formed : goal.returns-then-not-well_formed
returns-then-not-well_formed c =
    let n = length c.args.words.now in
    gathered-wrong (drop 3 (words_of c.args.table.now)) n (codeword_words-enough c.args.table.now n c.requires)
    c.loop-i.words c.loop-i.longest c.loop-i.i c.word_at-w.result c.loop-i.invariant c.loop-i-test.true
    (c.word_at-w.ensures ∙ codeword_words-at c.args.table.now c.loop-i.i)
    (sym c.well_formed-in-loop-i.ensures ∙ c.if-not-well_formed.true)

pub loop-i-preserved : goal.loop-i-preserved
loop-i-preserved c =
    let n = length c.args.words.now in
    rw c.max-longest.ensures
    (gathering-more (drop 3 (words_of c.args.table.now)) n (codeword_words-enough c.args.table.now n c.requires)
    c.loop-i.words c.loop-i.longest c.loop-i.i c.word_at-w.result c.loop-i.invariant c.loop-i-test.true
    (c.word_at-w.ensures ∙ codeword_words-at c.args.table.now c.loop-i.i)
    (sym c.well_formed-in-loop-i.ensures ∙ c.if-not-well_formed.false))
