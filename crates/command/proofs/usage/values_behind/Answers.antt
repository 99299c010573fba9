-- `command::usage::values_behind` meets its contract: the words are those of the text, from the place on, up to the next option.
-- Assumes nothing.
use Rattle.std.proofs.Common.{◌+◌, rules, tests, drop, eqb, ◌∙◌}
use Rattle.std.specs.List.{slice_split}
use Rattle.std.proofs.lemmas.Iterator.Splits.{YieldsList-from_slice_split}
use Rattle.std.proofs.lemmas.Iterator.Adapters.{YieldsList-from_skip}
use Rattle.std.proofs.lemmas.Iterator.Consumers.{YieldsList-at, count_from_yields_List}
use Rattle.std.proofs.lemmas.Iterator.Search.{YieldsList-from_take_while}
use Rattle.std.proofs.lemmas.List.Folds.{length-prefix_len}
use Rattle.command.specs.Option.Laws.{words_split, is_value, values_prefix}
use Rattle.command.proofs.usage.values_behind.Goals as goal

pub returns : goal.returns
returns c =
    count_from_yields_List c.take_while.result _ c.count.ensures.ran
    (YieldsList-from_take_while _ is_value
    (YieldsList-at c.take_while.ensures.source (YieldsList-from_skip (c.args.place + 1)
    (YieldsList-at c.skip.ensures.source
    (YieldsList-from_slice_split _ (λ b. eqb b 32) c.args.usage.now c.split.ensures.rest c.split.ensures.done c.split.ensures.closure (λ x b q k. search (rules, tests))))
    c.skip.ensures.count))
    c.take_while.ensures.closure c.take_while.ensures.done (λ x b q k. search (rules, tests)))
    ∙ rw (words_split, values_prefix) (length-prefix_len is_value (drop (c.args.place + 1) (slice_split (λ b. eqb b 32) c.args.usage.now)))
