-- `command::usage::option_values` meets its contract: the option is the first word of the text that is the same, and its values
-- stand behind it. Assumes nothing.
use Rattle.std.proofs.Common.{◌≡◌, List, ℕ, Option, Some, eqb, nat_eq, refl, ap, rules, tests, ◌∙◌}
use Rattle.std.specs.Prelude.{option_map}
use Rattle.std.specs.List.{slice_split, position}
use Rattle.std.specs.Cmp.Lexicographic.{pointwise}
use Rattle.std.proofs.lemmas.Iterator.Splits.{YieldsList-from_slice_split}
use Rattle.std.proofs.lemmas.Iterator.Search.{position_from_yields_List}
use Rattle.command.specs.Option.{usage_words, option_in}
use Rattle.command.specs.Option.Laws.{words_split, behind, option_position}
use Rattle.command.proofs.usage.option_values.Goals as goal

-- what is found says it
at-place : (s word : List ℕ) {r : Option ℕ} → r ≡ position (λ w. pointwise nat_eq w word) (slice_split (λ b. eqb b 32) s)
    → option_in (usage_words s) word ≡ option_map (behind (usage_words s)) r
at-place s word found =
    option_position word (usage_words s)
    ∙ rw (found, words_split s) refl

pub returns : goal.returns
returns c =
    let at = at-place c.args.usage.now c.args.word.now
    (position_from_yields_List (λ w. pointwise nat_eq w c.args.word.now) _ _ c.position.result c.position.ensures.ran
    (YieldsList-from_slice_split _ (λ b. eqb b 32) c.args.usage.now c.split.ensures.rest c.split.ensures.done c.split.ensures.closure (λ x b q k. search (rules, tests)))
    (λ x b q k. search (rules, tests))) in
    rw (at, c.in_ok-place.was) (ap Some c.values_behind.ensures)

pub returns-in_err-place : goal.returns-in_err-place
returns-in_err-place c =
    let at = at-place c.args.usage.now c.args.word.now
    (position_from_yields_List (λ w. pointwise nat_eq w c.args.word.now) _ _ c.position.result c.position.ensures.ran
    (YieldsList-from_slice_split _ (λ b. eqb b 32) c.args.usage.now c.split.ensures.rest c.split.ensures.done c.split.ensures.closure (λ x b q k. search (rules, tests)))
    (λ x b q k. search (rules, tests))) in
    rw (c.from_residual.ensures, at, c.in_err-place.was) refl
