-- `sheet_reader::plain::judge_pixels` meets its contract: each refusal is the next of a plain row's own, and 5 is the
-- last. Assumes nothing.
use mathlib.Core.Path.{sym, ◌∙◌}
use Rattle.sheet_reader.proofs.plain.Laws.{pixels-many, pixels-size, pixels-above, pixels-full, pixels-right}
use Rattle.sheet_reader.proofs.plain.judge_pixels.Goals as goal

pub returns-then-count-gt-MAX_PIXELS : goal.returns-then-count-gt-MAX_PIXELS
returns-then-count-gt-MAX_PIXELS c = λ x.
    pixels-many c.args.body.now c.args.room c.requires.count_value x c.if-count-gt-MAX_PIXELS.true

pub returns-then-pixels-bytes : goal.returns-then-pixels-bytes
returns-then-pixels-bytes c = λ x.
    pixels-size c.args.body.now c.args.room c.requires.count_value x c.if-count-gt-MAX_PIXELS.false
    c.if-pixels-bytes.true

pub returns-then-any_above : goal.returns-then-any_above
returns-then-any_above c = λ x.
    pixels-above c.args.body.now c.args.room c.requires.count_value x c.if-count-gt-MAX_PIXELS.false
    c.if-pixels-bytes.false (sym c.if-any_above.true ∙ c.any_above.ensures)

pub returns-then-room-bytes : goal.returns-then-room-bytes
returns-then-room-bytes c = λ x.
    pixels-full c.args.body.now c.args.room c.requires.count_value x c.if-count-gt-MAX_PIXELS.false
    c.if-pixels-bytes.false (sym c.if-any_above.false ∙ c.any_above.ensures) c.if-room-bytes.true

pub returns : goal.returns
returns c = λ x.
    pixels-right c.args.body.now c.args.room c.requires.count_value x c.if-count-gt-MAX_PIXELS.false
    c.if-pixels-bytes.false (sym c.if-any_above.false ∙ c.any_above.ensures) c.if-room-bytes.false
