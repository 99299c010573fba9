-- The verdict's line, by what it depends on. Assumes nothing.
use Rattle.std.specs.Prelude.{ℕ, zero, suc, ◌≡◌, refl}
use Rattle.text.specs.Lines.{done_line, refused_line}
use Rattle.fits_reader.specs.Verdict.{refused_row_line, verdict_text}

pub verdict-header : (number fault rows : ℕ) → (number ≡ 0 → ⊥) → verdict_text number fault rows ≡ refused_line number
unfolding verdict_text
verdict-header zero fault rows some = absurd (some refl)
verdict-header (suc e) fault rows some = refl

pub verdict-row : (fault rows : ℕ) → (fault ≡ 0 → ⊥) → verdict_text 0 fault rows ≡ refused_row_line fault rows
unfolding verdict_text
verdict-row zero rows some = absurd (some refl)
verdict-row (suc e) rows some = refl

pub verdict-done : (rows : ℕ) → verdict_text 0 0 rows ≡ done_line rows
unfolding verdict_text
verdict-done rows = refl
