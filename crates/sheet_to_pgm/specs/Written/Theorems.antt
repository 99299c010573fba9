-- What the picture says: its lines come one after another, the one that is written as line n is the picture's where the sheet is the
-- same, each row stands in its line whole, and none is outside. Assumes nothing.
use Rattle.std.specs.Prelude.{ℕ, suc, ◌-◌, ◌≤◌, ◌<◌, ◌≡◌, refl, length, take, replicate}
use Rattle.std.proofs.Common.{arith, sym, ap, ◌∙◌, ⊎_elim, take_at}
use mathlib.Core.List.Memᴰ
use mathlib.Core.List.{List, [], ◌∷◌, ◌++◌, Memᴰ}
use Rattle.sheet_format.specs.Sheet.{StoredRow, Heights, present, heights_of, stored_rows, sheet_read}
use Rattle.sheet_format.specs.Size.{rows_width, rows_height}
use Rattle.pgm_format.specs.Samples.{samples_of, lines_bytes}
use Rattle.pgm_format.specs.Shape.{padded_line, padded_lines}
use Rattle.sheet_to_pgm.specs.Written.{LineWritten}
use Rattle.sheet_to_pgm.specs.Written.Laws.{line-present}

-- a picture's samples are those of its first line, and then the rest
pub lines-first : (h w n k : ℕ) (ys : List StoredRow)
    → lines_bytes (padded_lines h w n (suc k) ys) ≡ samples_of (padded_line h w (heights_of n ys)) ++ lines_bytes (padded_lines h w (suc n) k ys)
unfolding padded_lines lines_bytes
lines-first h w n k ys = refl

-- what is written as line n is line n of every sheet that begins with the bytes that were read
pub line_same : {h w n : ℕ} {held text : List ℕ} (x : LineWritten h w n held text) (rest : List ℕ)
    → text ≡ samples_of (padded_line h w (heights_of n (stored_rows (sheet_read (x.settled.taken ++ held ++ rest)).records)))
line_same {h} {w} x rest = x.line ∙ ap (λ (y : Heights). samples_of (padded_line h w y)) (sym (x.settled.row rest))

-- a row's heights are the front of its line
pub line-heights : (h w : ℕ) (hs : List ℕ) → length hs ≤ w → take (length hs) (padded_line h w (present hs)) ≡ hs
line-heights h w hs few =
    ap (take (length hs)) (sym (line-present h w hs few)) ∙ take_at hs (replicate (w - length hs) h) (length hs) refl

-- and every row is within the picture
pub rows-within : (ys : List StoredRow) (y : StoredRow) → Memᴰ y ys
    → (y.number < rows_height ys) × (length y.heights ≤ rows_width ys)
unfolding rows_height rows_width
rows-within [] y m = absurd (Memᴰ.not-nil m)
rows-within (z ∷ ys) y m =
    ⊎_elim
    (λ e.
    let number : y.number ≡ z.number = ap (λ (x : StoredRow). x.number) e in
    let size : length y.heights ≡ length z.heights = ap (λ (x : StoredRow). length x.heights) e in
    (omega arith, omega arith))
    (λ later. let rest = rows-within ys y later in (omega (arith, rest.0), omega (arith, rest.1)))
    (Memᴰ.cases_cons m)
