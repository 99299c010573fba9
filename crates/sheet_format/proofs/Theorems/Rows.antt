-- An accepted row: its number, its count and its heights are within their limits, and the next number is the one after it.
-- Assumes nothing.
use Rattle.std.specs.Prelude.{ℕ, zero, suc, ◌+◌, ◌*◌, ◌≤◌, ◌<◌, ◌≡◌, not, false, List, [], ◌∷◌, length, ltb, eqb}
use Rattle.std.proofs.Common.{arith, ltb-false}
use Rattle.std.proofs.Math.Path.{refl}
use Rattle.bitstream.specs.Bits.{words_of, halves_of, stream, Below}
use Rattle.bitstream.specs.Bits.Laws.{below-nil, below-cons, below-flat}
use Rattle.answer.specs.Outcome.{◌or_else◌, refuse_if, nothing}
use Rattle.answer.specs.Outcome.Laws.{or_else-zero-left, or_else-zero-right, refuse_if-zero}
use Rattle.row_format.specs.Lists.{any}
use Rattle.row_format.specs.Lists.Laws.{any-false-head, any-false-tail}
use Rattle.row_format.specs.Table.Laws.{accepted-table}
use Rattle.row_format.specs.Row.{fresh, pixels_of, pixel_bytes, too_many, too_high}
use Rattle.row_format.specs.Row.Laws.{too_many-zero}
use Rattle.row_format.specs.Reading.{Run, done, stop, run_number, pixels_of_run, row_reading}
use Rattle.row_format.proofs.Theorems.Done.{row_reading-reads}
use Rattle.row_format.proofs.Theorems.Numbers.{StopIn, row_reading-stops}
use Rattle.row_format.proofs.Theorems.Standing.{read_items-stands, stands-pixels}
use Rattle.row_format.proofs.Theorems.Words.{halves_of-bytes_of}
use Rattle.sheet_format.specs.Context.{Heading, Context, table_for}
use Rattle.sheet_format.specs.Kind.{Payload, a_row, Kind, after_record}
use Rattle.sheet_format.specs.Kind.Row.{row_heading, pixel_count, row_content}
use Rattle.sheet_format.specs.Kind.PackedRow.{packed_reading, packed_leftover, packed_own, packed_content, packed_kind}
use Rattle.sheet_format.specs.Kind.PlainRow.{plain_number, plain_own, plain_content, plain_kind}
use Rattle.sheet_format.specs.Kinds.{kind_of}
use Rattle.sheet_format.specs.Kinds.Laws.{lawful}
use Rattle.sheet_format.specs.Record.{kind_field, body_of}
use Rattle.sheet_format.specs.Reading.{answer_bytes, record_held, record_content, context_after, record_judged}
use Rattle.sheet_format.specs.Reading.Laws.{judged-read, judged-held, judged-kind, judged-state}

-- ---- heights that are not too high
below-low : (ps : List ℕ) → any (ltb 4095) ps ≡ false → Below 4096 ps
below-low [] e = below-nil (omega arith)
below-low (p ∷ ps) e =
    below-cons (omega (arith, ltb-false 4095 p (any-false-head (ltb 4095) p ps e))) (below-low ps (any-false-tail (ltb 4095) p ps e))

halves-low : (ps : List ℕ) → any (ltb 4095) ps ≡ false → Below 4096 (halves_of (pixel_bytes ps))
halves-low ps e =
    let low = below-low ps e in
    rw (halves_of-bytes_of (length ps) ps refl (record { below = λ i. omega (arith, low.below i) })) low

-- ---- the body of a row
pub record RowWithin (c : Context) (b : List ℕ) (k : Kind) : Type 0 where
  pub each : k.each ≡ 2
  pub count : k.count b ≤ 4096
  pub heights : Below 4096 (halves_of (k.content c b))

module _ (c : Context) (b : List ℕ) where
  run-within : (x : Run) → packed_reading nothing c b ≡ x → StopIn (λ e. 0 < e) x → run_number x ≡ 0
      → (pixel_count b ≤ 4096) × Below 4096 (halves_of (pixel_bytes (pixels_of_run x)))
  unfolding packed_reading
  run-within (done is u) e real ok =
      let tb = table_for c (row_heading b) in
      let n = pixel_count b in
      let got = row_reading-reads nothing tb n (row_content b) is u e in
      let stands = read_items-stands (words_of tb) (accepted-table tb got.given.table) n (stream (row_content b)) is u (below-flat 8 _)
      got.read in
      (got.given.few, halves-low (pixels_of fresh is) (stands-pixels (words_of tb) n _ is u stands).1)
  run-within (stop k at u) e real ok = absurd (omega arith)

  packed-within : packed_own nothing c b ≡ 0 → RowWithin c b packed_kind
  unfolding packed_own packed_reading packed_content
  packed-within ok =
      let x = row_reading nothing (table_for c (row_heading b)) (pixel_count b) (row_content b) in
      let within = run-within x refl (row_reading-stops nothing _ _ _) (or_else-zero-left (run_number x) (packed_leftover c b) ok) in
      record { each = refl; count = within.0; heights = within.1 }

  plain-within : plain_own nothing c b ≡ 0 → RowWithin c b plain_kind
  unfolding plain_own plain_number plain_content
  plain-within ok =
      let n = pixel_count b in
      let uneven = refuse_if (not (eqb (length (row_content b)) (2 * n))) 14 in
      let heights = halves_of (row_content b) in
      let high = too_high heights in
      let number = or_else-zero-left (too_many n or_else uneven or_else high) 0 ok in
      let rest = or_else-zero-right (too_many n) (uneven or_else high) number in
      record {
        each = refl;
        count = too_many-zero n (or_else-zero-left (too_many n) (uneven or_else high) number);
        heights = below-low heights (refuse_if-zero (any (ltb 4095) heights) 3 (or_else-zero-right uneven high rest));
      }

-- rows are of two kinds
row-kinds : (P : Kind → Type 0) → P packed_kind → P plain_kind → (code : ℕ) → (kind_of code).holds ≡ a_row → P (kind_of code)
row-kinds P packed plain zero row = absurd (let z : ◌≡◌ {A = ℕ} 0 1 = cc in omega arith)
row-kinds P packed plain (suc zero) row = absurd (let z : ◌≡◌ {A = ℕ} 0 1 = cc in omega arith)
row-kinds P packed plain (suc (suc zero)) row = packed
row-kinds P packed plain (suc (suc (suc zero))) row = plain
row-kinds P packed plain (suc (suc (suc (suc zero)))) row = absurd (let z : ◌≡◌ {A = ℕ} 0 1 = cc in omega arith)
row-kinds P packed plain (suc (suc (suc (suc (suc k))))) row = absurd (let z : ◌≡◌ {A = ℕ} 0 1 = cc in omega arith)

after-row : (s : Payload) (h : Heading) (b : List ℕ) (c : Context) → s ≡ a_row → (after_record s h b c).least ≡ h.row + 1
after-row s h b c row = rw row

-- ---- an accepted row
module _ (c : Context) (r : List ℕ) (ok : (record_judged c r).number ≡ 0) (row : (kind_of (record_judged c r).kind).holds ≡ a_row) where
  row-kind : (kind_of (kind_field r)).holds ≡ a_row
  row-kind = rw (judged-kind c r ok) at row

  abbrev heading : Heading
  heading = (kind_of (kind_field r)).heading (body_of r)

  number_is : (record_judged c r).row ≡ heading.row
  unfolding record_held
  number_is = rw (judged-held c r ok)

  within : RowWithin c (body_of r) (kind_of (kind_field r))
  within =
      row-kinds (λ k. k.own nothing c (body_of r) ≡ 0 → RowWithin c (body_of r) k) (packed-within c (body_of r)) (plain-within c (body_of r))
      (kind_field r) row-kind (judged-read c r ok).parts.own

  -- "Row numbers rise strictly": it is not below the least, it fits two bytes, and the least next is the one after it
  pub row-least : c.least ≤ (record_judged c r).row
  row-least = rw number_is ((lawful (kind_field r)).row-risen row-kind c heading (judged-read c r ok).parts.place)

  pub row_small : (record_judged c r).row < 65536
  row_small = rw number_is ((lawful (kind_field r)).row_small row-kind c heading (judged-read c r ok).parts.place)

  pub row_next : (record_judged c r).state.least_row ≡ (record_judged c r).row + 1
  unfolding context_after
  row_next = rw (judged-state c r ok, number_is) (after-row (kind_of (kind_field r)).holds heading (body_of r) c row-kind)

  -- it has at most 4096 heights, of 2 bytes each, none above 4095
  pub row_count : (record_judged c r).count ≤ 4096
  unfolding record_held
  row_count = rw (judged-held c r ok) within.count

  pub row-bytes : answer_bytes (record_judged c r) ≡ 2 * (record_judged c r).count
  row-bytes = rw (judged-kind c r ok, within.each)

  pub row-heights : Below 4096 (halves_of (record_content c r))
  unfolding record_content
  row-heights = within.heights
