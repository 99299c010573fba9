-- `pgm_reader::field::field_at` meets its contract: separators, and then digits. Assumes nothing.
use Prim.Native.Nat.{ℕ, ◌+◌, ◌-◌, ◌≤◌}
use native.Mathlib.Omega.{arith}
use mathlib.Core.Path.{◌≡◌, ap, ◌∙◌}
use mathlib.Core.List.{List}
use lib.ListN.{length, take, drop, length-drop}
use borrow.Author.Rules.{part_to_end}
use Rattle.pgm_format.specs.Header.{gap_bytes, digit_bytes}
use Rattle.pgm_format.specs.Header.Laws.{field_kept, field-none, field_end, field-number}
use Rattle.pgm_reader.proofs.field.Laws.{kept-digits}
use Rattle.pgm_reader.proofs.field.field_at.Goals as goal

-- separators and digits, as the definition counts them
found : (s : List ℕ) (at gap digits : ℕ)
    → gap ≡ gap_bytes (take (length s - at) (drop at s)) → gap ≤ length (take (length s - at) (drop at s))
    → digits ≡ digit_bytes (take (length s - (at + gap)) (drop (at + gap) s))
    → digits ≤ length (take (length s - (at + gap)) (drop (at + gap) s))
    → at ≤ length s
    → (gap ≡ gap_bytes (drop at s)) × (digits ≡ digit_bytes (drop (at + gap) s)) × (at + gap + digits ≤ length s)
found s at gap digits gaps gap-fits counted fits inside =
    let first = rw (part_to_end s at) at gap-fits in
    let second = rw (part_to_end s (at + gap)) at fits in (
      rw (part_to_end s at) at gaps,
      rw (part_to_end s (at + gap)) at counted,
      omega (arith, first, second, length-drop at s, length-drop (at + gap) s),
    )

pub returns-then-gap-eq0 : goal.returns-then-gap-eq0
returns-then-gap-eq0 c = let f = found c.args.bytes.now c.args.at c.gap_bytes-gap.result c.digit_bytes.result c.gap_bytes-gap.ensures.gap
    c.gap_bytes-gap.ensures.within c.digit_bytes.ensures.digits c.digit_bytes.ensures.within c.requires in record { value = ap field_kept (field-none c.args.bytes.now c.args.at c.gap_bytes-gap.result c.digit_bytes.result f.0 f.1 c.if-gap-eq0.true); end = field_end c.args.bytes.now c.args.at c.gap_bytes-gap.result c.digit_bytes.result f.0 f.1; within = f.2 }

pub returns : goal.returns
returns c = let f = found c.args.bytes.now c.args.at c.gap_bytes-gap.result c.digit_bytes.result c.gap_bytes-gap.ensures.gap
    c.gap_bytes-gap.ensures.within c.digit_bytes.ensures.digits c.digit_bytes.ensures.within c.requires in
    let size : c.args.at + c.gap_bytes-gap.result + c.digit_bytes.result - (c.args.at + c.gap_bytes-gap.result) ≡ c.digit_bytes.result = omega arith in
    let number = field-number c.args.bytes.now c.args.at c.gap_bytes-gap.result c.digit_bytes.result f.0 f.1 c.if-gap-eq0.false in record {
      value = (rw size at c.unsigned_digits.ensures)
          ∙ (rw (← f.1) at (kept-digits 65537 0 (drop (c.args.at + c.gap_bytes-gap.result) c.args.bytes.now)))
          ∙ ap field_kept number;
      end = field_end c.args.bytes.now c.args.at c.gap_bytes-gap.result c.digit_bytes.result f.0 f.1;
      within = f.2;
    }
