-- A header read block by block: the image begins after the block with which it is accepted. Assumes nothing.
use Rattle.std.specs.Prelude.{ℕ, ◌+◌, ◌*◌, ◌≡◌, List, take}
use Rattle.std.proofs.Common.{arith, sym, ap, ◌∙◌}
use Rattle.answer.specs.Outcome.{Outcome}
use Rattle.row_format.specs.Lists.Laws.{by-test}
use Rattle.fits_format.specs.declared.ImageHeader.{ImageHeader}
use Rattle.fits_format.specs.Header.{header_cards, stands, header_read}
use Rattle.fits_format.specs.Theorems.Header.{header_read-image, header_read-accepted}
use Rattle.fits_format.specs.Theorems.Span.{prefix-end, header_span-end, header_span-block}

pub blocks_start : (k : ℕ) (s m : List ℕ) → (header_read (take (2880 * k) s) m).answer.number ≡ 17
    → (header_read (take (2880 * (k + 1)) s) m).answer.number ≡ 0
    → (header_read (take (2880 * (k + 1)) s) m).answer.start ≡ 2880 * (k + 1)
blocks_start k s m refused ok =
    let t = take (2880 * (k + 1)) s in
    let there = (header_read-accepted t m ok).end-stands in
    let same : header_read t m ≡ header_read s m = prefix-end (2880 * (k + 1)) s m there in
    by-test (stands "END     " (header_cards (take (2880 * k) s)))
    -- in the first k blocks: they would get the same answer
    (λ e. absurd (omega (arith, refused, ok, ap number_of (prefix-end (2880 * k) s m e ∙ sym same))))
    -- in the next
    (λ e.
    let accepted : (header_read s m).answer.number ≡ 0 = ap number_of (sym same) ∙ ok in
    let end = (header_read-accepted s m accepted).end-stands in
    ap start_of same
    ∙ ap (λ (h : ImageHeader). h.start) (header_read-image s m accepted)
    ∙ sym (header_span-end s end)
    ∙ header_span-block k s e there)
  where
    number_of : Outcome ImageHeader → ℕ
    number_of o = o.answer.number

    start_of : Outcome ImageHeader → ℕ
    start_of o = o.answer.start
