-- What is held of a header, block by block. Assumes nothing.
use Rattle.std.specs.Prelude.{ℕ, ◌+◌, ◌*◌, ◌≤◌, ◌<◌, ◌≡◌, refl, false, List, [], length, take, ltb}
use Rattle.std.proofs.Common.{arith, sym, ap, ◌∙◌, length-take, take_all, take-take, ltb-true, ltb-false}
use borrow.Rule.Slice.PartMut.{put_mid, take_put}
use Rattle.row_format.specs.Lists.{any}
use Rattle.row_format.specs.Lists.Laws.{by-test}
use Rattle.fits_format.specs.Header.{cards_of, header_cards, stands, end_card, header_span}
use Rattle.fits_format.specs.Header.Laws.{stands-less, less-stands}
use Rattle.fits_format.specs.Theorems.Span.{header_span-past}
use Rattle.fits_to_sheet.specs.Scan.{HeaderHeld}

-- END stands where its place is among the cards
pub stands-place : (s : List ℕ) → ltb (end_card s) (length (header_cards s)) ≡ stands "END     " (header_cards s)
unfolding end_card
stands-place s =
    by-test (ltb (end_card s) (length (header_cards s)))
    (λ t. t ∙ sym (less-stands (header_cards s) (ltb-true (end_card s) (length (header_cards s)) t)))
    (λ t.
    by-test (stands "END     " (header_cards s))
    (λ u. absurd (omega (arith, stands-less (header_cards s) u, ltb-false (end_card s) (length (header_cards s)) t)))
    (λ u. t ∙ sym u))

-- there is none in no bytes
pub end-in-none : stands "END     " (header_cards []) ≡ false
unfolding cards_of any
end-in-none = refl

-- in k blocks at the front of m there is none, and then c bytes y of the next came
pub held-block : (k c n : ℕ) (m y : List ℕ) → k < 10 → c ≤ 2880 → 2880 * k ≤ length m
    → stands "END     " (header_cards (take (2880 * k) m)) ≡ false
    → HeaderHeld (take (2880 * k + c) (put_mid (2880 * k) n m y))
held-block k c n m y few part there none =
    let all = put_mid (2880 * k) n m y in
    let s = take (2880 * k + c) all in
    let front : take (2880 * k) s ≡ take (2880 * k) m =
    take-take (2880 * k) (2880 * k + c) all (omega arith) ∙ take_put (2880 * k) n m y there in
    let goes_on_lem = header_span-past k s few (ap (λ (t : List ℕ). stands "END     " (header_cards t)) front ∙ none) in
    sym (take_all (header_span s) s (omega (arith, goes_on_lem, length-take (2880 * k + c) all, part)))

-- none in ten
pub held-ten : (m : List ℕ) → stands "END     " (header_cards (take 28800 m)) ≡ false → HeaderHeld (take 28800 m)
unfolding header_span
held-ten m none =
    let s = take 28800 m in
    let span : header_span s ≡ 28800 = rw none in
    sym (take_all (header_span s) s (omega (arith, span, length-take 28800 m)))
