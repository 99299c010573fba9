-- The laws of counts from text: byte by byte, part by part, and that all are below 65536. Assumes nothing.
use Rattle.std.specs.Prelude.{ℕ, Option, Some, None, ◌+◌, ◌<◌, ◌≡◌, refl, true, false, List, [], ◌∷◌, ◌++◌, length, take, get_or, eqb}
use Rattle.std.proofs.Common.{add-one, arith, sym, ap, subst, ◌∙◌, append_assoc, append-nil}
use Rattle.std.proofs.Math.Seq.{take-suc}
use Rattle.bitstream.specs.Bits.{Below}
use Rattle.bitstream.specs.Bits.Laws.{below-nil, below-cons, below-append}
use Rattle.row_format.specs.Lists.Laws.{by-test}
use Rattle.text.specs.Number.{is_digit, with_digit, AtMost}
use Rattle.text.specs.Number.Laws.{with_digit-most}
use Rattle.map_text.specs.declared.scan.Scan.{Scan}
use Rattle.map_text.specs.declared.scan.Scan.TheVariants.{Line, Gap, Count, D, Do, Don, Ended, Fault}
use Rattle.map_text.specs.Scan.{is_gap, is_space, scan_of, with_byte, with_first, with_letter, stepped, scan_after}
use Rattle.map_text.specs.Scan.{last_counts, counted_by, counts_from, is_text, no_text, counts, text_counts}

-- ---- part by part
pub scan-append : (scan : Scan) (s t : List ℕ) → scan_after scan (s ++ t) ≡ scan_after (scan_after scan s) t
unfolding scan_after
scan-append scan [] t = refl
scan-append scan (b ∷ s) t = scan-append (stepped scan b) s t

pub counts-append : (scan : Scan) (s t : List ℕ) → counts_from scan (s ++ t) ≡ counts_from scan s ++ counts_from (scan_after scan s) t
unfolding counts_from scan_after
counts-append scan [] t = refl
counts-append scan (b ∷ s) t =
    ap (counted_by scan b ++◌) (counts-append (stepped scan b) s t)
    ∙ sym (append_assoc (counted_by scan b) (counts_from (stepped scan b) s) (counts_from (scan_after (stepped scan b) s) t))

-- ---- byte by byte
module _ (scan : Scan) (s : List ℕ) (i : ℕ) (h : i < length s) where
  pub scan-more : scan_after scan (take (i + 1) s) ≡ stepped (scan_after scan (take i s)) (get_or s i 0)
  unfolding scan_after
  scan-more = rw (add-one i, take-suc s i 0 h, scan-append scan (take i s) (get_or s i 0 ∷ []))

  pub counts-more : counts_from scan (take (i + 1) s) ≡ counts_from scan (take i s) ++ counted_by (scan_after scan (take i s)) (get_or s i 0)
  unfolding counts_from
  counts-more =
      rw (add-one i, take-suc s i 0 h, counts-append scan (take i s) (get_or s i 0 ∷ []))
      (ap (counts_from scan (take i s) ++◌) (append-nil (counted_by (scan_after scan (take i s)) (get_or s i 0))))

-- ---- a whole text
pub text-counts : (s : List ℕ) → is_text (scan_after Line s) ≡ true
    → text_counts s ≡ counts (counts_from Line s ++ last_counts (scan_after Line s))
unfolding text_counts
text-counts s e = rw e

pub text-none : (s : List ℕ) → is_text (scan_after Line s) ≡ false → text_counts s ≡ no_text
unfolding text_counts
text-none s e = rw e

-- ---- counts are below 65536
abbrev Small : Scan → Type 0
Small Line = Unit {0}
Small Gap = Unit {0}
Small (Count v) = v < 65536
Small D = Unit {0}
Small Do = Unit {0}
Small Don = Unit {0}
Small Ended = Unit {0}
Small Fault = Unit {0}

small_of : (d : Option ℕ) → AtMost 65535 d → Small (scan_of d)
small_of (Some v) h = omega arith
small_of None h = tt

small-byte : (v b : ℕ) → Small (with_byte v b)
unfolding with_byte
small-byte v b =
    by-test (is_digit b)
    (λ t. rw t (small_of (with_digit 65535 v b) (with_digit-most 65535 v b)))
    (λ t. by-test (eqb b 10) (λ u. rw (t, u) tt) (λ u. by-test (is_gap b) (λ w. rw (t, u, w) tt) (λ w. rw (t, u, w) tt)))

small-letter : (b letter : ℕ) (next : Scan) → Small next → Small (with_letter b letter next)
unfolding with_letter
small-letter b letter next h = by-test (eqb b letter) (λ t. rw t h) (λ t. rw t tt)

small-step : (scan : Scan) (b : ℕ) → Small (stepped scan b)
unfolding stepped with_first
small-step Line b = by-test (eqb b 100) (λ t. rw t tt) (λ t. rw t (small-byte 0 b))
small-step Gap b = small-byte 0 b
small-step (Count v) b = small-byte v b
small-step D b = small-letter b 111 Do tt
small-step Do b = small-letter b 110 Don tt
small-step Don b = small-letter b 101 Ended tt
small-step Ended b = tt
small-step Fault b = tt

small-after : (scan : Scan) (s : List ℕ) → Small scan → Small (scan_after scan s)
unfolding scan_after
small-after scan [] h = h
small-after scan (b ∷ s) h = small-after (stepped scan b) s (small-step scan b)

below_last : (scan : Scan) → Small scan → Below 65536 (last_counts scan)
unfolding last_counts
below_last Line h = below-nil (omega arith)
below_last Gap h = below-nil (omega arith)
below_last (Count v) h = below-cons h (below-nil (omega arith))
below_last D h = below-nil (omega arith)
below_last Do h = below-nil (omega arith)
below_last Don h = below-nil (omega arith)
below_last Ended h = below-nil (omega arith)
below_last Fault h = below-nil (omega arith)

below-counted : (scan : Scan) (b : ℕ) → Small scan → Below 65536 (counted_by scan b)
unfolding counted_by
below-counted scan b h = by-test (is_space b) (λ t. rw t (below_last scan h)) (λ t. rw t (below-nil (omega arith)))

below-counts : (scan : Scan) (s : List ℕ) → Small scan → Below 65536 (counts_from scan s)
unfolding counts_from
below-counts scan [] h = below-nil (omega arith)
below-counts scan (b ∷ s) h =
    below-append (counted_by scan b) (counts_from (stepped scan b) s) (below-counted scan b h)
    (below-counts (stepped scan b) s (small-step scan b))

pub text-below : (s xs : List ℕ) → text_counts s ≡ counts xs → Below 65536 xs
text-below s xs e =
    let scan = scan_after Line s in
    by-test (is_text scan)
    (λ t.
    let same : counts_from Line s ++ last_counts scan ≡ xs = counts_same (sym (text-counts s t) ∙ e) in
    subst (Below 65536) same
    (below-append (counts_from Line s) (last_counts scan) (below-counts Line s tt) (below_last scan (small-after Line s tt))))
    (λ t. absurd (counts-not-none (sym e ∙ text-none s t)))
  where
    counts_same : {xs ys : List ℕ} → counts xs ≡ counts ys → xs ≡ ys
    counts_same p = cc

    counts-not-none : {xs : List ℕ} → counts xs ≡ no_text → ⊥
    counts-not-none p = let z : ◌≡◌ {A = ℕ} 0 1 = cc in omega arith
