-- The laws of what a text comes to: what `write_map` answers with the counts that are kept. Assumes nothing.
use Rattle.std.specs.Prelude.{ℕ, zero, suc, ◌*◌, ◌/◌, ◌≤◌, ◌≡◌, refl, true, false, List, [], ◌++◌, length, take, drop, ltb, eqb}
use Rattle.std.proofs.Common.{arith, sym, ap, ◌∙◌, take_at, length-take-le, ltb-true, ltb-false, ne_eqb}
use Rattle.answer.specs.declared.Answer.{Answer}
use Rattle.answer.specs.Outcome.{Outcome, outcome, ◌or_else◌, refused, wrote}
use Rattle.answer.specs.Outcome.Laws.{or_else-zero-left, or_else-zero-right, unequal_number-zero}
use Rattle.bitstream.specs.Bits.{flat, halves_of, Below}
use Rattle.bitstream.specs.Bits.Laws.{length_cut}
use Rattle.row_format.specs.Lists.Laws.{by-test}
use Rattle.row_format.specs.Row.{pixel_bytes}
use Rattle.row_format.proofs.Theorems.Words.{halves_of-bytes_of}
use Rattle.text.specs.Lines.{refused_line}
use Rattle.map_format.specs.Reading.{sum}
use Rattle.map_format.specs.Calls.{position_bits, size_number, counts_number, map_bytes, map_written}
use Rattle.map_format.specs.Verdict.{MapWritable}
use Rattle.map_format.proofs.Verdict.Laws.{size_number-zero, map_written-got, map_written-done}
use Rattle.map_format.proofs.Theorems.Bytes.{bytes_most}
use Rattle.map_text.specs.declared.counts.Taken.{Taken}
use Rattle.map_text.specs.declared.scan.Scan.TheVariants.{Line}
use Rattle.map_text.specs.MapText.{done_bytes_line}
use Rattle.map_text.specs.Scan.{scan_after, counts_from, last_counts, is_text, counts, text_counts}
use Rattle.map_text.specs.Scan.Laws.{scan-append, counts-append, text-counts, text-none, text-below}
use Rattle.map_text.specs.Held.{kept, Held}
use Rattle.map_text.specs.Held.Laws.{held_none, kept-all, kept-most, length-kept, length-kept-most}
use Rattle.text_to_map.specs.Made.{Making, map_number, making, making_text, making_line, BlockTaken, TextUnderway, NotText}
use Rattle.text_to_map.specs.Made.{CountsOf, Makes, MapOf, end_of, MakingEnded, VerdictOf}

-- ---- while a text is taken
pub underway-none : (m : List ℕ) → TextUnderway (record { scan = Line; count = 0 }) m
unfolding scan_after counts_from
underway-none m = record { text = []; scan = refl; held = held_none m }

pub underway-more : {t t' : Taken} {m m' b : List ℕ} → TextUnderway t m → BlockTaken t m b t' m' → TextUnderway t' m'
underway-more {t} {t'} {m} {m'} {b} u taken = record {
  text = u.text ++ b;
  scan = taken.scan ∙ rw u.scan (sym (scan-append Line u.text b));
  held = rw (counts-append Line u.text b, ← u.scan) (taken.held (counts_from Line u.text) u.held);
}

-- ---- where it has ended
pub not-text : {t : Taken} {m : List ℕ} → TextUnderway t m → is_text t.scan ≡ false → NotText t.scan
not-text u e = record { text = u.text; ended = u.scan; none = text-none u.text (rw u.scan at e) }

pub counts_of : {t : Taken} {m m' : List ℕ} {count : ℕ} → TextUnderway t m → is_text t.scan ≡ true
    → ((xs : List ℕ) → Held xs t.count m → Held (xs ++ last_counts t.scan) count m') → CountsOf (take (2 * count) m')
counts_of {t} {m} {m'} {count} u e held =
    record {
      text = u.text;
      xs = counts_from Line u.text ++ last_counts (scan_after Line u.text);
      counted = text-counts u.text (rw u.scan at e);
      bytes = rw u.scan at (held (counts_from Line u.text) u.held).bytes;
    }

pub count_most : {t : Taken} {m m' : List ℕ} {count : ℕ} → TextUnderway t m
    → ((xs : List ℕ) → Held xs t.count m → Held (xs ++ last_counts t.scan) count m') → count ≤ 16385
count_most {t} u held =
    let xs = counts_from Line u.text in
    omega (arith, (held xs u.held).size, kept-most (xs ++ last_counts t.scan))

-- ---- writing the counts that are kept
pub length-held : {held : List ℕ} → CountsOf held → length held ≤ 32770
length-held of =
    let n = length (kept of.xs) in
    rw of.bytes (omega (arith, length_cut 8 (2 * n) (flat 16 (kept of.xs)), kept-most of.xs))

module _ (g : ℕ) (xs m : List ℕ) (low : Below 65536 xs) (room : 46592 ≤ length m) where
  abbrev held : List ℕ
  held = pixel_bytes (kept xs)

  count_held : length held / 2 ≡ length (kept xs)
  count_held = omega (arith, length_cut 8 (2 * length (kept xs)) (flat 16 (kept xs)))

  -- as many are kept as a map has exactly where there are as many
  same_test : eqb (length (kept xs)) 16384 ≡ eqb (length xs) 16384
  same_test =
      by-test (ltb (length xs) 16385)
      (λ t. ap (λ (n : ℕ). eqb n 16384) (length-kept xs (ltb-true (length xs) 16385 t)))
      (λ t.
      let many : 16385 ≤ length xs = ltb-false (length xs) 16385 t in
      let full = length-kept-most xs many in
      ne_eqb (length (kept xs)) 16384 (λ e. omega arith) ∙ sym (ne_eqb (length xs) 16384 (λ e. omega arith)))

  number_is : size_number g or_else counts_number held ≡ map_number g xs
  unfolding counts_number
  number_is = rw (count_held, same_test)

  written-refused : (e : ℕ) → map_number g xs ≡ suc e → map_written g held m ≡ refused (suc e) m
  unfolding map_written
  written-refused e is = rw (number_is ∙ is)

  module _ (none : map_number g xs ≡ 0) where
    size : length xs ≡ 16384
    size = unequal_number-zero (length xs) 16384 13 (or_else-zero-right (size_number g) _ none)

    all-kept : kept xs ≡ xs
    all-kept = kept-all xs (omega (arith, size))

    halves : halves_of held ≡ xs
    halves = ap (λ (ys : List ℕ). halves_of (pixel_bytes ys)) all-kept ∙ halves_of-bytes_of (length xs) xs refl low

    -- 46592 bytes are enough
    most : length (map_bytes (position_bits g) xs) ≤ 46592
    most = by-test (eqb g 4) (λ t. rw t (bytes_most xs).0) (λ t. rw t (omega (arith, (bytes_most xs).1)))

    written-done : let b = map_bytes (position_bits g) xs in map_written g held m ≡ wrote (length b) b m
    written-done =
        let ok : MapWritable g held = record {
          size = size_number-zero g (or_else-zero-left (size_number g) _ none);
          counts = count_held ∙ ap length all-kept ∙ size;
        } in
        rw halves at (map_written-done g held m ok (rw halves (omega (arith, most))))

-- ---- what that comes to
-- of what a call of `write_map` leaves
abbrev leaves : Outcome Answer → ℕ → Making
leaves o photons = end_of o.answer.number (take o.answer.count o.memory) photons

comes-by : (g : ℕ) (xs m text : List ℕ) → 46592 ≤ length m → text_counts text ≡ counts xs → (n : ℕ) → map_number g xs ≡ n
    → making g text ≡ leaves (map_written g (pixel_bytes (kept xs)) m) (sum (halves_of (pixel_bytes (kept xs))))
unfolding making
comes-by g xs m text room is zero e =
    let low = text-below text xs is in
    let b = map_bytes (position_bits g) xs in
    rw (is, e, written-done g xs m low room e, halves g xs m low room e, take_at b (drop (length b) m) (length b) refl)
comes-by g xs m text room is (suc n) e = rw (is, e, written-refused g xs m (text-below text xs is) room n e)

-- `write_map`, given the counts that are held and the memory m, answered a and left m'
pub record MapAnswered (g : ℕ) (held m : List ℕ) (a : Answer) (m' : List ℕ) : Type 0 where
  pub of : CountsOf held
  pub room : 46592 ≤ length m
  pub left : outcome a m' ≡ map_written g held m
  pub same : length m' ≡ length m

module _ {g : ℕ} {held m : List ℕ} {a : Answer} {m' : List ℕ} (w : MapAnswered g held m a m') where
  converted : Makes g held (end_of a.number (take a.count m') (sum (halves_of held)))
  converted =
      let of = w.of in
      let photons = sum (halves_of held) in
      let comes : making g of.text ≡ leaves (map_written g held m) photons =
      rw of.bytes (comes-by g of.xs m of.text w.room of.counted (map_number g of.xs) refl) in
      record { of = of; comes = comes ∙ sym (ap (λ (o : Outcome Answer). leaves o photons) w.left) }

  -- refused
  no-map : (n : ℕ) (b : List ℕ) (photons : ℕ) → (n ≡ 0 → ⊥) → Makes g held (end_of n b photons)
      → Makes g held (end_of n [] photons)
  no-map zero b photons some c = absurd (some refl)
  no-map (suc n) b photons some c = c

  pub ended-refused : (a.number ≡ 0 → ⊥) → MakingEnded g held a.number 0
  ended-refused some = record {
    map = [];
    size = refl;
    converted = no-map a.number (take a.count m') (sum (halves_of held)) some converted;
  }

  -- done
  module _ (none : a.number ≡ 0) where
    -- its bytes are within the memory
    pub count-within : a.count ≤ length m'
    count-within =
        let (ok, fits) = map_written-got g held m (sym (ap (λ (o : Outcome Answer). o.answer.number) w.left) ∙ none) in
        let count = ap (λ (o : Outcome Answer). o.answer.count) (w.left ∙ map_written-done g held m ok fits) in
        omega (arith, fits, count, w.same)

    pub map_of_lem : MapOf g held (take a.count m')
    map_of_lem = record { photons = sum (halves_of held); converted = rw none at converted }

    pub ended-done : MakingEnded g held 0 a.count
    ended-done = record {
      map = take a.count m';
      size = sym (length-take-le a.count m' count-within);
      converted = rw none at converted;
    }

-- ---- the verdict
pub verdict-refused : (number bytes photons : ℕ) → (number ≡ 0 → ⊥) → making_text number bytes photons ≡ refused_line number
unfolding making_text
verdict-refused zero bytes photons some = absurd (some refl)
verdict-refused (suc e) bytes photons some = refl

pub verdict-done : (number bytes photons : ℕ) → number ≡ 0 → making_text number bytes photons ≡ done_bytes_line bytes photons
unfolding making_text
verdict-done zero bytes photons none = refl
verdict-done (suc e) bytes photons none = absurd (omega arith)

pub verdict-of : {g : ℕ} {held l : List ℕ} (number bytes : ℕ) → MakingEnded g held number bytes
    → l ≡ making_text number bytes (sum (halves_of held)) → VerdictOf g held l
unfolding making_text
verdict-of {g} {held} {l} number bytes ended is =
    record {
      making = end_of number ended.map (sum (halves_of held));
      converted = ended.converted;
      line = is ∙ line-is number;
    }
  where
    line-is : (n : ℕ) → making_text n bytes (sum (halves_of held)) ≡ making_line (end_of n ended.map (sum (halves_of held)))
    line-is zero = rw ended.size
    line-is (suc n) = refl
