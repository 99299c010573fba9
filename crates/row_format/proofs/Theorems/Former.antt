-- Document 02, ticket 5: rows by the packing rule before that ticket are read back, and what the new rule costs beside it.
-- Assumes nothing.
use Rattle.std.specs.Prelude.{ℕ, suc, ◌+◌, ◌*◌, ◌/◌, ◌≤◌, ◌≡◌, refl, Bool, true, false, ◌⊎◌, take, ltb}
use Rattle.std.proofs.Common.{arith, ◌∙◌, inl, inr, length-append, ltb-false}
use Rattle.std.proofs.Math.Path.{sym, ap}
use mathlib.Core.List.{List, [], ◌∷◌, ◌++◌, append-nil}
use Rattle.std.proofs.Math.ListN.{length}
use Rattle.bitstream.specs.Bits.{words_of, halves_of, stream, Below}
use Rattle.answer.specs.Outcome.{Lent, lent}
use Rattle.row_format.specs.Lists.{any}
use Rattle.row_format.specs.Lists.Laws.{by-test, any-false-head, any-false-tail}
use Rattle.row_format.specs.BitLaws.{stream-bytes_of}
use Rattle.row_format.specs.Table.{has_difference, escape_length}
use Rattle.row_format.specs.Table.Laws.{accepted-table}
use Rattle.row_format.specs.Row.{Item, difference, escape, State, fresh, past, previous, difference_to, item_by, item_for, after, item_bits, items_for, pixels_of, bits, row_bits, in_words}
use Rattle.row_format.specs.Row.Laws.{by_difference-past, item_by-true, item_by-false, bits-append}
use Rattle.row_format.specs.Reading.{FitAll, Readable, Reads, read_items}
use Rattle.row_format.proofs.Reading.Laws.{lent-room}
use Rattle.row_format.specs.Calls.{Packable, row_wrote, unpacked}
use Rattle.row_format.specs.FirstHeight.{AllBad, FirstHeight, former_item_for, former_items_for, former_bits, former_bytes}
use Rattle.row_format.proofs.Theorems.Items.{Right, item_by-right, after-height}
use Rattle.row_format.proofs.Theorems.Differences.{pixel_of-difference_to}
use Rattle.row_format.proofs.Theorems.Bounds.{length-item_bits-escape}
use Rattle.row_format.proofs.Theorems.RoundTrip.{read_by-own}
use Rattle.row_format.proofs.Theorems.Words.{below-bits, stray-zeros, bytes_of-halves_of}
use Rattle.row_format.proofs.Theorems.Done.{unpacked-reads}
use Rattle.row_format.proofs.Theorems.FirstRaw.{after-bad, items_for-first, stays-begun}

-- ---- the items by the former rule: after the first height, and before it, as now
former-later : (t : List ℕ) (q p : ℕ) → former_item_for t (past q) p ≡ item_for t (past q) p
unfolding former_item_for item_for
former-later t q p = ap (λ (b : Bool). item_by b (past q) p) (sym (by_difference-past t q p))

former_items_for-later : (t : List ℕ) (q : ℕ) (ps : List ℕ) → former_items_for t (past q) ps ≡ items_for t (past q) ps
unfolding former_items_for items_for
former_items_for-later t q [] = refl
former_items_for-later t q (p ∷ ps) =
    let i = item_for t (past q) p in
    let next = stays-begun q i in
    rw (former-later t q p, next.1) (ap (i ∷◌) (former_items_for-later t next.0 ps))

former-bad : (t : List ℕ) (s : State) (p : ℕ) → (p ≡ 4095) ⊎ (p ≡ 4094) → former_item_for t s p ≡ item_for t s p
unfolding former_item_for item_for
former-bad t s p (inl e) = rw e
former-bad t s p (inr e) = rw e

former_items_for-bad : (t bs ps : List ℕ) → AllBad bs → former_items_for t fresh (bs ++ ps) ≡ items_for t fresh bs ++ former_items_for t fresh ps
unfolding items_for former_items_for
former_items_for-bad t [] ps bad = refl
former_items_for-bad t (b ∷ bs) ps bad =
    rw (former-bad t fresh b bad.0, after-bad t fresh b bad.0) (ap (item_for t fresh b ∷◌) (former_items_for-bad t bs ps bad.1))

-- the first height by its step where the table has it, and else raw as now; either way it becomes previous
module _ (t : List ℕ) (h : ℕ) (most : h ≤ 4093) where
  former-has : has_difference t (difference_to fresh h) ≡ true → former_item_for t fresh h ≡ difference (difference_to fresh h)
  unfolding former_item_for
  former-has e = rw e (item_by-true fresh h most)

  former-lacks : has_difference t (difference_to fresh h) ≡ false → former_item_for t fresh h ≡ escape h
  unfolding former_item_for
  former-lacks e = rw e (item_by-false fresh h most)

  after-former : after fresh (former_item_for t fresh h) ≡ past h
  after-former = by-test (has_difference t (difference_to fresh h))
      (λ e. rw (former-has e) (ap past (pixel_of-difference_to fresh h (omega arith))))
      (λ e. rw (former-lacks e))

  former_items_for-height : (ps : List ℕ) → former_items_for t fresh (h ∷ ps) ≡ former_item_for t fresh h ∷ items_for t (past h) ps
  unfolding former_items_for
  former_items_for-height ps = rw after-former (ap (former_item_for t fresh h ∷◌) (former_items_for-later t h ps))

former_items_for-first : (t ps : List ℕ) (f : FirstHeight ps)
    → former_items_for t fresh ps
    ≡ items_for t fresh f.before ++ (former_item_for t fresh f.height ∷ items_for t (past f.height) f.rest)
former_items_for-first t ps f =
    ap (former_items_for t fresh) f.row
    ∙ former_items_for-bad t f.before (f.height ∷ f.rest) f.bad
    ∙ ap (items_for t fresh f.before ++◌) (former_items_for-height t f.height f.most f.rest)

-- ---- what the new rule costs
-- the bits of some items, of one more and of the rest
bits-around : (t : List ℕ) (is : List Item) (i : Item) (js : List Item)
    → length (bits t (is ++ (i ∷ js))) ≡ length (bits t is) + (length (item_bits t i) + length (bits t js))
unfolding bits
bits-around t is i js =
    ap length (bits-append t is (i ∷ js))
    ∙ length-append (bits t is) (item_bits t i ++ bits t js)
    ∙ ap (length (bits t is) +◌) (length-append (item_bits t i) (bits t js))

module _ (t ps : List ℕ) (f : FirstHeight ps) where
  pub former-longer : has_difference t (difference_to fresh f.height) ≡ true
      → length (row_bits t ps) + length (item_bits t (difference (difference_to fresh f.height)))
      ≡ length (former_bits t ps) + (escape_length t + 12)
  unfolding row_bits former_bits
  former-longer has =
      let front = items_for t fresh f.before in
      let back = items_for t (past f.height) f.rest in
      let step = difference (difference_to fresh f.height) in
      let now = ap (λ (is : List Item). length (bits t is)) (items_for-first t ps f)
      ∙ bits-around t front (escape f.height) back in
      let then = ap (λ (is : List Item). length (bits t is))
      (former_items_for-first t ps f ∙ ap (λ (i : Item). front ++ (i ∷ back)) (former-has t f.height f.most has))
      ∙ bits-around t front step back in
      omega (arith, now, then, length-item_bits-escape t f.height)

  pub former-same : has_difference t (difference_to fresh f.height) ≡ false → row_bits t ps ≡ former_bits t ps
  unfolding row_bits former_bits
  former-same lacks =
      let front = items_for t fresh f.before in
      let back = items_for t (past f.height) f.rest in
      ap (bits t)
      (items_for-first t ps f
      ∙ sym (former_items_for-first t ps f ∙ ap (λ (i : Item). front ++ (i ∷ back)) (former-lacks t f.height f.most lacks)))

former_items_for-none : (t ps : List ℕ) → AllBad ps → former_items_for t fresh ps ≡ items_for t fresh ps
unfolding former_items_for
former_items_for-none t ps bad =
    ap (former_items_for t fresh) (sym (append-nil ps)) ∙ former_items_for-bad t ps [] bad ∙ append-nil (items_for t fresh ps)

pub former-same-bad : (t ps : List ℕ) → AllBad ps → row_bits t ps ≡ former_bits t ps
unfolding row_bits former_bits
former-same-bad t ps bad = ap (bits t) (sym (former_items_for-none t ps bad))

-- ---- read back
former-right : (t : List ℕ) (s : State) (p : ℕ) → previous s ≤ 4093 → p ≤ 4095 → Right t s p (former_item_for t s p)
unfolding former_item_for
former-right t s p height most = item_by-right t (has_difference t (difference_to s p)) s p height most (λ has. has)

-- its items may stand where they stand, and stand for the row's pixels
record FormerRight (t : List ℕ) (s : State) (ps : List ℕ) : Type 0 where
  fits : FitAll t s (former_items_for t s ps)
  pixels : pixels_of s (former_items_for t s ps) ≡ ps

former_items_for-right : (t : List ℕ) (s : State) (ps : List ℕ) → previous s ≤ 4093 → any (ltb 4095) ps ≡ false → FormerRight t s ps
unfolding former_items_for pixels_of
former_items_for-right t s [] h e = record { fits = tt; pixels = refl }
former_items_for-right t s (p ∷ ps) h e =
    let first = former-right t s p h (ltb-false 4095 p (any-false-head (ltb 4095) p ps e)) in
    let height = after-height t s (former_item_for t s p) h first.fits in
    let rest = former_items_for-right t (after s (former_item_for t s p)) ps height (any-false-tail (ltb 4095) p ps e) in
    record { fits = (first.fits, rest.fits); pixels = rw (first.pixel, rest.pixels) }

length-former_items_for : (t : List ℕ) (s : State) (ps : List ℕ) → length (former_items_for t s ps) ≡ length ps
unfolding former_items_for
length-former_items_for t s [] = refl
length-former_items_for t s (p ∷ ps) = ap suc (length-former_items_for t (after s (former_item_for t s p)) ps)

-- items that may stand where they stand, in words whatever follows them, are read
pub fitting-reads : (m : Lent) (tb : List ℕ) (is : List Item) (rest : List ℕ) → Readable m tb (length is)
    → FitAll (words_of tb) fresh is
    → Reads m tb (length is) (in_words (bits (words_of tb) is) ++ rest) is (length (bits (words_of tb) is))
unfolding read_items
fitting-reads m tb is rest ok fits =
    let t = words_of tb in
    let b = bits t is in
    let there = stream-bytes_of b rest (below-bits t is) in
    record {
      given = ok;
      read = rw there (read_by-own t (accepted-table tb ok.table) fresh is _ fits);
      clean = rw there (stray-zeros b (stream rest));
    }

module _ (m : Lent) (tb ps : List ℕ) (ok : Readable m tb (length ps)) (pixels : any (ltb 4095) ps ≡ false) where
  pub former-reads : (rest : List ℕ)
      → Reads m tb (length ps) (former_bytes (words_of tb) ps ++ rest) (former_items_for (words_of tb) fresh ps)
      (length (former_bits (words_of tb) ps))
  unfolding former_bits
  former-reads rest =
      let t = words_of tb in
      let size = length-former_items_for t fresh ps in
      rw size at
      (fitting-reads m tb (former_items_for t fresh ps) rest (rw size ok) (former_items_for-right t fresh ps (omega arith) pixels).fits)

pub former-pixels : (t ps : List ℕ) → any (ltb 4095) ps ≡ false → pixels_of fresh (former_items_for t fresh ps) ≡ ps
former-pixels t ps pixels = (former_items_for-right t fresh ps (omega arith) pixels).pixels

pub former-unpacked : (tb pb rest m : List ℕ) → Below 256 pb → Packable tb (halves_of pb) → length (halves_of pb) ≤ length m / 2
    → unpacked tb (former_bytes (words_of tb) (halves_of pb) ++ rest) (length (halves_of pb)) m
    ≡ row_wrote (length (former_bits (words_of tb) (halves_of pb))) (take (2 * length (halves_of pb)) pb) m
former-unpacked tb pb rest m bytes ok room =
    let t = words_of tb in
    let ps = halves_of pb in
    let asked : Readable (lent (length m)) tb (length ps) =
    record { table = ok.table; few = ok.few; room = lent-room (length m) (length ps) (omega arith) } in
    unpacked-reads tb (former_bytes t ps ++ rest) (length ps) m (former_items_for t fresh ps) (length (former_bits t ps))
    (former-reads (lent (length m)) tb ps asked ok.pixels rest)
    ∙ rw (former-pixels t ps ok.pixels, bytes_of-halves_of pb bytes)
