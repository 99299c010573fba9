-- Document 01: "The used words of an accepted reading are the very words packing would write exactly when no raw item was
-- needless", as document 02, ticket 5, amends it: when no item departs. Assumes nothing.
use Prim.Native.Nat.{ℕ, ◌+◌, ◌-◌, ◌*◌, ◌≤◌}
use native.Mathlib.Omega.{arith}
use Rattle.std.specs.Prelude.{◌≡◌, false, ◌↔◌, eqb}
use Rattle.std.proofs.Math.Path.{refl, sym, ap}
use Rattle.std.proofs.Common.{◌∙◌, length-append}
use mathlib.Core.List.{List, [], ◌∷◌, ◌++◌}
use Rattle.std.proofs.Math.ListN.{length, take, drop, replicate, length-drop}
use Rattle.std.proofs.Math.Seq.{length-take-le, take-append-add}
use Rattle.std.proofs.lemmas.Bool.{eqb-false}
use Rattle.bitstream.specs.Bits.{flat, bits_of, bytes_of, words_of, stream, words_for, Below}
use Rattle.bitstream.specs.Bits.Laws.{below-head, below-tail, below-take, below-drop, below-flat, below-cut, length_cut}
use Rattle.row_format.specs.Lists.{any}
use Rattle.row_format.specs.Lists.Laws.{any-false-head, any-false-tail}
use Rattle.row_format.specs.BitLaws.{bits_of-inj, bits_of-bytes_of, stream-take, length-stream}
use Rattle.row_format.specs.Table.{Accepted}
use Rattle.row_format.specs.Table.Laws.{accepted-table}
use Rattle.row_format.specs.Row.{Item, fresh, items_for, pixels_of, bits, row_bits, row_bytes}
use Rattle.row_format.specs.Reading.{done, read_items, stray, any_departs}
use Rattle.row_format.specs.Calls.{packed, unpacked, Accepts}
use Rattle.row_format.proofs.Calls.Laws.{packed-number, packed-front}
use Rattle.row_format.proofs.Theorems.Items.{any-pixels_of}
use Rattle.row_format.proofs.Theorems.Done.{pixels-left}
use Rattle.row_format.proofs.Theorems.Departures.{items_for-pixels_of, any_departs-items_for}
use Rattle.row_format.proofs.Theorems.RoundTrip.{read_by-own, read_items-row_bits}
use Rattle.row_format.specs.Row.Laws.{length-pixels_of}
use Rattle.row_format.proofs.Theorems.Words.{below-bits, below-row_bits}
use Rattle.row_format.proofs.Theorems.Standing.{RunStands, read_items-stands}

-- ---- words
-- bits none of which is 1
any-false-zeros : (b : List ℕ) → Below 2 b → any (eqb 1) b ≡ false → b ≡ replicate (length b) 0
any-false-zeros [] bin e = refl
any-false-zeros (x ∷ b) bin e =
    let off : x ≡ 0 = omega (arith, below-head bin, eqb-false 1 x (any-false-head (eqb 1) x b e)) in
    rw off (ap (0 ∷◌) (any-false-zeros b (below-tail bin) (any-false-tail (eqb 1) x b e)))

-- the used words of a stream that has the bits b in front and no stray bit hold b and then zeros
module _ (b wb : List ℕ) (u : ℕ) (size : u ≡ length b) (there : stream wb ≡ b ++ drop u (stream wb)) where
  length-used : 4 * words_for u ≤ length wb
  length-used = omega (arith, ap length there, length-append b (drop u (stream wb)), length-stream wb)

  used-words : stray u (stream wb) ≡ false → bits_of (take (4 * words_for u) wb) ≡ b ++ replicate (32 * words_for u - u) 0
  unfolding stray
  used-words e =
      let rest = drop u (stream wb) in
      let k = 32 * words_for u - u in
      let room : 32 * words_for u - u ≤ length (drop u (stream wb)) =
      omega (arith, length-used, length-drop u (stream wb), length-stream wb) in
      let whole : 32 * words_for u ≡ length b + (32 * words_for u - u) = omega arith in
      let zeros : take k rest ≡ replicate k 0 =
      any-false-zeros (take k rest) (below-take k rest (below-drop u (stream wb) (below-flat 8 _))) e
      ∙ ap (λ (n : ℕ). replicate n 0) (length-take-le k rest room) in
      sym (stream-take wb (words_for u) length-used)
      ∙ ap (λ (n : ℕ). take n (stream wb)) whole
      ∙ ap (take (length b + k)) there
      ∙ take-append-add b rest k
      ∙ ap (b ++◌) zeros

-- ---- the theorem, of a reading of n items from the words wb that was accepted
module _ (t : List ℕ) (ok : Accepted t) (wb : List ℕ) (bytes : Below 256 wb) (n : ℕ) (is : List Item) (u : ℕ)
    (read : read_items t n (stream wb) ≡ done is u) (clean : stray u (stream wb) ≡ false) where
  stands : RunStands t fresh n (stream wb) is u
  stands = read_items-stands t ok n (stream wb) is u (below-flat 8 _) read

  used-bits : bits_of (take (4 * words_for u) wb) ≡ bits t is ++ replicate (32 * words_for u - u) 0
  used-bits = used-words (bits t is) wb u stands.front.size stands.front.there clean

  -- none departs: packing gives the items that were read
  own : any_departs t fresh is ≡ false → take (4 * words_for u) wb ≡ row_bytes t (pixels_of fresh is)
  unfolding row_bits
  own e =
      let b = bits t is in
      let k = 4 * words_for u in
      let size = stands.front.size in
      let items : items_for t fresh (pixels_of fresh is) ≡ is = items_for-pixels_of t fresh is (omega arith) stands.fits e in
      let whole = length-take-le k wb (length-used b wb u size stands.front.there) in
      let same = used-bits ∙ sym (bits_of-bytes_of b u size (below-bits t is)) in
      rw (items, ← size)
      (bits_of-inj k (take k wb) (bytes_of k b) (below-take k wb bytes) (below-cut 8 k b (below-bits t is))
      whole (length_cut 8 k b) same)

  -- own words: they are read both as the items and as those that packing gives
  none-departs : take (4 * words_for u) wb ≡ row_bytes t (pixels_of fresh is) → any_departs t fresh is ≡ false
  unfolding read_items
  none-departs e =
      let ps = pixels_of fresh is in
      let b' = row_bits t ps in
      let zeros : List ℕ = replicate (32 * words_for u - u) 0 in
      let zeros' : List ℕ = replicate (32 * words_for (length b') - length b') 0 in
      let same : bits t is ++ zeros ≡ b' ++ zeros' =
      sym used-bits ∙ ap (flat 8) e ∙ bits_of-bytes_of b' (length b') refl (below-row_bits t ps) in
      let as_read = read_by-own t ok fresh is zeros stands.fits in
      let as-packed = read_items-row_bits t ok ps zeros' (any-pixels_of t fresh is stands.fits) in
      let size = length-pixels_of fresh is in
      let items : is ≡ items_for t fresh ps = cc in
      rw items (any_departs-items_for t fresh ps (omega arith) (any-pixels_of t fresh is stands.fits))

  pub own-words : (take (4 * words_for u) wb ≡ row_bytes t (pixels_of fresh is)) ↔ (any_departs t fresh is ≡ false)
  own-words = (none-departs, own)

-- ---- the same of the calls: a done unpacking, and a packing of the pixels that it left
module _ (tb wb : List ℕ) (n : ℕ) (m : List ℕ) (bytes : Below 256 wb) (got : Accepts tb wb n m) where
  pub own-words-packed : (mw : List ℕ)
      → let pb = take (2 * n) (unpacked tb wb n m).memory in
      (packed tb pb mw).answer.number ≡ 0
      → (take (4 * words_for (unpacked tb wb n m).answer.count) wb
      ≡ take (4 * words_for (packed tb pb mw).answer.count) (packed tb pb mw).memory)
      ↔ (any_departs (words_of tb) fresh got.items ≡ false)
  own-words-packed mw e =
      let pb = take (2 * n) (unpacked tb wb n m).memory in
      let packs = sym (packed-number tb pb mw) ∙ e in
      let reads = got.reads in
      rw (packed-front tb pb mw packs, pixels-left tb wb n m got, got.left)
      (own-words (words_of tb) (accepted-table tb reads.given.table) wb bytes n got.items got.used reads.read reads.clean)
