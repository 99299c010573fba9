-- A row read item by item: what is reached after some of them, and its laws. Assumes nothing.
use Prim.Native.Nat.{ℕ, suc, ◌+◌, ◌-◌, ◌*◌, ◌≤◌, ◌<◌}
use native.Mathlib.Nat.{zero-add, add-zero, add_assoc, sub-zero}
use native.Mathlib.Omega.{arith}
use mathlib.Core.Path.{◌≡◌, refl, sym, ap, ◌∙◌, subst⁻¹}
use mathlib.Core.List.{List, [], ◌++◌, append_assoc, append-nil}
use lib.ListN.{length, take, drop}
use lib.Seq.{drop-drop}
use Rattle.bitstream.specs.Bits.{digits, flat, cut, bytes_of}
use Rattle.bitstream.specs.Bits.Laws.{length_cut}
use Rattle.bitstream.specs.Memory.{overwritten}
use Rattle.bitstream.specs.Memory.Laws.{take-overwritten, length-overwritten}
use Rattle.row_format.specs.Table.{codewords, longest, max_item_bits}
use Rattle.row_format.specs.Table.Laws.{get_d-codewords, length-codeword_at, longest-most}
use Rattle.row_format.specs.Row.{State, fresh, pixel_of, after, pixels_of}
use Rattle.row_format.specs.Row as row
use Rattle.row_format.specs.Reading.{bits_of_reading, Reading, item, fault, Run, done, stop, prepend, follow, read_by, read_item}
use Rattle.row_format.proofs.Theorems.Bounds.{read_item-uses}
use Rattle.row_pixels.specs.Laws.{bytes-cons}
use Rattle.row_item.specs.declared.Progress.{Progress}
use Rattle.row_item.specs.Coded.{coded, progress, Followed, row_state}
use Rattle.row_item.specs.Coded.Laws.{row_state-progress}
use Rattle.row_unpacker.specs.Item.{stopped, numbered, answered}
use Rattle.row_unpacker.specs.Row.{RowReached, whole, halted, row_reached, RowIs}
use Rattle.std.specs.Prelude.{Result, Ok, Err}
use Rattle.row_unpacker.specs.declared.item.Got.{Got}
use Rattle.row_unpacker.specs.declared.item.Fault.{Fault}

-- what a reading reaches after bytes and bits that came before
abbrev pub on : List ℕ → ℕ → RowReached → RowReached
on b at (whole c u) = whole (b ++ c) (at + u)
on b at (halted e p) = halted e (at + p)

-- after i of n items, by any way g of reading one, from the stream r to memory of a size: the next item is at `at`, and the
-- whole reading is what stands in memory and then what is read from there
pub record Partly
    (g : State → List ℕ → Reading) (n : ℕ) (r : List ℕ) (size : ℕ) (out : List ℕ) (at : ℕ) (p : Progress) (i : ℕ) : Type 0 where
  pub within : i ≤ n
  pub kept : length out ≡ size
  pub place : at ≤ 43 * i
  pub state : p ≡ progress (row_state p)
  pub so_far_lem : row_reached n fresh (read_by g fresh n r)
      ≡ on (take (2 * i) out) at (row_reached (n - i) (row_state p) (read_by g (row_state p) (n - i) (drop at r)))

-- ---- one item more
row_reached-prepend : (n : ℕ) (s : State) (i : row.Item) (u : ℕ) (x : Run)
    → row_reached (suc n) s (prepend i u x) ≡ on (bytes_of 2 (digits 16 (pixel_of s i))) u (row_reached n (after s i) x)
unfolding pixels_of
row_reached-prepend n s i u (done is v) = ap (λ (b : List ℕ). whole b (u + v)) (bytes-cons n (pixel_of s i) (pixels_of (after s i) is))
row_reached-prepend n s i u (stop e at v) = refl

on_none : (x : RowReached) → x ≡ on [] 0 x
on_none (whole b u) = rw (zero-add u)
on_none (halted e p) = rw (zero-add p)

on-on : (b c : List ℕ) (at u : ℕ) (x : RowReached) → on b at (on c u x) ≡ on (b ++ c) (at + u) x
on-on b c at u (whole d v) = rw (append_assoc b c d, add_assoc at u v)
on-on b c at u (halted e p) = rw (add_assoc at u p)

-- ---- no item has more than 43 bits, under any table
pub max_item_bits-any : (t : List ℕ) → max_item_bits t ≤ 43
unfolding max_item_bits
max_item_bits-any t =
    let each : longest (codewords t) ≤ 43 =
    longest-most (codewords t) 43 (λ j h. rw (get_d-codewords t j, length-codeword_at t j) (omega arith)) in
    omega arith

pub read_item-most : (t : List ℕ) (s : State) (r : List ℕ) → bits_of_reading (read_item t s r) ≤ 43
read_item-most t s r = omega (arith, read_item-uses t s r, max_item_bits-any t)

-- ---- the loop, by any way of reading an item of at most 43 bits
module _
    (g : State → List ℕ → Reading) (most : (s : State) (r : List ℕ) → bits_of_reading (g s r) ≤ 43)
    (n : ℕ) (r : List ℕ) (size : ℕ) (room : 2 * n ≤ size) where
  pub partly_none : (out : List ℕ) (p : Progress) → length out ≡ size → p ≡ progress fresh → Partly g n r size out 0 p 0
  partly_none out p kept e =
      let s : row_state p ≡ fresh = ap row_state e in
      record {
        within = omega arith;
        kept = kept;
        place = omega arith;
        state = e ∙ ap progress (sym s);
        so_far_lem = rw (s, sub-zero n) (on_none (row_reached n fresh (read_by g fresh n r)));
      }

  ended : (b : List ℕ) (at : ℕ) (s : State) (rest : List ℕ) → on b at (row_reached 0 s (read_by g s 0 rest)) ≡ whole b at
  unfolding read_by pixels_of flat cut
  ended b at s rest = rw (append-nil b, add-zero at)

  module _ (out : List ℕ) (at : ℕ) (p : Progress) (i : ℕ) (q : Partly g n r size out at p i) where
    from : ℕ → Run → RowReached
    from k y = on (take (2 * i) out) at (row_reached k (row_state p) y)

    -- all items were read
    pub partly-all : n ≤ i → RowIs n out (Ok at) (row_reached n fresh (read_by g fresh n r))
    unfolding from
    partly-all h =
        let none : n - i ≡ 0 = omega arith in
        let same : i ≡ n = omega (arith, q.within) in
        let e : row_reached n fresh (read_by g fresh n r) ≡ whole (take (2 * n) out) at =
        q.so_far_lem
        ∙ ap (λ (k : ℕ). from k (read_by g (row_state p) k (drop at r))) none
        ∙ ended (take (2 * i) out) at (row_state p) (drop at r)
        ∙ ap (λ (k : ℕ). whole (take (2 * k) out) at) same in
        subst⁻¹ (RowIs n out (Ok at)) e (refl, refl)

    module _ (h : i < n) (x : Result Got Fault) (is : numbered x ≡ answered (row_state p) at (g (row_state p) (drop at r))) where
      rest_of : row.Item → ℕ → Run
      rest_of j u = read_by g (after (row_state p) j) (n - (i + 1)) (drop u (drop at r))

      -- the reading from here on, by the next item
      by_next : (y : Reading) → g (row_state p) (drop at r) ≡ y
          → row_reached n fresh (read_by g fresh n r) ≡ from (suc (n - (i + 1))) (follow y rest_of)
      unfolding read_by from rest_of
      by_next y e =
          let left : n - i ≡ suc (n - (i + 1)) = omega arith in
          q.so_far_lem
          ∙ ap (λ (k : ℕ). from k (read_by g (row_state p) k (drop at r))) left
          ∙ ap (λ (z : Reading). from (suc (n - (i + 1))) (follow z rest_of)) e

      -- the next item is refused
      pub partly-stop : {f : Fault} {y : Result ℕ Fault} (out' : List ℕ) → x ≡ Err f → y ≡ Err f
          → RowIs n out' y (row_reached n fresh (read_by g fresh n r))
      unfolding from
      partly-stop {f} out' d same_fault = rw same_fault (go (g (row_state p) (drop at r)) refl)
        where
          go : (y : Reading) → g (row_state p) (drop at r) ≡ y
              → RowIs n out' (Err f) (row_reached n fresh (read_by g fresh n r))
          go (item j u) e =
              let other : numbered {A = Got} (Err f) ≡ answered (row_state p) at (item j u) =
              ap numbered (sym d) ∙ is ∙ ap (answered (row_state p) at) e in
              absurd (let z : ◌≡◌ {A = ℕ} 0 1 = cc in omega arith)
          go (fault k u) e =
              let same : numbered {A = Got} (Err f) ≡ Err (stopped k at) = ap numbered (sym d) ∙ is ∙ ap (answered (row_state p) at) e in
              subst⁻¹ (RowIs n out' (Err f)) (by_next (fault k u) e) (cc (add-zero at))

      -- the next item is there
      pub partly_more : (x' : Got) (p' : Progress) (out' : List ℕ) → x ≡ Ok x' → Followed p x'.item x'.pixel p'
          → out' ≡ overwritten out (2 * i) (bytes_of 2 (digits 16 x'.pixel)) → Partly g n r size out' x'.next p' (i + 1)
      unfolding from rest_of
      partly_more x' p' out' d f written =
          subst⁻¹ (λ (l : List ℕ). Partly g n r size l x'.next p' (i + 1)) written
          (go (g (row_state p) (drop at r)) refl (most (row_state p) (drop at r)))
        where
          two : length (bytes_of 2 (digits 16 x'.pixel)) ≡ 2
          two = length_cut 8 2 (digits 16 x'.pixel)

          front : take (2 * (i + 1)) (overwritten out (2 * i) (bytes_of 2 (digits 16 x'.pixel)))
              ≡ take (2 * i) out ++ bytes_of 2 (digits 16 x'.pixel)
          front =
              let e : 2 * (i + 1) ≡ 2 * i + length (bytes_of 2 (digits 16 x'.pixel)) = omega (arith, two) in
              rw e (take-overwritten out (2 * i) (bytes_of 2 (digits 16 x'.pixel)) (omega (arith, q.kept)))

          go : (y : Reading) → g (row_state p) (drop at r) ≡ y → bits_of_reading y ≤ 43
              → Partly g n r size (overwritten out (2 * i) (bytes_of 2 (digits 16 x'.pixel))) x'.next p' (i + 1)
          go (item j u) e few =
              let same : numbered (Ok x') ≡ answered (row_state p) at (item j u) = ap numbered (sym d) ∙ is ∙ ap (answered (row_state p) at) e in
              let what-is : x'.item ≡ coded j = cc in
              let pixel-is : x'.pixel ≡ pixel_of (row_state p) j = cc in
              let next-is : x'.next ≡ at + u = cc in
              let p-is : p' ≡ progress (after (row_state p) j) = f.next (row_state p) j q.state what-is pixel-is in
              let s-is : row_state p' ≡ after (row_state p) j = ap row_state p-is ∙ row_state-progress (after (row_state p) j) in
              record {
                within = omega arith;
                kept = length-overwritten out (2 * i) (bytes_of 2 (digits 16 x'.pixel)) (omega (arith, two, q.kept)) ∙ q.kept;
                place = omega (arith, q.place);
                state = p-is ∙ ap progress (sym s-is);
                so_far_lem =
                    by_next (item j u) e
                    ∙ ap (on (take (2 * i) out) at) (row_reached-prepend (n - (i + 1)) (row_state p) j u (rest_of j u))
                    ∙ on-on (take (2 * i) out) (bytes_of 2 (digits 16 (pixel_of (row_state p) j))) at u
                    (row_reached (n - (i + 1)) (after (row_state p) j) (rest_of j u))
                    ∙ rw (front, ← pixel-is, drop-drop u at r, s-is, next-is);
              }
          go (fault k u) e few =
              let other : numbered (Ok x') ≡ answered (row_state p) at (fault k u) = ap numbered (sym d) ∙ is ∙ ap (answered (row_state p) at) e in
              absurd (let z : ◌≡◌ {A = ℕ} 0 1 = cc in omega arith)
