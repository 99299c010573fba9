-- The laws of one item read at a place. Assumes nothing.
use Prim.Native.Nat.{ℕ, suc, ◌+◌, ◌-◌, ◌/◌, ◌%◌, ◌≤◌, ◌<◌}
use native.Mathlib.Omega.{arith}
use mathlib.Core.Path.{◌≡◌, refl, sym, ap, ◌∙◌, subst}
use mathlib.Core.Bool.{Bool, true, false}
use mathlib.Core.List.{List}
use lib.ListN.{length, take, drop, get_or, length-drop}
use lib.Seq.{drop-drop}
use lib.IntN.{ℤ}
use borrow.Author.Tests.{lt-ltb, le-ltb, lt-leb, le-leb}
use mir.Val.{to_z, of_z}
use mir.Syntax.{w32}
use mir.Facts.{to_z-of_z}
use Rattle.bitstream.specs.Bits.{num_of, words_of, stream}
use Rattle.row_format.specs.Table.{low_limit, codewords, codeword_at, signed_difference}
use Rattle.row_format.specs.Table.Laws.{length-codeword_at, length-codewords}
use Rattle.row_format.specs.Row.{State, previous}
use Rattle.row_format.specs.Reading.{Match, none, found, find, unmatched, raw_height, matched, read_item}
use Rattle.row_format.proofs.Theorems.Search.{Found, find-found}
use Rattle.code_table.specs.Check.Laws.{length-words}
use Rattle.code_table.specs.SignedLaws.{signed-fits}
use Rattle.row_item.specs.declared.Item.TheVariants.{Difference, BadPixel, BadBias, Escape}
use Rattle.row_item.specs.declared.Progress.{Progress}
use Rattle.row_item.specs.Coded.{row_state}
use Rattle.row_unpacker.specs.View.{Seen}
use Rattle.row_unpacker.proofs.view.Laws.{low-window}
use Rattle.row_unpacker.specs.Search.{hit, Finds, CutShort}
use Rattle.row_unpacker.specs.Item.{Stopped, stopped, answered, item_at, found_at, entry_at, HeightAt}
use Rattle.row_unpacker.specs.declared.view.View.{View}
use Rattle.std.specs.Prelude.{Option, Some, None, Result, Ok, Err}
use Rattle.row_unpacker.specs.declared.item.Got.{Got}

-- ---- an escape codeword of n bits at a place of the stream l: what is seen after it is the rest's bits from n on
module _ (l : List ℕ) (at n : ℕ) (v : View) (seen : Seen (drop (at + n) l) v) where
  after-codeword : Seen (drop n (drop at l)) v
  after-codeword = subst (λ (r : List ℕ). Seen r v) (sym (drop-drop n at l)) seen

  height-is : num_of (take 12 (drop n (drop at l))) ≡ v.window % 4096
  height-is = sym (low-window (drop n (drop at l)) v after-codeword 12 (omega arith))

  enough : 12 ≤ v.left → n + 12 ≤ length (drop at l)
  enough h = omega (arith, after-codeword.left, length-drop n (drop at l))

  pub height-short : v.left < 12 → HeightAt (drop at l) at n (Err (stopped 6 at))
  unfolding raw_height
  height-short h = record {
    is = λ s.
        rw (lt-ltb (length (drop at l)) (n + 12) (omega (arith, after-codeword.left, length-drop n (drop at l))));
  }

  pub height-got : 12 ≤ v.left → v.window % 4096 < 4094
      → HeightAt (drop at l) at n (Ok (record { pixel = v.window % 4096; item = Escape (v.window % 4096); next = at + n + 12 }))
  unfolding raw_height
  height-got h small = record {
    is = λ s.
        let next : at + (n + 12) ≡ at + n + 12 = omega arith in
        rw (le-ltb (length (drop at l)) (n + 12) (enough h), height-is, lt-ltb (v.window % 4096) 4094 small, next);
  }

  pub height-bad : 12 ≤ v.left → 4094 ≤ v.window % 4096 → HeightAt (drop at l) at n (Err (stopped 9 at))
  unfolding raw_height
  height-bad h large = record {
    is = λ s.
        rw (le-ltb (length (drop at l)) (n + 12) (enough h), height-is, le-ltb (v.window % 4096) 4094 large);
  }

-- ---- an entry's difference
module _ (t : List ℕ) (s : State) (at i n low prev : ℕ) (low-is : low ≡ low_limit t) (prev-is : prev ≡ previous s) where
  pub entry-below : prev + (i + low) < 4093 → Err (stopped 8 at) ≡ entry_at t s at i n
  unfolding entry_at
  entry-below h = rw (lt-leb 4093 (previous s + (i + low_limit t)) (rw (← prev-is, ← low-is) h))

  module _ (least : 4093 ≤ prev + (i + low)) where
    above : 4093 ≤ previous s + (i + low_limit t)
    above = rw (← prev-is, ← low-is) least

    pub entry-above : 8186 < prev + (i + low) → Err (stopped 8 at) ≡ entry_at t s at i n
    unfolding entry_at
    entry-above h =
        rw (le-leb 4093 (previous s + (i + low_limit t)) above, lt-leb (previous s + (i + low_limit t)) 8186 (rw (← prev-is, ← low-is) h))

    -- the code holds the signed difference z
    pub entry-got : prev + (i + low) ≤ 8186 → (z : ℤ) → z ≡ signed_difference (i + low)
        → Ok (record { pixel = prev + (i + low) - 4093; item = Difference (to_z w32 (of_z w32 z)); next = at + n }) ≡ entry_at t s at i n
    unfolding entry_at
    entry-got h z e =
        let kept : to_z w32 (of_z w32 z) ≡ signed_difference (i + low) = to_z-of_z {w = w32} (rw e (signed-fits (i + low) (omega arith))) ∙ e in
        rw (le-leb 4093 (previous s + (i + low_limit t)) above, le-leb (previous s + (i + low_limit t)) 8186 (rw (← prev-is, ← low-is) h))
        (rw (kept, low-is, prev-is))

-- ---- the codeword at place j, which has the word w
module _ (t : List ℕ) (s : State) (r : List ℕ) (at j w : ℕ) (is : w ≡ get_or t (j + 3) 0) where
  bits_is : w % 32 ≡ length (codeword_at t j)
  bits_is =
      let place : j + 3 ≡ 3 + j = omega arith in
      ap (◌% 32) (is ∙ ap (λ (k : ℕ). get_or t k 0) place) ∙ sym (length-codeword_at t j)

  by_place : (k : ℕ) → j ≡ k → answered s at (matched t s r k (w % 32)) ≡ found_at t s r at j
  unfolding found_at
  by_place k e =
      ap (λ (n : ℕ). answered s at (matched t s r k n)) bits_is
      ∙ ap (λ (i : ℕ). answered s at (matched t s r i (length (codeword_at t j)))) (sym e)

  pub found-escape : j ≡ 0 → (x : Result Got Stopped) → HeightAt r at (w % 32) x → x ≡ found_at t s r at j
  unfolding matched
  found-escape e x h = h.is s ∙ by_place 0 e

  pub found-bad-pixel : j ≡ 1 → Ok (record { pixel = 4095; item = BadPixel; next = at + w % 32 }) ≡ found_at t s r at j
  unfolding matched
  found-bad-pixel e = by_place 1 e

  pub found-bad-bias : j ≡ 2 → Ok (record { pixel = 4094; item = BadBias; next = at + w % 32 }) ≡ found_at t s r at j
  unfolding matched
  found-bad-bias e = by_place 2 e

  pub found-entry : 3 ≤ j → entry_at t s at (j - 3) (w % 32) ≡ found_at t s r at j
  unfolding matched entry_at
  found-entry h = by_place (suc (suc (suc (j - 3)))) (omega arith)

-- ---- the whole item, from what was found
hit-found : (j : ℕ) (m : Match) → Some j ≡ hit m → m ≡ found j
hit-found j none e = cc
hit-found j (found i) e = cc

hit-none : (m : Match) → None ≡ hit m → m ≡ none
hit-none none e = refl
hit-none (found i) e = cc

module _
    (tb wb : List ℕ) (at : ℕ) (p : Progress) (v : View) (seen : Seen (drop at (stream wb)) v)
    (h : Option ℕ) (finds : Finds (words_of tb) v h) where
  module _ (j : ℕ) (e : h ≡ Some j) where
    found-is : find (codewords (words_of tb)) (drop at (stream wb)) ≡ found j
    found-is = hit-found j _ (sym e ∙ finds.is (drop at (stream wb)) seen)

    pub found_within : j + 3 < length tb / 4
    found_within =
        let q : Found (codewords (words_of tb)) (drop at (stream wb)) (found j) =
        subst (Found (codewords (words_of tb)) (drop at (stream wb))) found-is (find-found (codewords (words_of tb)) (drop at (stream wb))) in
        omega (arith, q.0, length-codewords (words_of tb), length-words tb)

    pub read_found : (x : Result Got Stopped) → x ≡ found_at (words_of tb) (row_state p) (drop at (stream wb)) at j → x ≡ item_at tb wb at p
    unfolding item_at found_at read_item
    read_found x q = q ∙ rw found-is

  module _ (e : h ≡ None) (b : Bool) (cut : CutShort (words_of tb) v b) where
    none_is : find (codewords (words_of tb)) (drop at (stream wb)) ≡ none
    none_is = hit-none _ (sym e ∙ finds.is (drop at (stream wb)) seen)

    pub read_short : b ≡ true → Err (stopped 6 at) ≡ item_at tb wb at p
    unfolding item_at read_item unmatched
    read_short d = rw (none_is, sym (cut.is (drop at (stream wb)) seen) ∙ d)

    pub read-unknown : b ≡ false → Err (stopped 7 at) ≡ item_at tb wb at p
    unfolding item_at read_item unmatched
    read-unknown d = rw (none_is, sym (cut.is (drop at (stream wb)) seen) ∙ d)

pub item_at-answered : (tb wb : List ℕ) (at : ℕ) (p : Progress)
    → item_at tb wb at p ≡ answered (row_state p) at (read_item (words_of tb) (row_state p) (drop at (stream wb)))
unfolding item_at
item_at-answered tb wb at p = refl
