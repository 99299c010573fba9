-- What the call that gives blocks of lines answers. Assumes nothing.
use Rattle.std.specs.Prelude.{ℕ, zero, suc, ◌+◌, ◌-◌, ◌≤◌, ◌<◌, ◌≡◌, ◌↔◌, List, [], ◌∷◌, drop, get_or, leb, ltb}
use Rattle.std.proofs.Common.{arith, sym, ◌∙◌, length-drop, get_or-drop, leb-true, ltb-true, ltb-false}
use Rattle.std.proofs.Math.Path.{refl}
use Rattle.std.proofs.Math.ListN.{length, take}
use Rattle.std.proofs.Math.Seq.{take-append_seam}
use Rattle.bitstream.specs.Bits.{words_of}
use Rattle.answer.specs.Outcome.{Outcome, outcome, ◌or_else◌, lent, Kept, Within}
use Rattle.answer.specs.Outcome.Laws.{
  refuse_if-given,
  less_number-zero,
  less_number-none,
  less_number-given,
  or_else-zero-left,
  unless-first,
  unless-in,
  unless-number,
  unless-kept,
  writes-within,
  or_else-in,
  room_number-in,
}
use Rattle.row_format.specs.Lists.Laws.{by-test}
use Rattle.row_format.specs.Table.{table_number}
use Rattle.row_format.proofs.Theorems.Numbers.{table_number-in}
use Rattle.table_listing.specs.Listed.{ListedLines}
use Rattle.table_listing.specs.Listing.{
  string_lines,
  lines,
  joined,
  fitting,
  next_number,
  no_lines,
  lines_put,
  block_of,
  lines_from,
  block,
}
use Rattle.table_listing.specs.Listing.Laws.{lines-accepted}
use Rattle.table_listing.specs.Listing.Blocks.{table_number-most, strings-most, fitting-some, fitting-within, fitting-room}

-- ---- 5 where the next line does not fit
pub next-not : (room : ℕ) (l : List ℕ) (ls : List (List ℕ)) → room < length l → next_number (l ∷ ls) room ≡ 5
unfolding next_number
next-not room l ls h = less_number-given room (length l) 5 h

pub next_fits : (room : ℕ) (ls : List (List ℕ)) → 1 ≤ fitting room ls → next_number ls room ≡ 0
unfolding next_number fitting
next_fits room [] h = refl
next_fits room (l ∷ ls) h =
    by-test (leb (length l) room)
    (λ e. less_number-none room (length l) 5 (leb-true (length l) room e))
    (λ e. let none : 1 ≤ 0 = rw e at h in absurd (omega arith))

-- all lines fit
pub next-all : (room : ℕ) (ls : List (List ℕ)) → length ls ≤ fitting room ls → next_number ls room ≡ 0
next-all room [] h = unfold next_number in refl
next-all room (l ∷ ls) h = next_fits room (l ∷ ls) (omega arith)

next-short : (room : ℕ) (ls : List (List ℕ)) → 0 < length ls → room < length (get_or ls 0 []) → next_number ls room ≡ 5
next-short room [] h g = absurd (omega arith)
next-short room (l ∷ ls) h g = next-not room l ls g

-- and the other way round
next-five : (room : ℕ) (ls : List (List ℕ)) → next_number ls room ≡ 5 → (0 < length ls) × (room < length (get_or ls 0 []))
unfolding next_number
next-five room [] e = absurd (omega arith)
next-five room (l ∷ ls) e = (omega arith, ltb-true room (length l) (refuse_if-given (ltb room (length l)) 4 e))

next-zero : (room : ℕ) (ls : List (List ℕ)) → next_number ls room ≡ 0 → fitting room ls ≡ 0 → length ls ≡ 0
unfolding next_number
next-zero room [] e none = refl
next-zero room (l ∷ ls) e none =
    absurd (omega (arith, fitting-some room (l ∷ ls) (omega arith) (less_number-zero room (length l) 4 e)))

next-in : (P : ℕ → Type 0) (room : ℕ) (ls : List (List ℕ)) → P 0 → P 5 → P (next_number ls room)
unfolding next_number
next-in P room [] p0 p5 = p0
next-in P room (l ∷ ls) p0 p5 = room_number-in P (lent room) (length l) p0 p5

-- ---- what a call comes to
pub block_of-refused : (e : ℕ) (ls : List (List ℕ)) (m : List ℕ) → block_of (suc e) ls m ≡ outcome (no_lines (suc e)) m
unfolding block_of
block_of-refused e ls m = refl

pub block_of-done : (ls : List (List ℕ)) (m : List ℕ) → block_of 0 ls m ≡ lines_put (fitting (length m) ls) ls m
unfolding block_of
block_of-done ls m = refl

-- by the table's number
pub block_refused : (b : List ℕ) (first : ℕ) (m : List ℕ) → (table_number b ≡ 0 → ⊥)
    → block b first m ≡ outcome (no_lines (table_number b)) m
unfolding block block_of
block_refused b first m some =
    unless-first (table_number b) (next_number (lines_from b first) (length m)) (λ k. outcome (no_lines k) m)
    (lines_put (fitting (length m) (lines_from b first)) (lines_from b first) m) some

pub block-accepted : (b : List ℕ) (first : ℕ) (m : List ℕ) → table_number b ≡ 0
    → block b first m ≡ block_of (next_number (lines_from b first) (length m)) (lines_from b first) m
unfolding block
block-accepted b first m ok = rw ok

-- ---- its number, its memory and its text
module _ (b : List ℕ) (first : ℕ) (m : List ℕ) where
  abbrev next : ℕ
  next = next_number (lines_from b first) (length m)

  abbrev most : ℕ
  most = fitting (length m) (lines_from b first)

  abbrev done : Outcome ListedLines
  done = lines_put most (lines_from b first) m

  pub block-number : (block b first m).answer.number ≡ table_number b or_else next
  unfolding block block_of
  block-number =
      unless-number (λ (o : Outcome ListedLines). o.answer.number) (λ k. outcome (no_lines k) m) done (λ k. refl)
      (table_number b or_else next) refl

  pub block_in : (P : ℕ → Type 0) → P 0 → P 1 → P 2 → P 3 → P 5 → P (block b first m).answer.number
  block_in P p0 p1 p2 p3 p5 =
      rw block-number
      (or_else-in P (table_number b) next (table_number-in P b p0 p1 p2 p3) (next-in P (length m) (lines_from b first) p0 p5))

  pub block-kept : ((block b first m).answer.number ≡ 0 → ⊥) → Kept (no_lines (block b first m).answer.number) m (block b first m)
  unfolding block block_of
  block-kept =
      unless-kept no_lines m done (λ (a : ListedLines). a.number) (λ k. refl) (table_number b or_else next) (λ some. absurd (some refl))

  pub block_within : Within (block b first m).answer.bytes m (block b first m)
  unfolding block block_of
  block_within =
      let text = joined (take most (lines_from b first)) in
      unless-in (λ (o : Outcome ListedLines). Within o.answer.bytes m o) (table_number b or_else next) (λ k. outcome (no_lines k) m) done
      (λ k e. record { size = refl; rest = refl })
      (λ e. writes-within done.answer (length text) text m refl (fitting-room (length m) (lines_from b first)))

  pub block-bytes : (block b first m).answer.bytes ≤ length m
  unfolding block block_of
  block-bytes =
      unless-in (λ (o : Outcome ListedLines). o.answer.bytes ≤ length m) (table_number b or_else next) (λ k. outcome (no_lines k) m) done
      (λ k e. omega arith) (λ e. fitting-room (length m) (lines_from b first))

  pub block-text : take (block b first m).answer.bytes (block b first m).memory
      ≡ joined (take (block b first m).answer.lines (drop first (lines b)))
  unfolding block block_of joined
  block-text =
      let text = joined (take most (lines_from b first)) in
      unless-in (λ (o : Outcome ListedLines). take o.answer.bytes o.memory ≡ joined (take o.answer.lines (drop first (lines b))))
      (table_number b or_else next) (λ k. outcome (no_lines k) m) done
      (λ k e. refl)
      (λ e. rw (lines-accepted b (or_else-zero-left (table_number b) next e)) (take-append_seam text (drop (length text) m)))

-- ---- of an accepted table
module _ (b : List ℕ) (first : ℕ) (m : List ℕ) (ok : table_number b ≡ 0) where
  accepted-number : (block b first m).answer.number ≡ next_number (lines_from b first) (length m)
  accepted-number = block-number b first m ∙ rw ok

  accepted-lines : (block b first m).answer.number ≡ 0 → (block b first m).answer.lines ≡ fitting (length m) (lines_from b first)
  accepted-lines e =
      let none = sym accepted-number ∙ e in
      rw (block-accepted b first m ok, none, block_of-done (lines_from b first) m)

  left_over : length (lines_from b first) ≡ length (lines b) - first
  left_over = rw (lines-accepted b ok) (length-drop first (string_lines (words_of b)))

  -- the next line
  next-line : get_or (lines_from b first) 0 [] ≡ get_or (lines b) first []
  next-line =
      let there : first + 0 ≡ first = omega arith in
      rw (lines-accepted b ok) (get_or-drop first (string_lines (words_of b)) 0 [] ∙ rw there)

  -- 5 exactly where it does not fit
  pub accepted-five : ((block b first m).answer.number ≡ 5) ↔ ((first < length (lines b)) × (length m < length (get_or (lines b) first [])))
  accepted-five = (there, back)
    where
      there : (block b first m).answer.number ≡ 5 → (first < length (lines b)) × (length m < length (get_or (lines b) first []))
      there e =
          let short = next-five (length m) (lines_from b first) (sym accepted-number ∙ e) in
          (omega (arith, left_over), rw (← next-line) short.1)

      back : (first < length (lines b)) × (length m < length (get_or (lines b) first [])) → (block b first m).answer.number ≡ 5
      back h =
          accepted-number
          ∙ next-short (length m) (lines_from b first) (omega (arith, left_over)) (rw next-line h.1)

  -- no lines and 0 exactly at the listing's end
  pub accepted-ended : (((block b first m).answer.number ≡ 0) × ((block b first m).answer.lines ≡ 0)) ↔ (length (lines b) ≤ first)
  accepted-ended = (there, back)
    where
      there : ((block b first m).answer.number ≡ 0) × ((block b first m).answer.lines ≡ 0) → length (lines b) ≤ first
      there e =
          let none = next-zero (length m) (lines_from b first) (sym accepted-number ∙ e.0) (sym (accepted-lines e.0) ∙ e.1) in
          omega (arith, left_over)

      back : length (lines b) ≤ first → ((block b first m).answer.number ≡ 0) × ((block b first m).answer.lines ≡ 0)
      back h =
          let empty : length (lines_from b first) ≤ 0 = omega (arith, left_over) in
          let number = accepted-number ∙ next-all (length m) (lines_from b first) (omega arith) in
          (number, omega (arith, accepted-lines number, fitting-within (length m) (lines_from b first)))

  -- with room for 128 bytes there is a line where the listing has one
  pub accepted-some : 128 ≤ length m → first < length (lines b)
      → ((block b first m).answer.number ≡ 0) × (1 ≤ (block b first m).answer.lines)
  accepted-some room h =
      let short : length (get_or (lines_from b first) 0 []) ≤ 128 = rw (next-line, lines-accepted b ok) (strings-most b ok first) in
      let some = fitting-some (length m) (lines_from b first) (omega (arith, left_over)) (omega arith) in
      let number = accepted-number ∙ next_fits (length m) (lines_from b first) some in
      (number, omega (arith, accepted-lines number))

  pub accepted-within : first ≤ length (lines b) → (block b first m).answer.number ≡ 0
      → first + (block b first m).answer.lines ≤ length (lines b)
  accepted-within h e = omega (arith, accepted-lines e, fitting-within (length m) (lines_from b first), left_over)

-- ---- with room for 128 bytes the number is the table's
pub block_room : (b : List ℕ) (first : ℕ) (m : List ℕ) → 128 ≤ length m → (block b first m).answer.number ≡ table_number b
block_room b first m room = go (table_number b) refl
  where
    go : (e : ℕ) → table_number b ≡ e → (block b first m).answer.number ≡ e
    go zero ok =
        by-test (ltb first (length (lines b)))
        (λ t. (accepted-some b first m ok room (ltb-true first (length (lines b)) t)).0)
        (λ t. ((accepted-ended b first m ok).1 (ltb-false first (length (lines b)) t)).0)
    go (suc e) is = rw (block_refused b first m (λ z. omega arith), is)

-- 5 is given for accepted tables alone
pub block-five : (b : List ℕ) (first : ℕ) (m : List ℕ)
    → ((block b first m).answer.number ≡ 5)
    ↔ ((table_number b ≡ 0) × (first < length (lines b)) × (length m < length (get_or (lines b) first [])))
block-five b first m = (there, λ h. (accepted-five b first m h.0).1 (h.1, h.2))
  where
    there : (block b first m).answer.number ≡ 5
        → (table_number b ≡ 0) × (first < length (lines b)) × (length m < length (get_or (lines b) first []))
    there e = go (table_number b) refl
      where
        go : (n : ℕ) → table_number b ≡ n → (table_number b ≡ 0) × (first < length (lines b)) × (length m < length (get_or (lines b) first []))
        go zero ok = let h = (accepted-five b first m ok).0 e in (ok, h.0, h.1)
        go (suc n) is =
            let number : (block b first m).answer.number ≡ suc n = rw (block_refused b first m (λ z. omega arith), is) in
            absurd (omega (arith, table_number-most b))
