-- The lister on its way: the lines of what it has taken, and the lines that come next. Assumes nothing.
use Rattle.std.specs.Prelude.{ℕ, suc, ◌+◌, ◌≡◌, refl, true, take}
use Rattle.std.proofs.Common.{add-one, arith, ◌∙◌, length-append, take_all}
use Rattle.std.proofs.Math.Path.{sym, ap}
use mathlib.Core.List.{List, [], ◌∷◌, ◌++◌, append_assoc}
use Rattle.std.proofs.Math.ListN.{length}
use Rattle.std.proofs.lemmas.List.{take-append-le}
use Rattle.std.proofs.Math.Seq.{take-append-add}
use Rattle.row_format.specs.Lists.Laws.{by-test}
use Rattle.sheet_format.specs.Context.{new_sheet}
use Rattle.sheet_format.specs.Sheet.{SheetRecord, SheetRead, records, sheet_read, row_numbers}
use Rattle.sheet_format.specs.Stream.{held_of, Carried, context_by, next_of, Carries}
use Rattle.sheet_format.proofs.Stream.Laws.{next_of-end}
use Rattle.sheet_format.proofs.Stream.Taken.{put_before, records-append, rows_append, none-context, none-index, none_rows, some-index, carries-ended}
use Rattle.sheet_format.proofs.Theorems.{sheet-end}
use Rattle.sheet_listing.specs.Line.{record_line}
use Rattle.sheet_listing.specs.Listing.{record_lines, last_of, listing}
use Rattle.sheet_listing.specs.Listing.Laws.{listing_from, listing-nothing, listing-some}
use Rattle.sheet_listing.specs.Turns.{Turned, turn_of, turns, NextLine, EndLine}
use Rattle.sheet_listing.specs.Turns.Laws.{turn_for-last, turn_of-held, turns-from}

-- ---- the listing of what was taken and what is to come
record_lines-append : (xs ys : List SheetRecord) → record_lines (xs ++ ys) ≡ record_lines xs ++ record_lines ys
unfolding record_lines
record_lines-append [] ys = refl
record_lines-append (x ∷ xs) ys =
    ap (record_line x ++◌) (record_lines-append xs ys) ∙ sym (append_assoc (record_line x) (record_lines xs) (record_lines ys))

listing-before : (xs : List SheetRecord) (r : SheetRead)
    → listing_from 0 0 (put_before xs r) ≡ record_lines xs ++ listing_from (length xs) (length (row_numbers xs)) r
listing-before xs r =
    let ys = r.records in
    let count : 0 + length (xs ++ r.records) ≡ length xs + length r.records = omega (arith, length-append xs ys) in
    let counted : 0 + length (row_numbers (xs ++ r.records)) ≡ length (row_numbers xs) + length (row_numbers r.records) =
    omega (arith, rows_append xs ys) in
    rw (count, counted, record_lines-append xs ys) (append_assoc (record_lines xs) (record_lines ys) _)

-- nothing is taken yet
module _ {p : Carried} (at : Carries [] p) where
  first-listing : (t : List ℕ) → listing t ≡ turns (length t + 1) p t
  unfolding turns
  first-listing [] = listing-nothing ∙ rw (turn_of-held p [], next_of-end p, none-index at, none_rows at)
  first-listing (y ∷ t) =
      listing-some y t
      ∙ sym (turns-from (length (y ∷ t) + 1) p (y ∷ t) (omega arith) (λ e z. omega (arith, ap length e))
      ∙ rw (none-index at, none_rows at, none-context at))

-- the listing of all that is taken and to come is the lines of what was taken, and then what turns print of the rest
pub carries-listing : (s : List ℕ) {p : Carried} → Carries s p → (t : List ℕ)
    → listing (s ++ t) ≡ record_lines (records new_sheet s).records ++ turns (length t + 1) p t
unfolding record_lines
carries-listing [] {p} at t = rw (sheet-end new_sheet) (first-listing at t)
carries-listing (x ∷ r) {p} at t =
    let xs = (records new_sheet (x ∷ r)).records in
    listing-some x (r ++ t)
    ∙ ap (listing_from 0 0) (records-append at.reached t)
    ∙ listing-before xs (records (context_by p) t)
    ∙ ap (record_lines xs ++◌)
    (sym (turns-from (length t + 1) p t (omega arith) (λ e. some-index at) ∙ rw (at.index, at.rows)))

-- so it begins with those lines and the next one
begins : (l : List ℕ) {m : List ℕ} (t : List ℕ) → m ≡ l ++ t → take (length l) m ≡ l
begins l t e = rw e (take-append-le (length l) l t (omega arith) ∙ take_all (length l) l (omega arith))

turns-line : (n : ℕ) (p : Carried) (t : List ℕ) → take (length (turn_of p (held_of t)).line) (turns (suc n) p t) ≡ (turn_of p (held_of t)).line
unfolding turns
turns-line n p t =
    let line = (turn_of p (held_of t)).line in
    by-test (turn_of p (held_of t)).last
    (λ e. rw e (take_all (length line) line (omega arith)))
    (λ e. rw e (begins line _ refl))

pub next-line : {b l : List ℕ} (x : NextLine b l) (t : List ℕ) → held_of t ≡ b
    → let front = record_lines (records new_sheet x.taken).records in
    take (length (front ++ l)) (listing (x.taken ++ t)) ≡ front ++ l
next-line {b} {l} x t same =
    let front = record_lines (records new_sheet x.taken).records in
    let line : l ≡ (turn_of x.carried (held_of t)).line = x.line ∙ rw same in
    let rest = turns (length t + 1) x.carried t in
    rw (carries-listing x.taken x.carries t, length-append front l, take-append-add front rest (length l), line, add-one (length t))
    (ap (front ++◌) (turns-line (length t) x.carried t))

-- ---- the last line
-- it is that of the listing of all that was taken
end_is : {s : List ℕ} {p : Carried} → Carries s p → (b : List ℕ) → (turn_of p b).last ≡ true
    → (turn_of p b).line ≡ last_of (sheet_read (s ++ b))
end_is {s} {p} at b last =
    turn_for-last p (next_of p b) last ((turn_of p b).line ≡ last_of (sheet_read (s ++ b)))
    (λ e bit is turn. ap (λ (t : Turned). t.line) turn ∙ rw (carries-ended at b is, at.index, at.rows))

pub end_line : {l s : List ℕ} {p : Carried} → Carries s p → (b : List ℕ) → b ≡ held_of b → l ≡ (turn_of p b).line
    → (turn_of p b).last ≡ true → EndLine b l
end_line {l} {s} {p} at b held line last =
    record {
      next = record { taken = s; carried = p; carries = at; held = held; line = line };
      last = line ∙ end_is at b last;
    }
