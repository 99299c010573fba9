-- On the way through a sheet: what is carried after the bytes that were taken, and what the sheet comes to with those that are
-- held. Assumes nothing.
use Rattle.std.specs.Prelude.{ℕ, ◌+◌, ◌≤◌, ◌<◌, ◌≡◌, refl, List, [], ◌∷◌, ◌++◌, length, take, drop}
use Rattle.std.proofs.Common.{arith, sym, ap, ◌∙◌, append_assoc, append-nil, length-append, length-take, take-append-drop, drop_of_length-le, ne_eqb}
use Rattle.std.proofs.lemmas.List.{take-append-le, drop-append-le}
use Rattle.row_format.specs.Lists.Laws.{true-false}
use Rattle.sheet_format.specs.Context.{Context, new_sheet}
use Rattle.sheet_format.specs.Record.{length_field, record_span}
use Rattle.sheet_format.specs.Reading.{context_after, record_judged}
use Rattle.sheet_format.specs.Reading.Laws.{judged-length, judged-read}
use Rattle.sheet_format.specs.Sheet.{SheetRecord, SheetRead, Reaches, there, onward, ends_with, put_first, record_here, rest_next}
use Rattle.sheet_format.specs.Sheet.{records, sheet_read, record_holds, stored_rows, row_of, row_numbers}
use Rattle.sheet_format.specs.Sheet.Laws.{records-end, records-refused, records-more}
use Rattle.sheet_format.specs.Stream.{held_of, rows_of, Carried, carried_first, context_by, carried_next}
use Rattle.sheet_format.specs.Stream.{Next, ended, more, end_number, next_of, Carries}
use Rattle.sheet_format.proofs.Stream.Laws.{goes_on, next_of-cases, context-next, length-with_row, length-row_numbers}
use Rattle.sheet_format.proofs.Theorems.Locality.{Alike, alike, record_judged-alike, record_content-alike, context_after-alike, span-whole}

-- ---- an accepted record, with more bytes behind it
module _ (c : Context) (s t : List ℕ) (ok : (record_judged c s).number ≡ 0) where
  same-fields : Alike s (s ++ t)
  same-fields =
      let size = 4 + length_field s in
      let split : s ++ t ≡ take size s ++ (drop size s ++ t) =
      ap (◌++ t) (sym (take-append-drop size s)) ∙ append_assoc (take size s) (drop size s) t in
      rw split (alike s (drop size s ++ t) (judged-read c s ok).size)

  judged-append : record_judged c (s ++ t) ≡ record_judged c s
  judged-append = record_judged-alike s (s ++ t) same-fields c

  after-append : context_after c (s ++ t) ≡ context_after c s
  after-append = context_after-alike s (s ++ t) same-fields c

  rest-append : rest_next c (s ++ t) ≡ rest_next c s ++ t
  rest-append = rw judged-append (drop-append-le (record_judged c s).length s t (judged-length c s ok).2)

  here-append : record_here c (s ++ t) ≡ record_here c s
  here-append =
      let content = record_content-alike s (s ++ t) same-fields c in
      rw (judged-append, content, take-append-le (record_judged c s).length s t (judged-length c s ok).2)

-- ---- reading on
reaches-append : {d : Context} {p : List ℕ} {c : Context} {s : List ℕ} → Reaches d p c s → (t : List ℕ) → Reaches d (p ++ t) c (s ++ t)
reaches-append there t = there
reaches-append (onward {c} {r} ok rest) t =
    onward {c = c} {r = r ++ t} (rw (judged-append c r t ok) ok)
    (rw (after-append c r t ok, rest-append c r t ok) (reaches-append rest t))

reaches-next : {d : Context} {p : List ℕ} {c : Context} {s : List ℕ} → Reaches d p c s → (record_judged d p).number ≡ 0
    → Reaches (context_after d p) (rest_next d p) c s
reaches-next there ok = onward ok there
reaches-next (onward o rest) ok = onward o (reaches-next rest ok)

-- some records, and then those of a sheet
abbrev pub put_before : List SheetRecord → SheetRead → SheetRead
put_before xs r = record { records = xs ++ r.records; number = r.number; place = r.place }

pub records-here : (c : Context) (r : List ℕ) → (record_judged c r).number ≡ 0
    → records c r ≡ put_first (record_here c r) (records (context_after c r) (rest_next c r))
records-here c [] ok = absurd (omega (arith, judged-length c [] ok))
records-here c (x ∷ r) ok = records-more c x r ok

pub records-append : {d c : Context} {s : List ℕ} → Reaches d [] c s → (t : List ℕ)
    → records c (s ++ t) ≡ put_before (records c s).records (records d t)
records-append {d} there t = rw (records-end d)
records-append {d} (onward {c} {r} ok rest) t =
    let ih = records-append rest t in
    records-here c (r ++ t) (rw (judged-append c r t ok) ok)
    ∙ rw (after-append c r t ok, rest-append c r t ok, here-append c r t ok, ih, records-here c r ok)

reaches-none : {d c : Context} {s : List ℕ} → Reaches d [] c s → length s ≡ 0 → d ≡ c
reaches-none there none = refl
reaches-none (onward {c} {r} ok rest) none = absurd (omega (arith, judged-length c r ok))

reaches_some : {d c : Context} {s : List ℕ} → Reaches d [] c s → 0 < length s → 0 < length (records c s).records
reaches_some there some = absurd (omega arith)
reaches_some (onward {c} {r} ok rest) some = rw (records-here c r ok) (omega arith)

-- ---- how many rows there are among records, one list after another
stored-append : (xs ys : List SheetRecord) → length (stored_rows (xs ++ ys)) ≡ length (stored_rows xs) + length (stored_rows ys)
unfolding stored_rows
stored-append [] ys = omega arith
stored-append (x ∷ xs) ys =
    let front = length-with_row (record_holds x) (row_of x) (stored_rows xs) in
    omega (arith, stored-append xs ys, front, length-with_row (record_holds x) (row_of x) (stored_rows (xs ++ ys)))

pub rows_append : (xs ys : List SheetRecord) → length (row_numbers (xs ++ ys)) ≡ length (row_numbers xs) + length (row_numbers ys)
rows_append xs ys =
    omega (arith, stored-append xs ys, length-row_numbers (xs ++ ys), length-row_numbers xs, length-row_numbers ys)

rows-of : (x : SheetRecord) → length (row_numbers (x ∷ [])) ≡ rows_of (record_holds x)
unfolding stored_rows
rows-of x = omega (arith, length-row_numbers (x ∷ []), length-with_row (record_holds x) (row_of x) [])

-- ---- what is carried, at the start and behind an accepted record
pub carries-none : Carries [] carried_first
carries-none = record { reached = there; index = rw (records-end new_sheet); rows = unfold stored_rows in rw (records-end new_sheet) }

module _ {s : List ℕ} {p : Carried} (at : Carries s p) (b : List ℕ) (held : b ≡ held_of b)
    (ok : (record_judged (context_by p) b).number ≡ 0) where
  all-taken : rest_next (context_by p) b ≡ []
  all-taken =
      let size = ap length held ∙ length-take (record_span b) b in
      let whole : length b ≤ (record_judged (context_by p) b).length = omega (arith, span-whole b (context_by p) ok) in
      drop_of_length-le b whole

  -- the record is one more
  pub carries-records : (records new_sheet (s ++ b)).records ≡ (records new_sheet s).records ++ (record_here (context_by p) b ∷ [])
  carries-records =
      let last : records (context_by p) b ≡ put_first (record_here (context_by p) b) (ends_with 0 0) =
      records-here (context_by p) b ok ∙ rw (all-taken, records-end (context_after (context_by p) b)) in
      rw (records-append at.reached b, last)

  pub carries-more : Carries (s ++ b) (carried_next p b (record_judged (context_by p) b))
  carries-more =
      let xs = (records new_sheet s).records in
      let x = record_here (context_by p) b in
      record {
        reached =
            rw (← context-next p b ok, ← all-taken) (reaches-next (reaches-append at.reached b) ok);
        index = rw carries-records (omega (arith, length-append xs (x ∷ []), at.index));
        rows = rw carries-records (omega (arith, rows_append xs (x ∷ []), rows-of x, at.rows));
      }

-- ---- nothing is taken yet
module _ {p : Carried} (at : Carries [] p) where
  pub none-context : context_by p ≡ new_sheet
  none-context = reaches-none at.reached refl

  pub none-index : p.index ≡ 0
  none-index = at.index ∙ rw (records-end new_sheet)

  pub none_rows : p.rows ≡ 0
  unfolding stored_rows
  none_rows = at.rows ∙ rw (records-end new_sheet)

-- and where something is, there is a record
pub some-index : {x : ℕ} {r : List ℕ} {p : Carried} → Carries (x ∷ r) p → p.index ≡ 0 → ⊥
some-index at z = let some = reaches_some at.reached (omega arith) in omega (arith, at.index)

-- ---- the end: with the bytes that are held the sheet is over, accepted or refused
sheet_read-some : (s : List ℕ) → 0 < length s → sheet_read s ≡ records new_sheet s
unfolding sheet_read
sheet_read-some [] some = absurd (omega arith)
sheet_read-some (x ∷ r) some = refl

ends-before : {s : List ℕ} {p : Carried} → Carries s p → (b : List ℕ) {e bit : ℕ} → 0 < length (s ++ b)
    → records (context_by p) b ≡ ends_with e bit → sheet_read (s ++ b) ≡ put_before (records new_sheet s).records (ends_with e bit)
ends-before {s} at b some ends = rw (sheet_read-some (s ++ b) some, records-append at.reached b, ends)

ends-nothing : (s : List ℕ) {p : Carried} → Carries s p
    → sheet_read (s ++ []) ≡ put_before (records new_sheet s).records (ends_with (end_number p.index) 0)
unfolding sheet_read
ends-nothing [] at = rw (none-index at, records-end new_sheet)
ends-nothing (x ∷ r) {p} at = rw (ne_eqb p.index 0 (some-index at)) (ends-before at [] (omega arith) (records-end (context_by p)))

ends-refused : {s : List ℕ} {p : Carried} → Carries s p → (b : List ℕ) → 0 < length b
    → ((record_judged (context_by p) b).number ≡ 0 → ⊥)
    → let a = record_judged (context_by p) b in
    sheet_read (s ++ b) ≡ put_before (records new_sheet s).records (ends_with a.number a.at)
ends-refused at [] some wrong = absurd (omega arith)
ends-refused {s} {p} at (x ∷ b) some wrong =
    ends-before at (x ∷ b) (omega (arith, length-append s (x ∷ b))) (records-refused (context_by p) x b wrong)

abbrev end_of : Next → SheetRead
end_of (ended e bit) = ends_with e bit
end_of (more x q) = ends_with 0 0

-- so its records are those that were taken, and its number and place those of the end
pub carries-ended : {s : List ℕ} {p : Carried} → Carries s p → (b : List ℕ) {e bit : ℕ} → next_of p b ≡ ended e bit
    → sheet_read (s ++ b) ≡ record { records = (records new_sheet s).records; number = e; place = bit }
carries-ended {s} {p} at b {e} {bit} is =
    let xs = (records new_sheet s).records in
    next_of-cases (λ n. n ≡ ended e bit → sheet_read (s ++ b) ≡ put_before xs (ends_with e bit)) p b
    (λ none same. rw none (ends-nothing s at) ∙ ap (λ n. put_before xs (end_of n)) same)
    (λ some wrong same. ends-refused at b some wrong ∙ ap (λ n. put_before xs (end_of n)) same)
    (λ ok same. true-false refl (ap goes_on same)) is
    ∙ rw (append-nil xs)
