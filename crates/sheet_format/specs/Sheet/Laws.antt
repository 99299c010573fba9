-- The laws of a sheet's records: the equations that a reader expects, without the bound on their count. Assumes nothing.
use Rattle.std.specs.Prelude.{ℕ, zero, suc, ◌≤◌, ◌≡◌, refl, List, [], ◌∷◌, length}
use Rattle.std.proofs.Common.{arith, sym, ap, ◌∙◌, length-drop}
use Rattle.sheet_format.specs.Context.{Context}
use Rattle.sheet_format.specs.Reading.{context_after, record_judged}
use Rattle.sheet_format.specs.Reading.Laws.{judged-length}
use Rattle.sheet_format.specs.Sheet.{SheetRecord, SheetRead, ends_with, put_first, from_record, record_here, rest_next, records_from, records}

-- at the end, refused, or accepted
pub from_record-cases : (P : SheetRead → Type 0) (r : List ℕ) (e at : ℕ) (x : SheetRecord) (rest : SheetRead)
    → P (ends_with 0 0) → ((k : ℕ) → e ≡ suc k → P (ends_with (suc k) at)) → (e ≡ 0 → P (put_first x rest))
    → P (from_record r e at x rest)
from_record-cases P [] e at x rest ended refused accepted = ended
from_record-cases P (y ∷ r) zero at x rest ended refused accepted = accepted refl
from_record-cases P (y ∷ r) (suc e) at x rest ended refused accepted = refused e refl

from_record-same : (r : List ℕ) (e at : ℕ) (x : SheetRecord) (s t : SheetRead) → (e ≡ 0 → s ≡ t)
    → from_record r e at x s ≡ from_record r e at x t
from_record-same [] e at x s t h = refl
from_record-same (y ∷ r) zero at x s t h = rw (h refl)
from_record-same (y ∷ r) (suc e) at x s t h = refl

from_record-accepted : (y : ℕ) (r : List ℕ) (e at : ℕ) (x : SheetRecord) (rest : SheetRead) → e ≡ 0
    → from_record (y ∷ r) e at x rest ≡ put_first x rest
from_record-accepted y r zero at x rest h = refl
from_record-accepted y r (suc e) at x rest h = absurd (omega arith)

from_record-refused : (y : ℕ) (r : List ℕ) (e at : ℕ) (x : SheetRecord) (rest : SheetRead) → (e ≡ 0 → ⊥)
    → from_record (y ∷ r) e at x rest ≡ ends_with e at
from_record-refused y r zero at x rest h = absurd (h refl)
from_record-refused y r (suc e) at x rest h = refl

nil-of : (r : List ℕ) → length r ≤ 0 → r ≡ []
nil-of [] h = refl
nil-of (x ∷ r) h = absurd (omega arith)

records_from-nil : (n : ℕ) (c : Context) → records_from n c [] ≡ ends_with 0 0
unfolding records_from
records_from-nil zero c = refl
records_from-nil (suc n) c = refl

-- any bound that is not below the count of the bytes gives the same records
records_from-bound : (n k : ℕ) (c : Context) (r : List ℕ) → length r ≤ n → length r ≤ k → records_from n c r ≡ records_from k c r
unfolding records_from
records_from-bound zero k c r h g = rw (nil-of r h) (sym (records_from-nil k c))
records_from-bound (suc n) zero c r h g = rw (nil-of r g)
records_from-bound (suc n) (suc k) c r h g =
    let ih = records_from-bound n k (context_after c r) (rest_next c r) in
    from_record-same r (record_judged c r).number (record_judged c r).at (record_here c r) _ _
    (λ ok. let size = judged-length c r ok in
    let left = length-drop (record_judged c r).length r in
    ih (omega arith) (omega arith))

-- ---- the records of the bytes r
pub records-end : (c : Context) → records c [] ≡ ends_with 0 0
records-end c = records_from-nil 0 c

pub records-refused : (c : Context) (x : ℕ) (r : List ℕ) → ((record_judged c (x ∷ r)).number ≡ 0 → ⊥)
    → records c (x ∷ r) ≡ ends_with (record_judged c (x ∷ r)).number (record_judged c (x ∷ r)).at
unfolding records_from
records-refused c x r h =
    let a = record_judged c (x ∷ r) in
    from_record-refused x r a.number a.at (record_here c (x ∷ r)) _ h

pub records-more : (c : Context) (x : ℕ) (r : List ℕ) → (record_judged c (x ∷ r)).number ≡ 0
    → records c (x ∷ r) ≡ put_first (record_here c (x ∷ r)) (records (context_after c (x ∷ r)) (rest_next c (x ∷ r)))
unfolding records_from
records-more c x r h =
    let size = judged-length c (x ∷ r) h in
    let rest = rest_next c (x ∷ r) in
    let left : length rest ≤ length r = omega (arith, length-drop (record_judged c (x ∷ r)).length (x ∷ r)) in
    from_record-accepted x r (record_judged c (x ∷ r)).number (record_judged c (x ∷ r)).at (record_here c (x ∷ r)) _ h
    ∙ ap (put_first (record_here c (x ∷ r)))
    (records_from-bound (length r) (length rest) (context_after c (x ∷ r)) rest left (omega arith))

-- to show something of all records, show it of a sheet that ends, that is refused, and after an accepted record
pub records_from-all : (P : Context → SheetRead → Type 0) → ((c : Context) (e at : ℕ) → P c (ends_with e at))
    → ((c : Context) (r : List ℕ) (rest : SheetRead) → (record_judged c r).number ≡ 0 → P (context_after c r) rest
    → P c (put_first (record_here c r) rest))
    → (n : ℕ) (c : Context) (r : List ℕ) → P c (records_from n c r)
unfolding records_from
records_from-all P ends more zero c r = ends c 0 0
records_from-all P ends more (suc n) c r =
    let rest = records_from n (context_after c r) (rest_next c r) in
    let ih = records_from-all P ends more n (context_after c r) (rest_next c r) in
    let a = record_judged c r in
    from_record-cases (P c) r a.number a.at (record_here c r) rest (ends c 0 0) (λ k e. ends c (suc k) a.at)
    (λ ok. more c r rest ok ih)
