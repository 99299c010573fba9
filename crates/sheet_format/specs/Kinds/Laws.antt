-- Every kind is lawful: the one split that the theorems rest on. And what a code says of its kind. Assumes nothing.
use Rattle.std.specs.Prelude.{ℕ, zero, suc, ◌<◌, ◌≡◌, refl, true, List, eqb}
use Rattle.std.proofs.Math.Decide.{dec_lt}
use Rattle.std.proofs.Common.{arith, sym, ap, ◌∙◌, ne_eqb, eqb-true}
use Rattle.std.proofs.Math.Logic.{by_cases}
use Rattle.answer.specs.Outcome.{Lent, room_number}
use Rattle.answer.specs.Outcome.Laws.{room_number-none}
use Rattle.row_format.proofs.Theorems.Numbers.{table_number-in}
use Rattle.sheet_format.specs.Context.{Context}
use Rattle.sheet_format.specs.Kind.{unknown, a_table, is_table, is_row}
use Rattle.sheet_format.specs.Kind.Lawful.{ListedBody, Lawful}
use Rattle.sheet_format.specs.Kind.Table.{table_own}
use Rattle.sheet_format.specs.Kind.Table.Laws.{table-lawful}
use Rattle.sheet_format.specs.Kind.PackedRow.Laws.{packed-lawful}
use Rattle.sheet_format.specs.Kind.PlainRow.Laws.{plain_own-in, plain-lawful}
use Rattle.sheet_format.specs.Kind.ContourLine.Laws.{line_own-in, line-lawful}
use Rattle.sheet_format.specs.Kinds.{kind_of}

unknown-lawful : Lawful unknown
unknown-lawful = record {
  first = λ c b. 0;
  last = λ c b. 0;
  own-parts = λ m c b. rw (room_number-none m);
  most = λ c b e. omega arith;
  size = λ c b e. refl;
  given-size = λ x. omega arith;
  table-placed = λ e c h place. absurd (let z : ◌≡◌ {A = ℕ} 0 1 = cc in omega arith);
  table_before = λ other readable c h place none. absurd (omega arith);
  row-risen = λ e c h place. absurd (let z : ◌≡◌ {A = ℕ} 0 1 = cc in omega arith);
  row_small = λ e c h place. absurd (let z : ◌≡◌ {A = ℕ} 0 1 = cc in omega arith);
  rowless = λ other h g c x. record { place = refl; given = refl; body = refl };
  readable-in = λ P l. l.p15;
  writable-in = λ P l. l.p15;
  fixed_in = λ P l b. l.p0;
  place_in = λ P l c h. l.p0;
  own_in = λ P l bits m room c b. l.p0;
  given-in = λ P l h c x. l.p0;
  readable-back = λ e. e;
  back = λ h c x bytes writable place given. absurd (omega arith);
}

pub lawful : (code : ℕ) → Lawful (kind_of code)
lawful zero = unknown-lawful
lawful (suc zero) = table-lawful
lawful (suc (suc zero)) = packed-lawful
lawful (suc (suc (suc zero))) = plain-lawful
lawful (suc (suc (suc (suc zero)))) = line-lawful
lawful (suc (suc (suc (suc (suc k))))) = unknown-lawful

-- only a packed row's body is bits: of the others 6 to 10 are not among the numbers
pub bitless-in : (code : ℕ) → (code ≡ 2 → ⊥) → (P : ℕ → Type 0) → ListedBody P → (m : Lent) → ((n : ℕ) → P (room_number m n))
    → (c : Context) (b : List ℕ) → P ((kind_of code).own m c b)
unfolding table_own
bitless-in zero other P l m room c b = l.p0
bitless-in (suc zero) other P l m room c b = table_number-in P b l.p0 l.p1 l.p2 l.p3
bitless-in (suc (suc zero)) other P l m room c b = absurd (other refl)
bitless-in (suc (suc (suc zero))) other P l m room c b = plain_own-in P l m room c b
bitless-in (suc (suc (suc (suc zero)))) other P l m room c b = line_own-in P l m room c b
bitless-in (suc (suc (suc (suc (suc k))))) other P l m room c b = l.p0

-- ---- codes
-- a code of none of them
pub kind_of-other : (code : ℕ) → (code ≡ 1 → ⊥) → (code ≡ 2 → ⊥) → (code ≡ 3 → ⊥) → (code ≡ 4 → ⊥) → kind_of code ≡ unknown
kind_of-other zero table packed plain line = refl
kind_of-other (suc zero) table packed plain line = absurd (table refl)
kind_of-other (suc (suc zero)) table packed plain line = absurd (packed refl)
kind_of-other (suc (suc (suc zero))) table packed plain line = absurd (plain refl)
kind_of-other (suc (suc (suc (suc zero)))) table packed plain line = absurd (line refl)
kind_of-other (suc (suc (suc (suc (suc k))))) table packed plain line = refl

-- a kind that is read has a code of two bytes
pub readable-code : (code : ℕ) → (kind_of code).readable ≡ 0 → code < 65536
readable-code code e =
    by_cases (dec_lt code 65536) (λ h. h)
    (λ h. let is = kind_of-other code (λ c. omega arith) (λ c. omega arith) (λ c. omega arith) (λ c. omega arith) in
    let known : 15 ≡ 0 = rw is at e in absurd (omega arith))

-- ---- what a kind holds, by its code
pub is_table-kind_of : (code : ℕ) → is_table (kind_of code).holds ≡ eqb code 1
is_table-kind_of zero = refl
is_table-kind_of (suc zero) = refl
is_table-kind_of (suc (suc zero)) = refl
is_table-kind_of (suc (suc (suc zero))) = refl
is_table-kind_of (suc (suc (suc (suc zero)))) = refl
is_table-kind_of (suc (suc (suc (suc (suc k))))) = sym (ne_eqb (suc (suc (suc (suc (suc k))))) 1 (λ e. omega arith))

-- a table is kind 1
pub kind_of-table : (code : ℕ) → (kind_of code).holds ≡ a_table → code ≡ 1
kind_of-table code e = eqb-true code 1 (sym (is_table-kind_of code) ∙ ap is_table e)

pub is_row-two : (code : ℕ) → code ≡ 2 → is_row (kind_of code).holds ≡ true
is_row-two code e = rw e

pub is_row-kind_of : (code : ℕ) → (code ≡ 2 → ⊥) → is_row (kind_of code).holds ≡ eqb code 3
is_row-kind_of zero other = refl
is_row-kind_of (suc zero) other = refl
is_row-kind_of (suc (suc zero)) other = absurd (other refl)
is_row-kind_of (suc (suc (suc zero))) other = refl
is_row-kind_of (suc (suc (suc (suc zero)))) other = refl
is_row-kind_of (suc (suc (suc (suc (suc k))))) other = sym (ne_eqb (suc (suc (suc (suc (suc k))))) 3 (λ e. omega arith))
