-- The table's kind is lawful. Assumes nothing.
use Rattle.std.specs.Prelude.{ℕ, ◌*◌, ◌/◌, ◌%◌, ◌≤◌, ◌≡◌, refl, not, List, length, eqb}
use Rattle.std.proofs.Common.{arith, sym, ◌∙◌}
use Rattle.bitstream.specs.Bits.{bits_of, words_of}
use Rattle.bitstream.specs.Bits.Laws.{length_cut}
use Rattle.answer.specs.Outcome.{◌or_else◌, Lent, room_number}
use Rattle.answer.specs.Outcome.Laws.{unequal_number-zero, unequal_number-none, refuse_if-in, or_else-none, room_number-none}
use Rattle.row_format.specs.Table.{table_number}
use Rattle.row_format.specs.Table.Laws.{accepted, table_number-whole, table_number-verdict}
use Rattle.row_format.proofs.Theorems.Numbers.{table_number-in}
use Rattle.sheet_format.specs.Context.{Heading, Context}
use Rattle.sheet_format.specs.Kind.Lawful.{Back, Lawful}
use Rattle.sheet_format.specs.Kind.Table.{table_place, table_own, table_kind}

pub table-most : (x : List ℕ) → table_number x ≡ 0 → length x ≤ 32772
table-most x ok =
    let a = accepted (words_of x) (table_number-verdict x ok) in
    let words = sym (length_cut 32 (length x / 4) (bits_of x)) ∙ a.words in
    omega (arith, words, a.size-most, table_number-whole x ok)

-- no content, so no room is asked
table-parts : (m : Lent) (c : Context) (b : List ℕ)
    → table_own m c b ≡ table_number b or_else (room_number m (0 * (length b / 4)) or_else 0)
unfolding table_own
table-parts m c b =
    let none : 0 * (length b / 4) ≡ 0 = omega arith in
    rw (none, room_number-none m) (sym (or_else-none (table_number b)))

table-back : (h : Heading) (c : Context) (x : List ℕ) → table_number x ≡ 0 → Back table_kind h c x x
unfolding table_own table_place
table-back h c x ok = record {
  fixed = unequal_number-none (length x % 4) 0 14 (table_number-whole x ok);
  heading = refl;
  place = refl;
  own = λ m room. ok;
  count = refl;
  bits = refl;
  content = let none : 0 * (length x / 4) ≡ 0 = omega arith in rw none;
  after = refl;
  short = table-most x ok;
}

pub table-lawful : Lawful table_kind
unfolding table_place table_own
table-lawful = record {
  first = λ c b. table_number b;
  last = λ c b. 0;
  own-parts = table-parts;
  most = λ c b e. omega arith;
  size = λ c b e. omega arith;
  given-size = λ x. omega arith;
  table-placed = λ e c h place. unequal_number-zero (length c.tables) 0 15 place;
  table_before = λ other readable c h place none. other refl;
  row-risen = λ e c h place. absurd (let z : ◌≡◌ {A = ℕ} 0 1 = cc in omega arith);
  row_small = λ e c h place. absurd (let z : ◌≡◌ {A = ℕ} 0 1 = cc in omega arith);
  rowless = λ other h g c x. record { place = refl; given = refl; body = refl };
  readable-in = λ P l. l.p0;
  writable-in = λ P l. l.p0;
  fixed_in = λ P l b. refuse_if-in P (not (eqb (length b % 4) 0)) 14 l.p0 l.p14;
  place_in = λ P l c h. refuse_if-in P (not (eqb (length c.tables) 0)) 16 l.p0 l.p16;
  own_in = λ P l bits m room c b. table_number-in P b l.p0 l.p1 l.p2 l.p3;
  given-in = λ P l h c x. table_number-in P x l.p0 l.p1 l.p2 l.p3;
  readable-back = λ e. refl;
  back = λ h c x bytes writable place given. table-back h c x given;
}
