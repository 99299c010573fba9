-- The laws of the lister's lines. Assumes nothing.
use Rattle.std.specs.Prelude.{ℕ, zero, suc, ◌/◌, ◌≤◌, ◌≡◌, refl, true, false, List, [], length}
use Rattle.std.proofs.Common.{arith, sym, ◌∙◌}
use Rattle.bitstream.specs.Bits.{words_of}
use Rattle.row_format.specs.Place.{has_place}
use Rattle.row_format.specs.Table.{table_number, max_item_bits}
use Rattle.row_format.specs.Table.Laws.{table_number-whole, table_number-verdict, right-size}
use Rattle.row_format.specs.Calls.{checked}
use Rattle.code_table.specs.Check.{WholeTable}
use Rattle.code_table.specs.Check.Laws.{whole-table-words}
use Rattle.sheet_format.specs.declared.RecordRead.{RecordRead}
use Rattle.text.specs.Lines.{packed_line, plain_line, contour_line, done_line, refused_at_line, refused_bit_line}
use Rattle.sheet_listing.specs.Line.{table_text, line_for, answer_line, refused_text, last_line}

module _ (b : List ℕ) (ok : table_number b ≡ 0) where
  whole : WholeTable b
  whole = record { whole = table_number-whole b ok; size = right-size (words_of b) (table_number-verdict b ok) }

  pub header-there : 6 ≤ length b / 4
  header-there = omega (arith, whole-table-words b whole)

  pub checked-most : (checked b).count ≡ max_item_bits (words_of b)
  unfolding checked
  checked-most = rw ok

-- ---- the line by the record's kind
line_for-other : (k : ℕ) (a : RecordRead) (b : List ℕ) → (k ≡ 1 → ⊥) → (k ≡ 2 → ⊥) → (k ≡ 3 → ⊥) → (k ≡ 4 → ⊥)
    → line_for k a b ≡ []
unfolding line_for
line_for-other zero a b n1 n2 n3 n4 = refl
line_for-other (suc zero) a b n1 n2 n3 n4 = absurd (n1 refl)
line_for-other (suc (suc zero)) a b n1 n2 n3 n4 = absurd (n2 refl)
line_for-other (suc (suc (suc zero))) a b n1 n2 n3 n4 = absurd (n3 refl)
line_for-other (suc (suc (suc (suc zero)))) a b n1 n2 n3 n4 = absurd (n4 refl)
line_for-other (suc (suc (suc (suc (suc k))))) a b n1 n2 n3 n4 = refl

module _ (a : RecordRead) (b : List ℕ) where
  pub line-table : a.kind ≡ 1 → table_text (words_of b) ≡ answer_line a b
  unfolding line_for
  line-table e = rw e

  pub line-packed : a.kind ≡ 2 → packed_line a.row a.count a.bits a.words ≡ answer_line a b
  unfolding line_for
  line-packed e = rw e

  pub line_plain : a.kind ≡ 3 → plain_line a.row a.count ≡ answer_line a b
  unfolding line_for
  line_plain e = rw e

  pub line-contour : a.kind ≡ 4 → contour_line a.count ≡ answer_line a b
  unfolding line_for
  line-contour e = rw e

  pub line_other : (a.kind ≡ 1 → ⊥) → (a.kind ≡ 2 → ⊥) → (a.kind ≡ 3 → ⊥) → (a.kind ≡ 4 → ⊥) → [] ≡ answer_line a b
  line_other n1 n2 n3 n4 = sym (line_for-other a.kind a b n1 n2 n3 n4)

-- ---- the last line
pub last_done : (at index rows : ℕ) → done_line rows ≡ last_line 0 at index rows
unfolding last_line
last_done at index rows = refl

last-refused : (e at index rows : ℕ) → (e ≡ 0 → ⊥) → refused_text e at index ≡ last_line e at index rows
unfolding last_line
last-refused zero at index rows h = absurd (h refl)
last-refused (suc e) at index rows h = refl

module _ (e at index rows : ℕ) (some : e ≡ 0 → ⊥) where
  pub last_bit : has_place e ≡ true → refused_bit_line e index at ≡ last_line e at index rows
  last_bit h = let bit : refused_bit_line e index at ≡ refused_text e at index = rw h in bit ∙ last-refused e at index rows some

  pub last-placeless : has_place e ≡ false → refused_at_line e index ≡ last_line e at index rows
  last-placeless h = let none : refused_at_line e index ≡ refused_text e at index = rw h in none ∙ last-refused e at index rows some
