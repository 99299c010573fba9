-- The ways out of reading a table in a record. Assumes nothing.
use Prim.Native.Nat.{ℕ, ◌%◌}
use mathlib.Core.Path.{◌≡◌, refl, sym, ◌∙◌}
use mathlib.Core.Bool.{false}
use mathlib.Core.List.{List}
use lib.ListN.{length}
use Rattle.answer.specs.Outcome.{nothing}
use Rattle.answer.specs.Outcome.Laws.{unequal_number-zero, unequal_number-none, unequal_number-given, given-first}
use Rattle.row_format.specs.Place.{has_place}
use Rattle.row_format.specs.Table.{table_number}
use Rattle.row_format.proofs.Theorems.Numbers.{table_number-in}
use Rattle.sheet_format.specs.declared.RecordRead.{RecordRead}
use Rattle.sheet_format.specs.Context.{Context, no_heading}
use Rattle.sheet_format.specs.Kind.Table.{table_place, table_own, table_kind}
use Rattle.sheet_format.specs.Record.{content_number}
use Rattle.sheet_format.specs.Reading.{refused_record, body_held}
use Rattle.sheet_format.specs.Reading.Laws.{refused-anywhere}
use Rattle.sheet_reader.specs.Leaves.{table_judged}
use Rattle.sheet_reader.specs.Leaves.Laws.{answer-refused}

module _ (b : List ℕ) (whole : ℕ) (c : Context) where
  pub table-not-words : {x : RecordRead} → (length b % 4 ≡ 0 → ⊥) → x ≡ refused_record 0 14 → x ≡ table_judged whole c b
  unfolding content_number
  table-not-words odd is = rw (unequal_number-given (length b % 4) 0 14 odd) is

  module _ (words : length b % 4 ≡ 0) {place : ℕ} (place_is : place ≡ table_place c no_heading) where
    pub table-misplaced : {x : RecordRead} → (place ≡ 0 → ⊥) → x ≡ refused_record 0 place → x ≡ table_judged whole c b
    table-misplaced some is = answer-refused 0 _ is number some
      where
        number : place ≡ content_number table_kind nothing c b
        number = unfold content_number in
            (rw (unequal_number-none (length b % 4) 0 14 words) (given-first (table_place c no_heading) _ place_is some))

    module _ (first : place ≡ 0) {n : ℕ} (told : n ≡ table_number b) where
      -- what is left is the table's own number
      own : n ≡ content_number table_kind nothing c b
      unfolding content_number table_own
      own = rw (unequal_number-none (length b % 4) 0 14 words, sym place_is ∙ first) told

      -- 1 to 3 show no place
      placeless : has_place n ≡ false
      placeless = rw told (table_number-in (λ e. has_place e ≡ false) b refl refl refl refl)

      pub table-refused : {x : RecordRead} (at : ℕ) → (n ≡ 0 → ⊥) → x ≡ refused_record at n → x ≡ table_judged whole c b
      table-refused at some is = answer-refused 0 _ (is ∙ sym (refused-anywhere n at placeless)) own some

      pub no-tables : length c.tables ≡ 0
      unfolding table_place
      no-tables = unequal_number-zero (length c.tables) 0 15 (sym place_is ∙ first)

      pub table-held : {x : RecordRead} → n ≡ 0 → x ≡ body_held table_kind 1 whole c b → x ≡ table_judged whole c b
      table-held none is = rw (sym own ∙ none) is
