-- The ways out of a row's fields. Assumes nothing.
use Prim.Native.Nat.{ℕ, ◌≤◌}
use mathlib.Core.Path.{◌≡◌, sym, ap, ◌∙◌}
use mathlib.Core.List.{List, []}
use lib.ListN.{length}
use borrow.Author.Tests.{le-ltb}
use Rattle.sheet_format.specs.declared.SheetState.{SheetState}
use Rattle.sheet_format.specs.Context.{Context, state_of, context_of}
use Rattle.sheet_format.specs.Context.Laws.{state_of-context_of}
use Rattle.sheet_format.specs.Kind.Row.{row_heading, pixel_count, row_place}
use Rattle.sheet_format.specs.Kind.Row.Laws.{row_place-small}
use Rattle.std.specs.Prelude.{Ok}
use Rattle.answer.specs.Outcome.{◌or_else◌}
use Rattle.sheet_format.specs.Fields.{shorter_than}
use Rattle.sheet_reader.specs.Row.{RowFieldsOf}

module _ (b : List ℕ) (st : SheetState) where
  module _ (h : 4 ≤ length b) {row : ℕ} (row_is : row ≡ (row_heading b).row) where
    chain : {place : ℕ} → ((c : Context) → state_of c ≡ st → place ≡ row_place c (record { row = row }))
        → (c : Context) → state_of c ≡ st → place ≡ shorter_than 4 b or_else row_place c (row_heading b)
    chain place_is c is = rw (le-ltb (length b) 4 h) (place_is c is ∙ ap (λ (n : ℕ). row_place c (record { row = n })) row_is)

    pub fields-there : {count : ℕ} → count ≡ pixel_count b
        → ((c : Context) → state_of c ≡ st → 0 ≡ row_place c (record { row = row }))
        → RowFieldsOf b st (Ok (record { row = row; count = count }))
    fields-there count-is place_is = record {
      number = chain place_is;
      fields =
          let any-sheet = context_of [] st in
          let placed = sym (place_is any-sheet (state_of-context_of [] st)) in
          record { there = h; row = row_is; count = count-is; small = row_place-small any-sheet (record { row = row }) placed };
    }
