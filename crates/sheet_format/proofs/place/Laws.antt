-- The places by the state that a caller keeps. Assumes nothing.
use Prim.Native.Nat.{◌≤◌, ◌<◌}
use mathlib.Core.Path.{◌≡◌, sym, ap, ◌∙◌}
use lib.ListN.{length}
use borrow.Author.Tests.{lt-ltb, le-ltb, eq-eqb, ne_eqb}
use Rattle.sheet_format.specs.declared.SheetState.{SheetState}
use Rattle.sheet_format.specs.Context.{Heading, Context, state_of}
use Rattle.sheet_format.specs.Kind.Table.{table_place}
use Rattle.sheet_format.specs.Kind.Row.{no_table, row_place}
use Rattle.sheet_format.specs.Kind.ContourLine.{line_place}

module _ (st : SheetState) (c : Context) (is : state_of c ≡ st) where
  tables-is : length c.tables ≡ st.has_table
  tables-is = ap (λ (s : SheetState). s.has_table) is

  least-is : c.least ≡ st.least_row
  least-is = ap (λ (s : SheetState). s.least_row) is

  none : st.has_table ≡ 0 → no_table c ≡ 16
  none e = rw (eq-eqb (length c.tables) 0 (tables-is ∙ e))

  some : (st.has_table ≡ 0 → ⊥) → no_table c ≡ 0
  some e = rw (ne_eqb (length c.tables) 0 (λ z. e (sym tables-is ∙ z)))

  module _ (h : Heading) where
    pub table-first : st.has_table ≡ 0 → 0 ≡ table_place c h
    unfolding table_place
    table-first e = rw (eq-eqb (length c.tables) 0 (tables-is ∙ e))

    pub table-second : (st.has_table ≡ 0 → ⊥) → 16 ≡ table_place c h
    unfolding table_place
    table-second e = rw (ne_eqb (length c.tables) 0 (λ z. e (sym tables-is ∙ z)))

    pub line_first : st.has_table ≡ 0 → 16 ≡ line_place c h
    unfolding line_place
    line_first e = sym (none e)

    pub line-later : (st.has_table ≡ 0 → ⊥) → 0 ≡ line_place c h
    unfolding line_place
    line-later e = sym (some e)

    pub row_first_lem : st.has_table ≡ 0 → 16 ≡ row_place c h
    unfolding row_place
    row_first_lem e = rw (none e)

    module _ (table : st.has_table ≡ 0 → ⊥) where
      pub row-not-risen : h.row < st.least_row → 16 ≡ row_place c h
      unfolding row_place
      row-not-risen less = rw (some table, least-is, lt-ltb h.row st.least_row less)

      module _ (risen : st.least_row ≤ h.row) where
        pub row-above : 65535 < h.row → 16 ≡ row_place c h
        unfolding row_place
        row-above more = rw (some table, least-is, le-ltb h.row st.least_row risen, lt-ltb 65535 h.row more)

        pub row-risen : h.row ≤ 65535 → 0 ≡ row_place c h
        unfolding row_place
        row-risen most = rw (some table, least-is, le-ltb h.row st.least_row risen, le-ltb 65535 h.row most)
