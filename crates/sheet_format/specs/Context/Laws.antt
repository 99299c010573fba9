-- What a sheet holds, by value and back. Assumes nothing.
use Rattle.std.specs.Prelude.{ℕ, zero, suc, ◌≡◌, refl, List, length, replicate}
use Rattle.std.proofs.lemmas.List.{length-replicate}
use Rattle.sheet_format.specs.declared.SheetState.{SheetState}
use Rattle.sheet_format.specs.Context.{Heading, table_for, state_of, context_of}

module _ (tb : List ℕ) (st : SheetState) where
  pub tables-context_of : length (context_of tb st).tables ≡ st.has_table
  tables-context_of = length-replicate st.has_table tb

  pub state_of-context_of : state_of (context_of tb st) ≡ st
  state_of-context_of = rw tables-context_of

-- in a sheet that has a table, a row uses the one that is lent
pub table_for-context_of : (tb : List ℕ) (st : SheetState) (h : Heading) → (st.has_table ≡ 0 → ⊥) → table_for (context_of tb st) h ≡ tb
table_for-context_of tb st h has = first st.has_table has
  where
    first : (n : ℕ) → (n ≡ 0 → ⊥) → table_for (record { tables = replicate n tb; least = st.least_row }) h ≡ tb
    first zero some = absurd (some refl)
    first (suc n) some = refl
