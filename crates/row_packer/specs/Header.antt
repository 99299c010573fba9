-- What of a table's header the code carries along. Definitions only. Assumes nothing.
use Rattle.std.specs.Prelude.{ℕ, ◌≡◌, List}
use Rattle.row_format.specs.Table.{low_limit, table_size}
use Rattle.row_packer.specs.declared.header.Header.{Header}

pub record HeaderOf (t : List ℕ) (h : Header) : Type 0 where
  pub low : h.low ≡ low_limit t
  pub size : h.size ≡ table_size t
