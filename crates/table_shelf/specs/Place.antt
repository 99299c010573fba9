-- Where the table of a place ends on the shelf. Assumes nothing.
use Rattle.std.specs.Prelude.{ℕ, ◌+◌, ◌-◌, ◌*◌, ◌≤◌, ◌≡◌, List, take, drop}
use Rattle.shelf_format.specs.Shelf.{place, table_in}

pub record TableEnds (s : List ℕ) (i r : ℕ) : Type 0 where
  pub least : 32772 * i ≤ r
  pub most : r ≤ 32772 * i + 32772
  pub table : take (r - 32772 * i) (drop (32772 * i) s) ≡ table_in (place s i)
