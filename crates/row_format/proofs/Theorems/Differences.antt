-- Differences as the table has them and as a reading takes them: which entry stands for one, and where one leads. The counts
-- from -4093 that the definitions use are signed steps (`signed-difference_to`). Assumes nothing.
use Rattle.std.specs.Prelude.{ℕ, ◌+◌, ◌-◌, ◌≤◌, ◌<◌, ◌≡◌, true, List, ◌↔◌, pos, negsuc, ◌≤ℤ◌}
use Rattle.std.proofs.Common.{arith, lt-ltb, le-leb}
use Rattle.row_format.specs.Table.{low_limit, table_size, codeword_at, signed_difference, entry_difference, has_difference, Accepted}
use Rattle.row_format.specs.Table.Laws.{signed-least, signed-most, entry_difference-most}
use Rattle.row_format.specs.Row.{difference, State, previous, difference_to, pixel_of, item_bits}
use Rattle.row_format.specs.Reading.{inside}
use Rattle.row_format.proofs.Theorems.Items.{entry, reached, inside-difference_to}

-- ---- entries
pub has_difference-entry : (t : List ℕ) (i : ℕ) → i < table_size t → has_difference t (entry_difference t i) ≡ true
has_difference-entry t i h =
    let k = entry_difference t i in
    rw (le-leb (low_limit t) k (omega arith)) (lt-ltb k (low_limit t + table_size t) (omega arith))

-- the table has a difference exactly when some entry stands for it
pub entry-for : (t : List ℕ) (k : ℕ) → (has_difference t k ≡ true) ↔ ((i : ℕ) × (i < table_size t) × (entry_difference t i ≡ k))
entry-for t k = (
  (λ has. let e = entry t k has in (k - low_limit t, e.high, omega (arith, e.low))),
  (λ found. rw (← found.2) (has_difference-entry t found.0 found.1)),
)

-- "So steps lie within -4093 to 4093"
pub entry-signed : (t : List ℕ) (ok : Accepted t) (i : ℕ) → i < table_size t
    → (negsuc 4092 ≤ℤ signed_difference (entry_difference t i)) × (signed_difference (entry_difference t i) ≤ℤ pos 4093)
entry-signed t ok i h =
    let k = entry_difference t i in
    (signed-least k, signed-most k (entry_difference-most t ok i h))

-- the bits of entry i's difference are entry i's string, which stands at place 3 + i
pub item_bits-entry : (t : List ℕ) (i : ℕ) → item_bits t (difference (entry_difference t i)) ≡ codeword_at t (3 + i)
item_bits-entry t i = let place : 3 + (i + low_limit t - low_limit t) ≡ 3 + i = omega arith in rw place

-- ---- heights
-- a difference leads to a height of 0 to 4093 exactly when it is that height's difference; and then it stands for that height
pub leads : (s : State) (k : ℕ) → previous s ≤ 4093
    → (inside s k ≡ true) ↔ ((p : ℕ) × (p ≤ 4093) × (k ≡ difference_to s p))
leads s k height = (
  (λ in-range. let r = reached s k in-range in (previous s + k - 4093, omega (arith, r.most), omega (arith, r.least))),
  (λ found. rw found.2 (inside-difference_to s found.0 height found.1)),
)

pub pixel_of-difference_to : (s : State) (p : ℕ) → previous s ≤ 4093 → pixel_of s (difference (difference_to s p)) ≡ p
pixel_of-difference_to s p height = omega arith
