-- Document 02, ticket 2, "Say where reading stopped": which refusals show a place. A place counts bits from the row's first
-- word. Definitions only. Assumes nothing.
use Rattle.std.specs.Prelude.{ℕ, Bool, cond, ◌&&◌, leb}
pub mod Laws

-- "refusals 6 to 9 return the bit place of the faulty item's first bit and zero elsewhere; 10 returns the first unused bit"
abbrev pub has_place : ℕ → Bool
has_place e = leb 6 e && leb e 10

-- what a refusal by the number e shows, where reading stopped at the place p
abbrev pub place_shown : ℕ → ℕ → ℕ
place_shown e p = cond (has_place e) p 0
