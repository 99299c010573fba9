-- Signed numbers as the code keeps them. Definitions only; their laws are in Offset/. Assumes nothing.
use Rattle.std.specs.Prelude.{ℕ, ◌+◌, ◌≤◌, ◌<◌, ◌≡◌, ℤ}
use Rattle.std.proofs.Math.IntN.{sub_ℕ}
use Rattle.delta_format.specs.Numbers.{half_of}
pub mod Laws

-- "held in 8, 16 or 32 bits"
pub data Width : ℕ → Type 0 where
  eight : Width 8
  sixteen : Width 16
  thirty_two : Width 32

-- the number that is kept as r: offset binary, r is 2 ^ 31 more
abbrev pub offset_value : ℕ → ℤ
offset_value r = sub_ℕ r 2147483648

-- r keeps v, a number of w bits
pub record Offset (w : ℕ) (v : ℤ) (r : ℕ) : Type 0 where
  pub keeps : v ≡ offset_value r
  pub low : 2147483648 ≤ r + half_of w
  pub high : r < 2147483648 + half_of w
