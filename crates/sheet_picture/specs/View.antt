-- What the calls take, in the definitions' words. Definitions only; their laws are in View/. Assumes nothing.
use Rattle.std.specs.Prelude.{ℕ, zero, suc, ◌≤◌, ◌<◌, ◌≡◌, Bool, true, false, List, length, get_or}
use Rattle.bitstream.specs.Bits.{halves_of}
use Rattle.sheet_format.specs.Sheet.{Heights, absent, present}
use Rattle.sheet_picture.specs.declared.View.{View}
use Rattle.sheet_picture.specs.Colour.{Range, height_index}
use Rattle.sheet_picture.specs.Extent.{Extent}
use Rattle.sheet_picture.specs.Grid.{Look, Beside, nothing, counts, unread, most_of}
pub mod Laws

abbrev pub range_of : View → Range
range_of v = record { low = v.low; high = v.high }

-- what stands to the right, by its number; b is the bytes of the map's counts
abbrev pub beside_of : ℕ → List ℕ → Beside
beside_of zero b = nothing
beside_of (suc zero) b = counts (halves_of b)
beside_of (suc (suc n)) b = unread

abbrev pub look_of : View → List ℕ → Look
look_of v b = record { times = v.times; grey = range_of v; beside = beside_of v.beside b }

abbrev pub extent_of : View → Extent
extent_of v = record { width = v.width; height = v.height }

-- a view within its limits. Its widest row has 4096 * 15 + 8 + 128 * 31 samples, 65416
pub record ViewFits (v : View) (b : List ℕ) : Type 0 where
  pub some : 1 ≤ v.times
  pub few : v.times ≤ 15
  pub wide : v.width ≤ 4096
  pub tall : v.height ≤ 65552
  pub map : v.beside ≡ 1 → length b ≡ 32768
  pub most : v.beside ≡ 1 → v.most ≡ most_of (halves_of b)

-- t has the indices of the heights below n
pub record IndexedTo (g : Range) (t : List ℕ) (n : ℕ) : Type 0 where
  pub index : (h : ℕ) → h < n → get_or t h 0 ≡ height_index g h

-- t is the indices of the heights 0 to 4095, and the range is one of heights
pub record IndicesOf (g : Range) (t : List ℕ) : Type 0 where
  pub low : g.low ≤ g.high
  pub high : g.high ≤ 4093
  pub size : length t ≡ 4096
  pub indexed : IndexedTo g t 4096

-- a row of the sheet that is there or is not
abbrev pub heights_by : Bool → List ℕ → Heights
heights_by true hs = present hs
heights_by false hs = absent
