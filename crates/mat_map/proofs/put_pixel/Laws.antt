-- A pixel as one field, and the turns of putting a group's pixels. Assumes nothing.
use Prim.Native.Nat.{ℕ, ◌+◌, ◌-◌, ◌*◌, ◌≤◌, ◌<◌}
use native.Mathlib.Omega.{arith}
use mathlib.Core.Path.{◌≡◌, ap}
use mathlib.Core.List.{List, ◌++◌}
use lib.ListN.{length, drop, get_or}
use borrow.Author.Tests.{lt-ltb, le-ltb}
use Rattle.bitstream.specs.Msb.{msb_digits}
use Rattle.bitstream.specs.Msb.Laws.{msb_digits-join}
use Rattle.map_format.specs.Writing.{pixel_bits, pixels_bits}
use Rattle.row_pixels.specs.Laws.{drop_more, drop-end}
use Rattle.mat_map.specs.Putting.{Room, Puts, Putting}
use Rattle.mat_map.specs.Putting.Laws.{putting-none, putting-room, putting-more, putting-all}
use Rattle.bitstream.specs.declared.msb_writer.MsbWriter.{MsbWriter}

-- ---- a pixel above 2: its form is one field
module _ (x : ℕ) where
  pub pixel_bits-six : 3 ≤ x → x < 18 → pixel_bits x ≡ msb_digits 6 (48 + (x - 3))
  unfolding pixel_bits
  pixel_bits-six h g = rw (le-ltb x 3 h, lt-ltb x 18 g) (msb_digits-join 2 4 3 (x - 3) (omega arith))

  pub pixel_bits-wide : 18 ≤ x → x < 65536 → pixel_bits x ≡ msb_digits 22 (63 * 65536 + x)
  unfolding pixel_bits
  pixel_bits-wide h g = rw (le-ltb x 3 (omega arith), le-ltb x 18 h) (msb_digits-join 6 16 63 x g)

-- ---- the turns: after i pixels
pub record PuttingPixels (xs o : List ℕ) (w : MsbWriter) (o' : List ℕ) (w' : MsbWriter) (i : ℕ) : Type 0 where
  pub within : i ≤ length xs
  pub putting : Putting o w (pixels_bits xs) o' w' (pixels_bits (drop i xs))

pub pixels-none : (xs o : List ℕ) (w : MsbWriter) → Room o w (pixels_bits xs) → PuttingPixels xs o w o w 0
pixels-none xs o w room = record { within = omega arith; putting = putting-none o w (pixels_bits xs) room.good }

module _ {xs o : List ℕ} {w : MsbWriter} {o' : List ℕ} {w' : MsbWriter} {i : ℕ} (s : PuttingPixels xs o w o' w' i) where
  -- the next pixel
  module _ (h : i < length xs) {x : ℕ} (e : x ≡ get_or xs i 0) where
    next : pixels_bits (drop i xs) ≡ pixel_bits x ++ pixels_bits (drop (i + 1) xs)
    unfolding pixels_bits
    next = ap pixels_bits (drop_more xs i h e)

    pub pixels-room : Room o w (pixels_bits xs) → Room o' w' (pixel_bits x)
    pixels-room room = putting-room (pixel_bits x) (pixels_bits (drop (i + 1) xs)) next s.putting room

    pub pixels-more : {o'' : List ℕ} {w'' : MsbWriter} → Puts o' w' (pixel_bits x) o'' w'' → length o'' ≡ length o'
        → PuttingPixels xs o w o'' w'' (i + 1)
    pixels-more p same = record {
      within = omega arith;
      putting = putting-more (pixel_bits x) (pixels_bits (drop (i + 1) xs)) next s.putting p same;
    }

  -- every pixel is put
  pub pixels-all : length xs ≤ i → Puts o w (pixels_bits xs) o' w'
  unfolding pixels_bits
  pixels-all g = putting-all (ap pixels_bits (drop-end xs i s.within g)) s.putting
