-- The picture, a row at a time: what is drawn so far, a row more, and the end. Assumes nothing.
use Rattle.std.specs.Prelude.{ℕ, zero, suc, ◌+◌, ◌-◌, ◌*◌, ◌/◌, ◌≤◌, ◌<◌, ◌≡◌, refl, true, List, [], ◌∷◌, ◌++◌, eqb, length, take, drop}
use Rattle.std.proofs.Common.{add-zero, zero-add, div-mul-le_self, le-div_iff_mul-le, add-one, arith, sym, append_assoc, append-nil, length-take-le, take_at, drop_at, eq-eqb}
use Rattle.bitstream.specs.Bits.{halves_of}
use Rattle.text.specs.Put.{Put}
use Rattle.text.specs.Put.Laws.{put_front}
use Rattle.sheet_format.specs.Sheet.{StoredRow, Heights, absent, present, heights_of}
use Rattle.sheet_stream.specs.Progress.{carried_by}
use Rattle.png_format.specs.Png.{scanline, image_data, png_front, png_row, png_end}
use Rattle.png_writer.specs.declared.adler.Sums.{Sums}
use Rattle.png_writer.specs.Sums.{SumsOf}
use Rattle.sheet_picture.specs.declared.View.{View}
use Rattle.sheet_picture.specs.Colour.{palette}
use Rattle.sheet_picture.specs.Colour.Laws.{length-colours}
use Rattle.sheet_picture.specs.Grid.{picture_row, rows_from}
use Rattle.sheet_picture.specs.View.{look_of, extent_of, heights_by}
use Rattle.draw_sheet.specs.declared.advance.Ahead.{Ahead}
use Rattle.draw_sheet.specs.declared.draw.RowPart.{RowPart}
use Rattle.draw_sheet.specs.Ahead.{rows_in, least_in, is_known, MayBe, ReadTo, Onward}
use Rattle.draw_sheet.specs.Ahead.Laws.{row-known}
use Rattle.draw_sheet.specs.View.{ViewMade}
use Rattle.draw_sheet.specs.Drawn.{width_drawn, height_drawn, row_drawn, data_drawn}
use Rattle.draw_sheet.specs.Drawn.{RowPut, FrontOut, SheetSoFar, RowOut, EndOut, DrawnTo}

abbrev so_far : {a : Ahead} {bytes table content : List ℕ} {n : ℕ} → ReadTo a bytes table content n → SheetSoFar
so_far {a} {table = table} w =
    record {
      taken = w.taken;
      carried = carried_by a.at table;
      carries = w.carries;
      ended = a.ended;
      last = w.last;
      over = w.over;
    }

-- ---- a row in memory, from place 14 on, is taken from there
row_back : {m m' row : List ℕ} {r : ℕ} → Put m 14 row r m' → 14 ≤ length m → take (r - 14) (drop 14 m') ≡ row
row_back {m} {row = row} {r = r} put room =
    let size : r - 14 ≡ length row = omega (arith, put.next) in
    let rest = drop (14 + length row) m in
    rw (
      size,
      put.memory,
      append_assoc (take 14 m) row rest,
      drop_at (take 14 m) (row ++ rest) 14 (length-take-le 14 m room),
    )
    (take_at row rest (length row) refl)

-- some rows that have such heights under a number, or none
abbrev rows_by : ℕ → Heights → List StoredRow
rows_by n absent = []
rows_by n (present hs) = record { number = n; heights = hs } ∷ []

rows-by : (n : ℕ) (hs : Heights) → heights_of n (rows_by n hs) ≡ hs
unfolding heights_of
rows-by n absent = refl
rows-by n (present hs) = rw (eq-eqb n n refl)

-- so that a row that is put for all rows of which number n is so ends behind its place
pub row-begins : (n : ℕ) {hs : Heights} {row : List StoredRow → List ℕ} {m m' : List ℕ} {r : ℕ}
    → ((ys : List StoredRow) → heights_of n ys ≡ hs → Put m 14 (row ys) r m') → 14 ≤ r
row-begins n {hs} put = omega (arith, (put (rows_by n hs) (rows-by n hs)).next)

-- it is summed, and made a part of the file
pub row_put : {v : View} {c : List ℕ} {y : ℕ} {hs : Heights} {m m' : List ℕ} {end : ℕ} {sums : Sums} {r : RowPart} {m'' : List ℕ}
    → ((ys : List StoredRow) → heights_of (y / v.times) ys ≡ hs → Put m 14 (picture_row (look_of v c) (extent_of v) ys y) end m')
    → 14 ≤ length m
    → ((d : List ℕ) → SumsOf sums d → SumsOf r.sums (d ++ scanline (take (end - 14) (drop 14 m'))))
    → take r.count m'' ≡ png_row (take (end - 14) (drop 14 m'))
    → (ys : List StoredRow) → heights_of (y / v.times) ys ≡ hs → RowPut v c ys y sums r m''
row_put put room adds part ys is =
    let row = row_back (put ys is) room in
    record { part = rw row at part; adds = λ d so_far_lem. rw row at (adds d so_far_lem) }

-- ---- a scanline more
data-more : (f : ℕ → List ℕ) (y n : ℕ) → image_data (rows_from f y (suc n)) ≡ image_data (rows_from f y n) ++ scanline (f (y + n))
unfolding image_data rows_from
data-more f y zero = rw (append-nil (f y), add-zero y)
data-more f y (suc n) =
    let place : y + 1 + n ≡ y + suc n = omega arith in
    rw (data-more f (y + 1) n, place) (sym (append_assoc (scanline (f y)) (image_data (rows_from f (y + 1) n)) (scanline (f (y + suc n)))))

-- the next row of the picture is of the same row of the sheet or of a later one
pub row-later : (y t : ℕ) → 0 < t → y / t ≤ (y + 1) / t
row-later y t some =
    let whole : y / t * t ≤ y = div-mul-le_self y t in
    (le-div_iff_mul-le some).1 (omega (arith, whole))

pub palette-size : {p : List ℕ} → p ≡ palette → length p ≡ 768
palette-size is = rw is (length-colours 256 0)

module _ {v : View} {c : List ℕ} where
  -- ---- what stands in front of the rows
  pub front_out : ViewMade v c → {w h : ℕ} {p : List ℕ} → w ≡ width_drawn v c → h ≡ height_drawn v c → p ≡ palette
      → {r : ℕ} {m m' : List ℕ} → Put m 0 (png_front w h p) r m' → FrontOut v c (take r m')
  front_out made wide tall colours put = record { made = made; front = rw (← wide, ← tall, ← colours) (put_front put) }

  -- ---- nothing is drawn yet
  pub drawn-first : {a : Ahead} {bytes table content : List ℕ} {n : ℕ} {sums : Sums} → ReadTo a bytes table content n → SumsOf sums []
      → DrawnTo v c a bytes table content n 0 sums
  unfolding image_data rows_from
  drawn-first w none = record { read = w; summed = λ s may. none }

  -- ---- the sheet is read on, or later rows are asked for
  pub drawn-onward : {a a' : Ahead} {bytes table content bytes' table' content' : List ℕ} {n m y : ℕ} {sums : Sums}
      (d : DrawnTo v c a bytes table content n y sums) → Onward d.read a' bytes' table' content' m
      → DrawnTo v c a' bytes' table' content' m y sums
  drawn-onward d o = record { read = o.now; summed = λ s may. d.summed s (o.narrows s may) }

  -- ---- row y is known, and is put into memory
  module _ {a : Ahead} {bytes table content : List ℕ} {y : ℕ} {sums : Sums}
      (d : DrawnTo v c a bytes table content (y / v.times) y sums) (known : is_known a (y / v.times) ≡ true) {r : RowPart} {out : List ℕ}
      (put : (ys : List StoredRow)
      → heights_of (y / v.times) ys ≡ heights_by (eqb (least_in a) (y / v.times + 1)) (halves_of (take a.count content))
      → RowPut v c ys y sums r out) where
    put-sheet : (s : List ℕ) → MayBe a.ended d.read.taken d.read.last s → RowPut v c (rows_in s) y sums r out
    put-sheet s may = put (rows_in s) (row-known d.read known s may)

    pub row_out : ViewMade v c → RowOut v c y (take a.held bytes) (take r.count out)
    row_out made =
        record {
          made = made;
          reading = so_far d.read;
          known = d.read.known known;
          row = λ s may. (put-sheet s may).part;
        }

    pub drawn-next : DrawnTo v c a bytes table content (y / v.times) (y + 1) r.sums
    drawn-next =
        record {
          read = d.read;
          summed = λ s may.
              rw (add-one y, data-more (row_drawn v c s) 0 y, zero-add y) ((put-sheet s may).adds (data_drawn v c s y) (d.summed s may));
        }

  -- ---- all rows are drawn
  pub end-out : {a : Ahead} {bytes table content : List ℕ} {n y : ℕ} {sums : Sums} → ViewMade v c
      → DrawnTo v c a bytes table content n y sums
      → y ≡ height_drawn v c → {r : ℕ} {m m' : List ℕ} → ((d : List ℕ) → SumsOf sums d → Put m 0 (png_end d) r m') → EndOut v c (take r m')
  end-out {sums = sums} made d all put =
      record {
        made = made;
        reading = so_far d.read;
        end = λ s may. put_front (put (data_drawn v c s (height_drawn v c)) (rw (← all) (d.summed s may)));
      }
