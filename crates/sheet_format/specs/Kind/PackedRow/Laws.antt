-- The packed row's kind is lawful. Assumes nothing.
use Prim.Native.Nat.{ℕ, zero, suc, ◌*◌, ◌%◌, ◌≤◌, ◌<◌}
use Rattle.std.proofs.Common.{le_refl, mul-le-mul_left, arith, sym, ◌∙◌}
use Rattle.std.specs.Prelude.{◌≡◌, not, false, length, ltb, eqb}
use Rattle.std.proofs.Math.Path.{refl, ap}
use mathlib.Core.List.{List, [], append-nil}
use Rattle.bitstream.specs.Bits.{flat, words_of, stream, words_for, Below}
use Rattle.bitstream.specs.Bits.Laws.{length_cut}
use Rattle.answer.specs.Outcome.{◌or_else◌, unless, Lent, nothing, room_number}
use Rattle.answer.specs.Outcome.Laws.{less_number-none, unequal_number-none, refuse_if-zero, refuse_if-in, or_else-in, or_else-zero-left, or_else-zero-right}
use Rattle.row_format.specs.Lists.{any}
use Rattle.row_format.specs.Table.{table_number}
use Rattle.row_format.specs.Table.Laws.{accepted, table_number-verdict, max_item_bits-most}
use Rattle.row_format.specs.Row.{fresh, pixels_of, items_for, row_bits, row_bytes, pixel_bytes, too_many, too_high}
use Rattle.row_format.specs.Row.Laws.{length-pixels_of, too_many-zero}
use Rattle.row_format.specs.Reading.{Run, done, stop, run_number, pixels_of_run, read_items, without_stray, first_number, row_reading}
use Rattle.row_format.proofs.Theorems.Bounds.{length-row_bits}
use Rattle.row_format.proofs.Theorems.Done.{GivesRow, row_reading-gives}
use Rattle.row_format.proofs.Theorems.Numbers.{StopIn, table_number-in, row_reading-stops, row_reading-number-in}
use Rattle.row_format.proofs.Theorems.RoundTrip.{row_reading-row_bytes, pixels_of-items_for}
use Rattle.row_format.proofs.Theorems.Words.{bytes_of-halves_of}
use Rattle.sheet_format.specs.Context.{Heading, Context, table_for}
use Rattle.sheet_format.specs.Fields.{shorter_than}
use Rattle.sheet_format.specs.Kind.{a_row, after_record}
use Rattle.sheet_format.specs.Kind.Lawful.{ListedBody, ListedBits, ListedGiven, Back, Lawful}
use Rattle.sheet_format.specs.Kind.Row.{row_heading, pixel_count, row_content, row_place, given_pixels}
use Rattle.sheet_format.specs.Kind.Row.Laws.{RowParts, row-parts, given-pixels, row_place-table, row_place-risen, row_place-small, row_place-in}
use Rattle.sheet_format.specs.Kind.PackedRow.{packed_reading, packed_leftover, packed_own, packed_bits, packed_content, packed_given_number, packed_body, packed_takes, packed_kind}

-- ---- where room is asked: after 1, 2, 3 and 11, before the items
unless-run : (e : ℕ) (x : Run) → run_number (unless e (λ k. stop k 0 0) x) ≡ e or_else run_number x
unless-run zero x = refl
unless-run (suc e) x = refl

unfoldable pub asked_first : Context → List ℕ → ℕ
asked_first c b = table_number (table_for c (row_heading b)) or_else too_many (pixel_count b)

unfoldable pub asked_last : Context → List ℕ → ℕ
asked_last c b =
    let tb = table_for c (row_heading b) in
    let r = stream (row_content b) in
    run_number (without_stray r (read_items (words_of tb) (pixel_count b) r)) or_else packed_leftover c b

in_order_lem : (a b m d e : ℕ) → ((a or_else (b or_else m)) or_else d) or_else e ≡ (a or_else b) or_else (m or_else d or_else e)
in_order_lem zero zero zero d e = refl
in_order_lem zero zero (suc m) d e = refl
in_order_lem zero (suc b) m d e = refl
in_order_lem (suc a) b m d e = refl

packed-parts : (m : Lent) (c : Context) (b : List ℕ)
    → packed_own m c b ≡ asked_first c b or_else (room_number m (2 * pixel_count b) or_else asked_last c b)
unfolding packed_own packed_reading row_reading first_number asked_first asked_last
packed-parts m c b =
    let tb = table_for c (row_heading b) in
    let n = pixel_count b in
    let r = stream (row_content b) in
    let run = without_stray r (read_items (words_of tb) n r) in
    let asked = table_number tb or_else too_many n or_else room_number m (2 * n) in
    ap (◌or_else packed_leftover c b) (unless-run asked run)
    ∙ in_order_lem (table_number tb) (too_many n) (room_number m (2 * n)) (run_number run) (packed_leftover c b)

packed-most : (c : Context) (b : List ℕ) → asked_first c b ≡ 0 → 2 * pixel_count b ≤ 16384
unfolding asked_first
packed-most c b e =
    omega (arith, too_many-zero (pixel_count b) (or_else-zero-right (table_number (table_for c (row_heading b))) (too_many (pixel_count b)) e))

-- ---- the pixels that are read
run-size : (n : ℕ) (x : Run) → StopIn (λ e. 0 < e) x → GivesRow nothing n x → run_number x ≡ 0
    → length (pixel_bytes (pixels_of_run x)) ≡ 2 * n
run-size n (done is u) real given e =
    let ps = pixels_of fresh is in
    length_cut 8 (2 * length ps) (flat 16 ps) ∙ ap (2 *◌) (length-pixels_of fresh is ∙ given.count)
run-size n (stop k at u) real given e = absurd (omega arith)

packed-size : (c : Context) (b : List ℕ) → packed_own nothing c b ≡ 0 → length (packed_content c b) ≡ 2 * pixel_count b
unfolding packed_own packed_content packed_reading
packed-size c b e =
    let tb = table_for c (row_heading b) in
    let n = pixel_count b in
    let w = row_content b in
    run-size n (row_reading nothing tb n w) (row_reading-stops nothing tb n w) (row_reading-gives nothing tb n w)
    (or_else-zero-left (run_number (row_reading nothing tb n w)) (packed_leftover c b) e)

-- ---- a row that was written
length-row_bytes : (t ps : List ℕ) → length (row_bytes t ps) ≡ 4 * words_for (length (row_bits t ps))
length-row_bytes t ps = length_cut 8 (4 * words_for (length (row_bits t ps))) (row_bits t ps)

row-most : (tb ps : List ℕ) → table_number tb ≡ 0 → length ps ≤ 4096 → length (row_bytes (words_of tb) ps) ≤ 13824
row-most tb ps ok few =
    let t = words_of tb in
    let each = mul-le-mul_left (length ps) (max_item_bits-most t (accepted t (table_number-verdict tb ok))) in
    rw (length-row_bytes t ps) (omega (arith, length-row_bits t ps, each))

module _ (h : Heading) (c : Context) (x : List ℕ) (small : h.row < 65536) (bytes : Below 256 x)
    (ok : table_number (table_for c h) ≡ 0) (few : length (given_pixels x) ≤ 4096)
    (low : any (ltb 4095) (given_pixels x) ≡ false) where
  packed-body : (b : List ℕ) → RowParts b h (length (given_pixels x)) (row_bytes (words_of (table_for c h)) (given_pixels x))
      → Back packed_kind h c x b
  unfolding packed_own packed_leftover packed_bits packed_content packed_takes packed_reading
  packed-body b f = record {
    fixed = rw (less_number-none (length b) 4 14 (omega (arith, f.size)), unequal_number-none (length b % 4) 0 14 whole);
    heading = f.heading;
    place = ap (row_place c) f.heading;
    own = λ m room. rw (runs m room, runs nothing refl, size)
        (less_number-none _ _ 14 (le_refl (4 * words_for (length (row_bits t ps)))));
    count = f.count;
    bits = rw (runs nothing refl);
    content = rw (runs nothing refl, pixels_of-items_for t ps low) (bytes_of-halves_of x bytes);
    after = ap (λ (g : Heading). after_record a_row g b c) f.heading;
    short = omega (arith, f.size, row-most (table_for c h) ps ok few);
  }
    where
      t : List ℕ
      t = words_of (table_for c h)

      ps : List ℕ
      ps = given_pixels x

      runs : (m : Lent) → room_number m (2 * length ps) ≡ 0
          → row_reading m (table_for c (row_heading b)) (pixel_count b) (row_content b) ≡ done (items_for t fresh ps) (length (row_bits t ps))
      runs m room =
          ap (λ (g : Heading). row_reading m (table_for c g) (pixel_count b) (row_content b)) f.heading
          ∙ rw (f.count, f.content)
          (ap (row_reading m (table_for c h) (length ps)) (sym (append-nil (row_bytes t ps)))
          ∙ row_reading-row_bytes m (table_for c h) ps [] (record { table = ok; few = few; room = room }) low)

      size : length (row_content b) ≡ 4 * words_for (length (row_bits t ps))
      size = ap length f.content ∙ length-row_bytes t ps

      whole : length b % 4 ≡ 0
      whole = omega (arith, f.size, length-row_bytes t ps)

  packed-written : Back packed_kind h c x (packed_body h c x)
  unfolding packed_body
  packed-written = packed-body (packed_body h c x)
      (row-parts h (length (given_pixels x)) (row_bytes (words_of (table_for c h)) (given_pixels x)) small (omega arith))

packed-back : (h : Heading) (c : Context) (x : List ℕ) → h.row < 65536 → Below 256 x → packed_given_number h c x ≡ 0
    → Back packed_kind h c x (packed_body h c x)
unfolding packed_given_number
packed-back h c x small bytes given =
    let tb = table_for c h in
    let n = length (given_pixels x) in
    let high = too_high (given_pixels x) in
    let after_table = or_else-zero-right (table_number tb) (too_many n or_else high) given in
    packed-written h c x small bytes (or_else-zero-left (table_number tb) (too_many n or_else high) given)
    (too_many-zero n (or_else-zero-left (too_many n) high after_table))
    (refuse_if-zero (any (ltb 4095) (given_pixels x)) 3 (or_else-zero-right (too_many n) high after_table))

-- ---- numbers
module _ (P : ℕ → Type 0) where
  packed_own-in : ListedBody P → ListedBits P → (m : Lent) → ((n : ℕ) → P (room_number m n)) → (c : Context) (b : List ℕ)
      → P (packed_own m c b)
  unfolding packed_own packed_reading packed_leftover packed_bits
  packed_own-in l bits m room c b =
      or_else-in P (run_number (row_reading m (table_for c (row_heading b)) (pixel_count b) (row_content b))) _
      (row_reading-number-in P m (table_for c (row_heading b)) (pixel_count b) (row_content b) l.p0 l.p1 l.p2 l.p3
      l.p11 (room (2 * pixel_count b)) bits.p6 bits.p7 bits.p8 bits.p9 bits.p10)
      (refuse_if-in P (ltb (4 * words_for (packed_bits c b)) (length (row_content b))) 14 l.p0 l.p14)

  packed_given_number-in : ListedGiven P → (h : Heading) (c : Context) (x : List ℕ) → P (packed_given_number h c x)
  unfolding packed_given_number
  packed_given_number-in l h c x =
      or_else-in P (table_number (table_for c h)) _ (table_number-in P (table_for c h) l.p0 l.p1 l.p2 l.p3)
      (or_else-in P (too_many (length (given_pixels x))) _ (refuse_if-in P (ltb 4096 (length (given_pixels x))) 11 l.p0 l.p11)
      (refuse_if-in P (any (ltb 4095) (given_pixels x)) 4 l.p0 l.p4))

packed_fixed-in : (P : ℕ → Type 0) → ListedBody P → (b : List ℕ) → P (packed_kind.fixed b)
packed_fixed-in P l b =
    or_else-in P (shorter_than 4 b) _ (refuse_if-in P (ltb (length b) 4) 14 l.p0 l.p14)
    (refuse_if-in P (not (eqb (length b % 4) 0)) 14 l.p0 l.p14)

pub packed-lawful : Lawful packed_kind
packed-lawful = record {
  first = asked_first;
  last = asked_last;
  own-parts = packed-parts;
  most = packed-most;
  size = packed-size;
  given-size = given-pixels;
  table-placed = λ e c h place. absurd (let z : ◌≡◌ {A = ℕ} 0 1 = cc in omega arith);
  table_before = λ other readable c h place. row_place-table c h place;
  row-risen = λ e c h place. row_place-risen c h place;
  row_small = λ e c h place. row_place-small c h place;
  rowless = λ other h g c x. absurd (other refl);
  readable-in = λ P l. l.p0;
  writable-in = λ P l. l.p0;
  fixed_in = packed_fixed-in;
  place_in = λ P l c h. row_place-in c h P l.p0 l.p16;
  own_in = packed_own-in;
  given-in = packed_given_number-in;
  readable-back = λ e. refl;
  back = λ h c x bytes writable place given. packed-back h c x (row_place-small c h place) bytes given;
}
