-- The plain row's kind is lawful. Assumes nothing.
use Rattle.std.specs.Prelude.{ℕ, ◌*◌, ◌≤◌, ◌<◌, ◌≡◌, refl, not, false, List, take, ltb, eqb}
use Rattle.std.proofs.Common.{arith}
use Rattle.std.proofs.Math.Path.{ap}
use Rattle.std.proofs.Math.ListN.{length}
use Rattle.bitstream.specs.Bits.{halves_of, Below}
use Rattle.answer.specs.Outcome.{◌or_else◌, refuse_if, Lent, nothing, room_number}
use Rattle.answer.specs.Outcome.Laws.{less_number-none, unequal_number-none, unequal_number-zero, refuse_if-zero, refuse_if-in, or_else-in, or_else-none, or_else-zero-left, or_else-zero-right}
use Rattle.row_format.specs.Lists.{any}
use Rattle.row_format.specs.Row.{too_many, too_high}
use Rattle.row_format.specs.Row.Laws.{too_many-zero}
use Rattle.sheet_format.specs.Context.{Heading, Context}
use Rattle.sheet_format.specs.Kind.{a_row, after_record}
use Rattle.sheet_format.specs.Kind.Lawful.{ListedBody, ListedGiven, Back, Lawful}
use Rattle.sheet_format.specs.Kind.Row.{pixel_count, row_content, row_place, given_pixels}
use Rattle.sheet_format.specs.Kind.Row.Laws.{RowParts, row-parts, given-pixels, pixels-size, halves-same, row_place-table, row_place-risen, row_place-small, row_place-in}
use Rattle.sheet_format.specs.Kind.PlainRow.{plain_number, plain_own, plain_content, plain_given_number, plain_body, plain_kind}

-- ---- room is asked last
plain-parts : (m : Lent) (c : Context) (b : List ℕ)
    → plain_own m c b ≡ plain_number b or_else (room_number m (2 * pixel_count b) or_else 0)
unfolding plain_own
plain-parts m c b = rw (or_else-none (room_number m (2 * pixel_count b)))

plain-most : (c : Context) (b : List ℕ) → plain_number b ≡ 0 → 2 * pixel_count b ≤ 16384
unfolding plain_number
plain-most c b e = omega (arith, too_many-zero (pixel_count b) (or_else-zero-left (too_many (pixel_count b)) _ e))

plain_size : (c : Context) (b : List ℕ) → plain_own nothing c b ≡ 0 → length (plain_content c b) ≡ 2 * pixel_count b
unfolding plain_own plain_number plain_content
plain_size c b e =
    let n = pixel_count b in
    let uneven = refuse_if (not (eqb (length (row_content b)) (2 * n))) 14 in
    let high = too_high (halves_of (row_content b)) in
    let number = or_else-zero-left (too_many n or_else uneven or_else high) 0 e in
    unequal_number-zero (length (row_content b)) (2 * n) 13
    (or_else-zero-left uneven high (or_else-zero-right (too_many n) (uneven or_else high) number))

-- ---- a row that was written
module _ (h : Heading) (c : Context) (x : List ℕ) (small : h.row < 65536) (bytes : Below 256 x)
    (few : length (given_pixels x) ≤ 4096) (low : any (ltb 4095) (given_pixels x) ≡ false) where
  plain_body_lem : (b : List ℕ) → RowParts b h (length (given_pixels x)) (take (2 * length (given_pixels x)) x) → Back plain_kind h c x b
  unfolding plain_own plain_number plain_content
  plain_body_lem b f = record {
    fixed = less_number-none (length b) 4 14 (omega (arith, f.size));
    heading = f.heading;
    place = ap (row_place c) f.heading;
    own = λ m room. rw (
      f.count,
      f.content,
      less_number-none 4096 (length (given_pixels x)) 11 few,
      unequal_number-none (length (take (2 * length (given_pixels x)) x)) (2 * length (given_pixels x)) 14 (pixels-size x),
      halves-same x bytes,
      low,
    ) room;
    count = f.count;
    bits = refl;
    content = f.content;
    after = ap (λ (g : Heading). after_record a_row g b c) f.heading;
    short = omega (arith, f.size, pixels-size x);
  }

  plain-written : Back plain_kind h c x (plain_body h c x)
  unfolding plain_body
  plain-written = plain_body_lem (plain_body h c x)
      (row-parts h (length (given_pixels x)) (take (2 * length (given_pixels x)) x) small (omega arith))

plain_back : (h : Heading) (c : Context) (x : List ℕ) → h.row < 65536 → Below 256 x → plain_given_number h c x ≡ 0
    → Back plain_kind h c x (plain_body h c x)
unfolding plain_given_number
plain_back h c x small bytes given =
    let n = length (given_pixels x) in
    let high = too_high (given_pixels x) in
    plain-written h c x small bytes (too_many-zero n (or_else-zero-left (too_many n) high given))
    (refuse_if-zero (any (ltb 4095) (given_pixels x)) 3 (or_else-zero-right (too_many n) high given))

-- ---- numbers
module _ (P : ℕ → Type 0) where
  pub plain_own-in : ListedBody P → (m : Lent) → ((n : ℕ) → P (room_number m n)) → (c : Context) (b : List ℕ) → P (plain_own m c b)
  unfolding plain_own plain_number
  plain_own-in l m room c b =
      let n = pixel_count b in
      or_else-in P (plain_number b) _
      (or_else-in P (too_many n) _ (refuse_if-in P (ltb 4096 n) 11 l.p0 l.p11)
      (or_else-in P (refuse_if (not (eqb (length (row_content b)) (2 * n))) 14) _
      (refuse_if-in P (not (eqb (length (row_content b)) (2 * n))) 14 l.p0 l.p14)
      (refuse_if-in P (any (ltb 4095) (halves_of (row_content b))) 4 l.p0 l.p4)))
      (room (2 * n))

  plain_given_number-in : ListedGiven P → (h : Heading) (c : Context) (x : List ℕ) → P (plain_given_number h c x)
  unfolding plain_given_number
  plain_given_number-in l h c x =
      or_else-in P (too_many (length (given_pixels x))) _ (refuse_if-in P (ltb 4096 (length (given_pixels x))) 11 l.p0 l.p11)
      (refuse_if-in P (any (ltb 4095) (given_pixels x)) 4 l.p0 l.p4)

pub plain-lawful : Lawful plain_kind
plain-lawful = record {
  first = λ c b. plain_number b;
  last = λ c b. 0;
  own-parts = plain-parts;
  most = plain-most;
  size = plain_size;
  given-size = given-pixels;
  table-placed = λ e c h place. absurd (let z : ◌≡◌ {A = ℕ} 0 1 = cc in omega arith);
  table_before = λ other readable c h place. row_place-table c h place;
  row-risen = λ e c h place. row_place-risen c h place;
  row_small = λ e c h place. row_place-small c h place;
  rowless = λ other h g c x. absurd (other refl);
  readable-in = λ P l. l.p0;
  writable-in = λ P l. l.p0;
  fixed_in = λ P l b. refuse_if-in P (ltb (length b) 4) 14 l.p0 l.p14;
  place_in = λ P l c h. row_place-in c h P l.p0 l.p16;
  own_in = λ P l bits. plain_own-in P l;
  given-in = plain_given_number-in;
  readable-back = λ e. refl;
  back = λ h c x bytes writable place given. plain_back h c x (row_place-small c h place) bytes given;
}
