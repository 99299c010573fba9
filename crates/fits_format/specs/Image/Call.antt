-- The laws of the row call: what is asked before a pixel is looked at, and that the rest is what the record writer answers for
-- a packed row under the plain table. Assumes nothing.
use Prim.Native.Nat.{ℕ, zero, suc, ◌*◌, ◌≤◌, ◌<◌}
use Rattle.std.proofs.Common.{arith, ◌∙◌}
use Rattle.std.specs.Prelude.{◌≡◌, take, drop, ltb}
use Rattle.std.proofs.Math.Path.{refl, sym, ap}
use Rattle.std.proofs.Math.Bool.{false}
use mathlib.Core.List.{List}
use Rattle.std.proofs.Math.ListN.{length}
use Rattle.std.proofs.Math.Seq.{take-append_seam}
use Rattle.std.proofs.Math.Dec.{eqb}
use borrow.Author.Tests.{eqb-false, ne_eqb, eq-eqb}
use Rattle.bitstream.specs.Bits.{Below}
use Rattle.answer.specs.Outcome.{Outcome, outcome, wrote, refused, answer_of, refuse_if, unless, lent, room_number}
use Rattle.answer.specs.declared.Answer.{Answer}
use Rattle.answer.specs.Outcome.Laws.{or_else-zero-left, or_else-zero-right, or_else-same, less_number-zero, less_number-none, less_number-given, refuse_if-zero, unless-part, unless-first, unless-number, refuse_if-in, or_else-in}
use Rattle.row_format.specs.Lists.{any}
use Rattle.row_format.specs.Row.{pixel_bytes}
use Rattle.row_format.specs.Plain.{plain_bytes}
use Rattle.code_table.specs.Plain.Laws.{plain-accepted}
use Rattle.sheet_format.specs.declared.RecordWritten.{RecordWritten}
use Rattle.sheet_format.specs.Context.{context_of}
use Rattle.sheet_format.specs.Writing.{record_for, record_written, write_number}
use Rattle.fits_format.specs.Heights.{heights_record}
use Rattle.fits_format.specs.Heights.Sheet.{heights-number}
use Rattle.fits_format.specs.Image.{big_endian, signed_pixels, out_of_range, image_context, row_record, before_pixels, image_row_number, image_row}
use Rattle.fits_format.specs.Image.Laws.{length-big_endian, below-big_endian, out_of_range-any, heights-same}

-- ---- before a pixel is looked at
pub record RowStands (w r n : ℕ) : Type 0 where
  pub some : 0 < w
  pub narrow : w ≤ 4096
  pub low : r ≤ 4095
  pub there : 2 * w ≤ n

module _ (w r n : ℕ) where
  pub before_pixels-zero : before_pixels w r n ≡ 0 → RowStands w r n
  unfolding before_pixels
  before_pixels-zero e =
      let e1 = or_else-zero-right (refuse_if (eqb w 0) 17) _ e in
      let e2 = or_else-zero-right (refuse_if (ltb 4096 w) 11) _ e1 in
      let e3 = or_else-zero-right (refuse_if (ltb 4095 r) 11) _ e2 in
      let some : w ≡ 0 → ⊥ = eqb-false w 0 (refuse_if-zero (eqb w 0) 16 (or_else-zero-left (refuse_if (eqb w 0) 17) _ e)) in
      record {
        some = omega (arith, some);
        narrow = less_number-zero 4096 w 10 (or_else-zero-left (refuse_if (ltb 4096 w) 11) _ e1);
        low = less_number-zero 4095 r 10 (or_else-zero-left (refuse_if (ltb 4095 r) 11) _ e2);
        there = less_number-zero n (2 * w) 17 e3;
      }

  pub before_pixels-stands : RowStands w r n → before_pixels w r n ≡ 0
  unfolding before_pixels
  before_pixels-stands h =
      let some : eqb w 0 ≡ false = ne_eqb w 0 (λ e. absurd (omega (arith, e, h.some))) in
      rw (some, less_number-none 4096 w 11 h.narrow, less_number-none 4095 r 11 h.low)
      (less_number-none n (2 * w) 18 h.there)

  -- it is one of these
  pub before_pixels-in : (P : ℕ → Type 0) → P 0 → P 17 → P 11 → P 18 → P (before_pixels w r n)
  unfolding before_pixels
  before_pixels-in P p0 p17 p11 p18 =
      or_else-in P (refuse_if (eqb w 0) 17) _ (refuse_if-in P (eqb w 0) 17 p0 p17)
      (or_else-in P (refuse_if (ltb 4096 w) 11) _ (refuse_if-in P (ltb 4096 w) 11 p0 p11)
      (or_else-in P (refuse_if (ltb 4095 r) 11) _ (refuse_if-in P (ltb 4095 r) 11 p0 p11)
      (refuse_if-in P (ltb n (2 * w)) 18 p0 p18)))

  -- the ways out, in order
  pub before_pixels-none : w ≡ 0 → before_pixels w r n ≡ 17
  unfolding before_pixels
  before_pixels-none e = rw (eq-eqb w 0 e)

  module _ (some : w ≡ 0 → ⊥) where
    pub before_pixels-wide : 4096 < w → before_pixels w r n ≡ 11
    unfolding before_pixels
    before_pixels-wide h = rw (ne_eqb w 0 some, less_number-given 4096 w 11 h)

    module _ (narrow : w ≤ 4096) where
      pub before_pixels-far : 4095 < r → before_pixels w r n ≡ 11
      unfolding before_pixels
      before_pixels-far h = rw (ne_eqb w 0 some, less_number-none 4096 w 11 narrow, less_number-given 4095 r 11 h)

      module _ (low : r ≤ 4095) where
        pub before_pixels-rest : before_pixels w r n ≡ refuse_if (ltb n (2 * w)) 18
        unfolding before_pixels
        before_pixels-rest = rw (ne_eqb w 0 some, less_number-none 4096 w 11 narrow, less_number-none 4095 r 11 low)

-- such a refusal is the row's
pub image_row-before : (w r : ℕ) (s m : List ℕ) → (before_pixels w r (length s) ≡ 0 → ⊥)
    → image_row w r s m ≡ refused (before_pixels w r (length s)) m
unfolding image_row image_row_number
image_row-before w r s m some = unless-first (before_pixels w r (length s)) _ (λ e. refused e m) _ some

-- ---- the record writer's answer, as the row call passes it on
abbrev pub row_answer : Outcome RecordWritten → Outcome Answer
row_answer o = outcome (answer_of o.answer.number o.answer.count) o.memory

-- what differs after a refusal makes no difference
unless-done : {A : Type 0} (e : ℕ) (refusal : ℕ → A) (x y : A) → (e ≡ 0 → x ≡ y) → unless e refusal x ≡ unless e refusal y
unless-done zero refusal x y h = h refl
unless-done (suc e) refusal x y h = refl

module _ (w r : ℕ) (s m : List ℕ) (bytes : Below 256 s) (stands : RowStands w r (length s)) where
  abbrev vs : List ℕ
  vs = big_endian w s

  -- a row whose pixels are heights has its record
  own-record : refuse_if (any out_of_range (signed_pixels w s)) 4 ≡ 0
      → record_for 2 (record { row = r }) (image_context r) (pixel_bytes vs) ≡ row_record w r s
  unfolding row_record
  own-record e =
      let none : any (ltb 4095) vs ≡ false = sym (out_of_range-any vs) ∙ refuse_if-zero (any out_of_range (signed_pixels w s)) 3 e in
      ap (λ (ps : List ℕ). record_for 2 (record { row = r }) (image_context r) (pixel_bytes ps)) (sym (heights-same vs none))

  numbers-same : write_number 2 (record { row = r }) (image_context r) (pixel_bytes vs) (length m)
      ≡ image_row_number w r s (length m)
  unfolding image_row_number heights_record
  numbers-same =
      let few : length vs ≤ 4096 = omega (arith, length-big_endian w s, stands.narrow) in
      let low : r ≤ 65535 = omega (arith, stands.low) in
      heights-number plain_bytes plain-accepted r low vs few (below-big_endian w s bytes) (length m)
      ∙ rw (← out_of_range-any vs, before_pixels-stands w r (length s) stands)
      (or_else-same (refuse_if (any out_of_range (signed_pixels w s)) 4) _ _
      (λ e. ap (λ (b : List ℕ). room_number (lent (length m)) (length b)) (own-record e)))

  right : image_row_number w r s (length m) ≡ 0 → refuse_if (any out_of_range (signed_pixels w s)) 4 ≡ 0
  unfolding image_row_number
  right e =
      or_else-zero-left (refuse_if (any out_of_range (signed_pixels w s)) 4) _
      (or_else-zero-right (before_pixels w r (length s)) _ e)

  pub image_row-written : row_answer (record_written 2 (record { row = r }) (image_context r) (pixel_bytes (big_endian w s)) m)
      ≡ image_row w r s m
  unfolding record_written image_row
  image_row-written =
      let x : List ℕ = record_for 2 (record { row = r }) (image_context r) (pixel_bytes vs) in
      unless-part row_answer (write_number 2 (record { row = r }) (image_context r) (pixel_bytes vs) (length m)) _ _
      ∙ rw numbers-same
      (unless-done (image_row_number w r s (length m)) (λ e. refused e m) (wrote (length x) x m) _
      (λ e. ap (λ (b : List ℕ). wrote (length b) b m) (own-record (right e))))

  -- of a table and pixels that are the plain table's bytes and the row's pixels
  pub image_row-given : {o : Outcome RecordWritten} {tb x : List ℕ} → tb ≡ plain_bytes → x ≡ pixel_bytes (big_endian w s)
      → o ≡ record_written 2 (record { row = r }) (context_of tb (record { has_table = 1; least_row = r })) x m
      → row_answer o ≡ image_row w r s m
  image_row-given table pixels e = ap row_answer e ∙ rw (table, pixels) image_row-written

-- ---- what it answers
module _ (w r : ℕ) (s m : List ℕ) where
  pub image_row-number : (image_row w r s m).answer.number ≡ image_row_number w r s (length m)
  unfolding image_row
  image_row-number =
      unless-number (λ (o : Outcome Answer). o.answer.number) (λ e. refused e m) (wrote (length (row_record w r s)) (row_record w r s) m)
      (λ k. refl) (image_row_number w r s (length m)) refl

  -- done, the bytes counted are the record
  pub image_row-counted : image_row_number w r s (length m) ≡ 0
      → take (image_row w r s m).answer.count (image_row w r s m).memory ≡ row_record w r s
  unfolding image_row
  image_row-counted e = rw e (take-append_seam (row_record w r s) (drop (length (row_record w r s)) m))

  -- and its pixels are heights
  pub image_row-heights : image_row_number w r s (length m) ≡ 0 → any out_of_range (signed_pixels w s) ≡ false
  unfolding image_row_number
  image_row-heights e =
      refuse_if-zero (any out_of_range (signed_pixels w s)) 3
      (or_else-zero-left (refuse_if (any out_of_range (signed_pixels w s)) 4) _ (or_else-zero-right (before_pixels w r (length s)) _ e))

  pub image_row-stands : image_row_number w r s (length m) ≡ 0 → RowStands w r (length s)
  unfolding image_row_number
  image_row-stands e = before_pixels-zero w r (length s) (or_else-zero-left (before_pixels w r (length s)) _ e)

  -- there was room
  pub image_row-room : image_row_number w r s (length m) ≡ 0 → length (row_record w r s) ≤ length m
  unfolding image_row_number
  image_row-room e =
      let e1 = or_else-zero-right (before_pixels w r (length s)) _ e in
      less_number-zero (length m) (length (row_record w r s)) 4
      (or_else-zero-right (refuse_if (any out_of_range (signed_pixels w s)) 4) _ e1)
