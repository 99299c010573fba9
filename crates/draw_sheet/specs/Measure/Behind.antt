-- What the records behind a fault claim, one record after another. Assumes nothing.
use Prim.Native.Nat.{ℕ, zero, suc, ◌+◌, ◌≤◌, ◌<◌, max}
use Rattle.std.proofs.Common.{lt_of_lt_of_le, arith, sym, ap, ◌∙◌, append_assoc, length-take, length-drop, take_all, take_at, pow_mono}
use Rattle.std.specs.Prelude.{◌≡◌, refl, List, [], ◌∷◌, ◌++◌, length, take, ltb}
use Rattle.std.proofs.Math.ListN.{drop, length-append}
use Rattle.std.proofs.Math.Seq.{drop_at}
use borrow.Author.Tests.{eq-eqb, ne_eqb, ltb-false}
use Rattle.bitstream.specs.Bits.{bits_of, number_of}
use Rattle.bitstream.specs.Bits.Laws.{length-flat, below-flat, num_of-lt}
use Rattle.row_format.specs.Lists.Laws.{by-test}
use Rattle.sheet_format.specs.Fields.{two_at}
use Rattle.sheet_format.specs.Record.{length_field, kind_field, length_number, record_span}
use Rattle.sheet_format.specs.Record.Laws.{RightLength, right-length}
use Rattle.sheet_format.specs.Stream.{held_of}
use Rattle.sheet_format.proofs.Stream.Held.{span_right}
use Rattle.sheet_format.proofs.Theorems.Locality.{Alike, alike, field-front}
use Rattle.sheet_picture.specs.Extent.{is_row_kind, row_claimed, rows_claimed}
use Rattle.draw_sheet.specs.Measure.{Claims}

-- ---- a number of bytes is enough: so many as there are
none-claimed : (n : ℕ) → rows_claimed n [] ≡ 0
unfolding rows_claimed length_number
none-claimed zero = refl
none-claimed (suc n) = refl

nothing-in : (t : List ℕ) → length t ≤ 0 → t ≡ []
nothing-in [] h = refl
nothing-in (x ∷ t) h = absurd (omega arith)

claimed-enough : (n m : ℕ) (t : List ℕ) → length t ≤ n → length t ≤ m → rows_claimed n t ≡ rows_claimed m t
unfolding rows_claimed
claimed-enough zero m t hn hm = rw (nothing-in t hn) (sym (none-claimed m))
claimed-enough (suc n) zero t hn hm = rw (nothing-in t hm) (none-claimed (suc n))
claimed-enough (suc n) (suc m) t hn hm =
    let rest = drop (4 + length_field t) t in
    let size = length-drop (4 + length_field t) t in
    rw (claimed-enough n m rest (omega arith) (omega arith))

-- ---- a record that is there by its length, and is all that is held
module _ (b : List ℕ) (whole : length_number b ≡ 0) (held : b ≡ held_of b) where
  right : RightLength b
  right = right-length b whole

  span : record_span b ≡ 4 + length_field b
  span = span_right b right.least right.most

  size : length b ≡ 4 + length_field b
  size =
      let most = ap length held ∙ length-take (record_span b) b in
      omega (arith, span, right.there)

  all : take (4 + length_field b) b ≡ b
  all = take_all (4 + length_field b) b (omega (arith, size))

  module _ (t : List ℕ) where
    same : Alike b (b ++ t)
    same = rw all at (alike b t right)

    pub held-front : held_of (b ++ t) ≡ b
    held-front =
        let spans : record_span (b ++ t) ≡ 4 + length_field b =
        span_right (b ++ t) (rw same.whole right.least) (rw same.whole right.most) ∙ rw same.whole in
        rw spans (take_at b t (4 + length_field b) size)

    row_same : 4 ≤ length_field b → two_at 6 (b ++ t) ≡ two_at 6 b
    row_same long = ap number_of (rw all at (field-front 6 2 (4 + length_field b) b t (omega arith) right.there))

    claim-same : row_claimed (b ++ t) ≡ row_claimed b
    unfolding row_claimed
    claim-same =
        by-test (ltb (length_field b) 4)
        (λ short. rw (same.whole, short))
        (λ long. rw (same.whole, same.kind, row_same (ltb-false (length_field b) 4 long)))

    claimed-by : (n : ℕ) → n ≡ length (b ++ t) → rows_claimed n (b ++ t) ≡ max (row_claimed b) (rows_claimed (length t) t)
    unfolding rows_claimed
    claimed-by zero e = absurd (omega (arith, length-append b t, size))
    claimed-by (suc n) e =
        let behind : drop (4 + length_field b) (b ++ t) ≡ t = drop_at b t (4 + length_field b) size in
        let enough : rows_claimed n t ≡ rows_claimed (length t) t =
        claimed-enough n (length t) t (omega (arith, length-append b t, size)) (omega arith) in
        rw (same.size, eq-eqb (length_number b) 0 whole, claim-same, same.whole, behind, enough)

    claimed-more : rows_claimed (length (b ++ t)) (b ++ t) ≡ max (row_claimed b) (rows_claimed (length t) t)
    claimed-more = claimed-by (length (b ++ t)) refl

-- and where its length is not right, nothing is claimed from there on
claimed-end : (b : List ℕ) → (length_number b ≡ 0 → ⊥) → (n : ℕ) → rows_claimed n b ≡ 0
unfolding rows_claimed
claimed-end b wrong zero = refl
claimed-end b wrong (suc n) = rw (ne_eqb (length_number b) 0 wrong)

-- ---- on the way: from the refused record on, of which b is held, some whole records were taken, which claim h rows; of the next
-- one r is held
pub record Claiming (b r : List ℕ) (h : ℕ) : Type 0 where
  pub behind : List ℕ
  pub held : r ≡ held_of r
  pub front : (t : List ℕ) → held_of t ≡ r → held_of (behind ++ t) ≡ b
  pub claims : (t : List ℕ) → rows_claimed (length (behind ++ t)) (behind ++ t) ≡ max h (rows_claimed (length t) t)

pub claiming-first : {b : List ℕ} → b ≡ held_of b → Claiming b b 0
claiming-first held = record { behind = []; held = held; front = λ t e. e; claims = λ t. omega arith }

module _ {b r : List ℕ} {h : ℕ} (at : Claiming b r h) where
  pub claiming-next : {k : ℕ} {next : List ℕ} → length_number r ≡ 0 → k ≡ max h (row_claimed r) → next ≡ held_of next → Claiming b next k
  claiming-next {next = next} whole is held =
      record {
        behind = at.behind ++ r;
        held = held;
        front = λ t e. rw (append_assoc at.behind r t) (at.front (r ++ t) (held-front r whole at.held t));
        claims = λ t.
            rw (append_assoc at.behind r t) (at.claims (r ++ t) ∙ omega (arith, claimed-more r whole at.held t, is));
      }

  pub claiming-end : (length_number r ≡ 0 → ⊥) → Claims b h
  claiming-end wrong =
      record {
        behind = at.behind ++ r;
        held = at.front r (sym at.held);
        claimed = at.claims r ∙ omega (arith, claimed-end r wrong (length r));
      }

-- ---- no row that is claimed has a number above 65535
two-small : (b : List ℕ) (k : ℕ) → two_at k b < 65536
two-small b k =
    let x = take 2 (drop k b) in
    let bits : length (bits_of x) ≤ 16 = omega (arith, length-flat 8 x, length-take 2 (drop k b)) in
    lt_of_lt_of_le (num_of-lt (bits_of x) (below-flat 8 x)) (pow_mono bits)

pub claimed-most : (b : List ℕ) → row_claimed b ≤ 65536
unfolding row_claimed
claimed-most b =
    by-test (ltb (length_field b) 4) (λ short. rw short (omega arith))
    (λ long.
    by-test (is_row_kind (kind_field b)) (λ row. rw (long, row) (omega (arith, two-small b 6))) (λ other. rw (long, other) (omega arith)))
