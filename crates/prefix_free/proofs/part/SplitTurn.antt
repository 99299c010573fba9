-- What a turn of split does to the words that it parts, and its end. Assumes nothing.
use Prim.Native.Nat.{ℕ, ◌+◌, ◌-◌, ◌≤◌, ◌<◌}
use native.Mathlib.Nat.{le_refl}
use native.Mathlib.Decide.{dec_lt}
use native.Mathlib.Numerals.{add-one}
use native.Mathlib.Omega.{arith}
use mathlib.Core.Path.{◌≡◌, sym, ap, ◌∙◌}
use mathlib.Core.Bool.{false, ◌||◌}
use mathlib.Core.List.{List, [], ◌∷◌, ◌++◌, map, map-append}
use lib.ListN.{length, take, drop, get_or, length-drop, length-map, take-append-drop}
use lib.Seq.{take-suc, get_or-take, get_or-drop, length-take-le}
use Rattle.row_format.specs.Table.{codeword}
use Rattle.row_format.specs.Table.Laws.{length-codeword}
use Rattle.prefix_free.specs.Branch.{clashes, bit_at, Agree, Longer, Split}
use Rattle.prefix_free.specs.Branch.Pairs.{meets, meets-false, clash-append}
use Rattle.prefix_free.specs.Branch.Laws.{get_d-codeword, get_d-codewords}
use Rattle.prefix_free.proofs.part.SplitExchange.{
  swapped,
  Moved,
  up,
  down,
  stays,
  Exchanged,
  source,
  moved-lt,
  swapped-exchanged,
  clash-exchanged,
}

-- each word of p is a word of l
pub record Among (l p : List ℕ) : Type 0 where
  pub place : (k : ℕ) → k < length p → (k' : ℕ) × (k' < length l) × (get_or p k 0 ≡ get_or l k' 0)

-- of the first n words those below r have a 0 at bit d, and the others a 1
pub record Parted (d : ℕ) (l : List ℕ) (n r : ℕ) : Type 0 where
  pub most : r ≤ n
  pub zeros : (k : ℕ) → k < r → bit_at d (get_or l k 0) ≡ 0
  pub ones : (k : ℕ) → r ≤ k → k < n → bit_at d (get_or l k 0) ≡ 1

-- what the parting of s keeps while it moves words about, t being where it has come to
pub record Reordered (d : ℕ) (s t : List ℕ) : Type 0 where
  pub long : length t ≡ length s
  pub agree : Agree d t
  pub longer : Longer d t
  pub clashing : clashes t ≡ clashes s

-- where all have one and the same bit at d, they agree in that too
agree-more : (d b : ℕ) (l : List ℕ) → Agree d l → Longer d l → ((k : ℕ) → k < length l → bit_at d (get_or l k 0) ≡ b) → Agree (d + 1) l
agree-more d b l a g h = record { same = same }
  where
    more : (k : ℕ) → k < length l → take (d + 1) (codeword (get_or l k 0)) ≡ take d (codeword (get_or l k 0)) ++ (b ∷ [])
    more k hk =
        let e : get_or (codeword (get_or l k 0)) d 0 ≡ b = get_d-codeword (get_or l k 0) d (g.longer k hk) ∙ h k hk in
        rw (add-one d, take-suc (codeword (get_or l k 0)) d 0 (rw (length-codeword (get_or l k 0)) (g.longer k hk)), e)

    same : (i j : ℕ) → i < length l → j < length l → take (d + 1) (codeword (get_or l i 0)) ≡ take (d + 1) (codeword (get_or l j 0))
    same i j hi hj = rw (more i hi, more j hj, a.same i j hi hj)

agree-among : {d : ℕ} {l p : List ℕ} → Agree d l → Among l p → Agree d p
agree-among {d} {l} {p} a m = record { same = same }
  where
    same : (i j : ℕ) → i < length p → j < length p → take d (codeword (get_or p i 0)) ≡ take d (codeword (get_or p j 0))
    same i j hi hj =
        let x = m.place i hi in
        let y = m.place j hj in
        rw (x.2, y.2) (a.same x.0 y.0 x.1 y.1)

longer-among : {d : ℕ} {l p : List ℕ} → Longer d l → Among l p → Longer d p
longer-among g m = record { longer = λ k h. let x = m.place k h in rw x.2 (g.longer x.0 x.1) }

-- ---- a turn of the parting
exchanged-among : {a b : ℕ} {l p : List ℕ} → a < length l → b < length l → Exchanged a b 0 l p → Among l p
exchanged-among {a} {b} {l} {p} ha hb x = record { place = place }
  where
    place : (k : ℕ) → k < length p → (k' : ℕ) × (k' < length l) × (get_or p k 0 ≡ get_or l k' 0)
    place k h =
        let m = source a b k in
        let long : length p ≡ length l = x.long in
        (m.0, moved-lt (length l) ha hb (omega arith) m.1, x.from m.1)

exchanged-codewords : {a b : ℕ} {l p : List ℕ} → Exchanged a b 0 l p → Exchanged a b [] (map codeword l) (map codeword p)
exchanged-codewords {a} {b} {l} {p} x =
    record {
      long = length-map p codeword ∙ x.long ∙ sym (length-map l codeword);
      from = λ {k} {k'} m. get_d-codewords p k ∙ ap codeword (x.from m) ∙ sym (get_d-codewords l k');
    }

pub reordered-more : {d : ℕ} {s t : List ℕ} (i r : ℕ) → Reordered d s t → i < length t → r < length t → Reordered d s (swapped t i r 0)
reordered-more {d} {s} {t} i r x hi hr =
    let e = swapped-exchanged i r 0 t hi hr in
    let m = exchanged-among hi hr e in
    record {
      long = e.long ∙ x.long;
      agree = agree-among x.agree m;
      longer = longer-among x.longer m;
      clashing = clash-exchanged (rw (length-map t codeword) hi) (rw (length-map t codeword) hr) (exchanged-codewords e) ∙ x.clashing;
    }

-- the word at i goes to r, where the part of the ones begins, and what stood there to i: if the word's bit is 0, the part
-- begins one place further up
pub parted-more : {d : ℕ} {l : List ℕ} {i r : ℕ} → Parted d l i r → i < length l
    → Parted d (swapped l i r 0) (i + 1) (r + (1 - bit_at d (get_or l i 0)))
parted-more {d} {l} {i} {r} x h =
    record {
      most = let m = x.most in omega arith;
      zeros = λ k b. let m = source i r k in ap (bit_at d) (e.from m.1) ∙ zero-at k m.0 b m.1;
      ones = λ k a b. let m = source i r k in ap (bit_at d) (e.from m.1) ∙ one_at k m.0 a b m.1;
    }
  where
    low : r ≤ i
    low = x.most

    e : Exchanged i r 0 l (swapped l i r 0)
    e = swapped-exchanged i r 0 l h (omega arith)

    zero-at : (k k' : ℕ) → k < r + (1 - bit_at d (get_or l i 0)) → Moved i r k k' → bit_at d (get_or l k' 0) ≡ 0
    zero-at k k' b (up p q) = let j : k' ≡ i = omega arith in rw j (omega arith)
    zero-at k k' b (down p q) = rw q (omega arith)
    zero-at k k' b (stays p q j) = rw j (x.zeros k (omega arith))

    one_at : (k k' : ℕ) → r + (1 - bit_at d (get_or l i 0)) ≤ k → k < i + 1 → Moved i r k k' → bit_at d (get_or l k' 0) ≡ 1
    one_at k k' a b (up p q) =
        elim (dec_lt r i) [
          | yes t ↦ rw q (x.ones r (le_refl r) t)
          | no t ↦ let j : k' ≡ i = omega arith in rw j (omega arith)
        ]
    one_at k k' a b (down p q) = rw q (omega arith)
    one_at k k' a b (stays p q j) = rw j (x.ones k (omega arith) (omega arith))

-- ---- the two parts
take-among : (r : ℕ) (l : List ℕ) → r ≤ length l → Among l (take r l)
take-among r l h = record { place = place }
  where
    place : (k : ℕ) → k < length (take r l) → (k' : ℕ) × (k' < length l) × (get_or (take r l) k 0 ≡ get_or l k' 0)
    place k b = let c : k < r = rw (length-take-le r l h) at b in (k, omega arith, get_or-take r l k 0 c)

drop-among : (r : ℕ) (l : List ℕ) → Among l (drop r l)
drop-among r l = record { place = place }
  where
    place : (k : ℕ) → k < length (drop r l) → (k' : ℕ) × (k' < length l) × (get_or (drop r l) k 0 ≡ get_or l k' 0)
    place k b = let c : k < length l - r = rw (length-drop r l) at b in (r + k, omega arith, get_or-drop r l k 0)

-- words that have different bits at d do not clash
clashes-append : (d : ℕ) (l p : List ℕ) → Longer d l → Longer d p
    → ((k : ℕ) → k < length l → bit_at d (get_or l k 0) ≡ 0) → ((k : ℕ) → k < length p → bit_at d (get_or p k 0) ≡ 1)
    → clashes (l ++ p) ≡ (clashes l || clashes p)
clashes-append d l p gl gp zeros ones = rw (map-append codeword l p) (clash-append (map codeword l) (map codeword p) across)
  where
    across : (i j : ℕ) → i < length (map codeword l) → j < length (map codeword p)
        → meets (get_or (map codeword l) i []) (get_or (map codeword p) j []) ≡ false
    across i j hi hj =
        let ki : i < length l = rw (length-map l codeword) at hi in
        let kj : j < length p = rw (length-map p codeword) at hj in
        let bi = get_d-codeword (get_or l i 0) d (gl.longer i ki) ∙ zeros i ki in
        let bj = get_d-codeword (get_or p j 0) d (gp.longer j kj) ∙ ones j kj in
        rw (get_d-codewords l i, get_d-codewords p j)
        (meets-false d (codeword (get_or l i 0)) (codeword (get_or p j 0)) (rw (length-codeword (get_or l i 0)) (gl.longer i ki))
        (rw (length-codeword (get_or p j 0)) (gp.longer j kj)) (omega arith))

pub parted-split : {d : ℕ} {s t : List ℕ} {r : ℕ} → Reordered d s t → Parted d t (length t) r → Split d s t r
parted-split {d} {s} {t} {r} x p =
    record {
      most = p.most;
      low = agree-more d 0 (take r t) (agree-among x.agree lows) (longer-among x.longer lows) zeros;
      high = agree-more d 1 (drop r t) (agree-among x.agree highs) (longer-among x.longer highs) ones;
      clashing =
          sym x.clashing ∙ ap clashes (sym (take-append-drop r t))
          ∙ clashes-append d (take r t) (drop r t) (longer-among x.longer lows) (longer-among x.longer highs) zeros ones;
    }
  where
    lows : Among t (take r t)
    lows = take-among r t p.most

    highs : Among t (drop r t)
    highs = drop-among r t

    zeros : (k : ℕ) → k < length (take r t) → bit_at d (get_or (take r t) k 0) ≡ 0
    zeros k h = let c : k < r = rw (length-take-le r t p.most) at h in rw (get_or-take r t k 0 c) (p.zeros k c)

    ones : (k : ℕ) → k < length (drop r t) → bit_at d (get_or (drop r t) k 0) ≡ 1
    ones k h = let c : k < length t - r = rw (length-drop r t) at h in rw (get_or-drop r t k 0) (p.ones (r + k) (omega arith) (omega arith))
