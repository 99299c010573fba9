-- The twelve places of an opened shelf, written one after another. Assumes nothing.
use Prim.Native.Nat.{ℕ, zero, suc, ◌+◌, ◌*◌, ◌≤◌, ◌<◌}
use native.Mathlib.Nat.{zero-add, suc-add}
use native.Mathlib.Omega.{arith}
use mathlib.Core.Path.{◌≡◌, refl, sym, ap, ◌∙◌}
use mathlib.Core.List.{List, [], ◌∷◌, ◌++◌, append_assoc}
use lib.ListN.{length, take, drop, replicate, length-append}
use lib.Seq.{take_at, drop_at, drop-append-add, drop-drop}
use borrow.Rule.Slice.PartMut.{put_mid}
use borrow.Author.Tests.{lt-ltb}
use Rattle.answer.specs.Outcome.{outcome, answer_of, refused, wrote, ◌or_else◌}
use Rattle.answer.specs.Outcome.Laws.{or_else-none, or_else-zero-left, or_else-zero-right, given-first, given-next}
use Rattle.row_format.specs.Table.{table_number}
use Rattle.shelf_format.specs.Shelf.{placed, filled}
use Rattle.shelf_format.proofs.Shelf.Laws.{length-filled, table-bytes}
use Rattle.shelf_format.specs.Calls.{short_number, tables_number, shelved, shelf_opened}
use Rattle.shelf_format.proofs.Calls.Laws.{short_none, refuses, passes, length-opened}

-- ---- numbers
module _ (t0 t1 t2 t3 : List ℕ) where
  abbrev tables : List (List ℕ)
  tables = t0 ∷ t1 ∷ t2 ∷ t3 ∷ []

  pub record Sizes : Type 0 where
    pub size0 : length t0 ≤ 32772
    pub size1 : length t1 ≤ 32772
    pub size2 : length t2 ≤ 32772
    pub size3 : length t3 ≤ 32772

  -- accepted tables have room in a place
  pub sizes : tables_number tables ≡ 0 → Sizes
  unfolding tables_number
  sizes none =
      let after0 = or_else-zero-right (table_number t0) _ none in
      let after1 = or_else-zero-right (table_number t1) _ after0 in
      let after2 = or_else-zero-right (table_number t2) _ after1 in
      record {
        size0 = (table-bytes t0 (or_else-zero-left (table_number t0) _ none)).most;
        size1 = (table-bytes t1 (or_else-zero-left (table_number t1) _ after0)).most;
        size2 = (table-bytes t2 (or_else-zero-left (table_number t2) _ after1)).most;
        size3 = (table-bytes t3 (or_else-zero-left (table_number t3) _ after2)).most;
      }

-- the first table, or those after it
pub tables-first : (tb : List ℕ) (tbs : List (List ℕ)) {e : ℕ} → e ≡ table_number tb → (e ≡ 0 → ⊥) → e ≡ tables_number (tb ∷ tbs)
unfolding tables_number
tables-first tb tbs is some = given-first (table_number tb) _ is some

pub tables-next : (tb : List ℕ) (tbs : List (List ℕ)) {e : ℕ} → 0 ≡ table_number tb → e ≡ tables_number tbs
    → e ≡ tables_number (tb ∷ tbs)
unfolding tables_number
tables-next tb tbs none is = given-next (sym none) is

pub tables-last : (tb : List ℕ) {e : ℕ} → e ≡ table_number tb → e ≡ tables_number (tb ∷ [])
unfolding tables_number
tables-last tb is = is ∙ sym (or_else-none (table_number tb))

-- ---- places from the front on: the first k are pre
pub record Filled (k : ℕ) (pre s x : List ℕ) : Type 0 where
  pub size : length pre ≡ 32772 * k
  pub left : x ≡ pre ++ drop (32772 * k) s

pub filled_none : (s : List ℕ) → Filled 0 [] s s
filled_none s = record { size = refl; left = refl }

pub filled_more : {k : ℕ} {pre s x y : List ℕ} (tb : List ℕ) → Filled k pre s x → length tb ≤ 32772 → y ≡ placed x k (filled tb)
    → Filled (k + 1) (pre ++ filled tb) s y
unfolding placed
filled_more {k} {pre} {s} {x} tb f few is = record {
  size = omega (arith, length-append pre (filled tb), f.size, length-filled tb few);
  left =
      let d = drop (32772 * k) s in
      let next : 32772 * k + 32772 ≡ 32772 * (k + 1) = omega arith in
      let front : take (32772 * k) x ≡ pre = ap (take (32772 * k)) f.left ∙ take_at pre d (32772 * k) f.size in
      let behind : drop (32772 * k + 32772) x ≡ drop (32772 * (k + 1)) s =
      ap (drop (32772 * k + 32772)) f.left ∙ ap (λ (n : ℕ). drop (n + 32772) (pre ++ d)) (sym f.size) ∙ drop-append-add pre d 32772
      ∙ drop-drop 32772 (32772 * k) s ∙ ap (λ (n : ℕ). drop n s) next in
      is ∙ rw (front, behind) (sym (append_assoc pre (filled tb) (drop (32772 * (k + 1)) s)));
}

-- ---- free places
replicate-add : (m n x : ℕ) → replicate m x ++ replicate n x ≡ replicate (m + n) x
replicate-add zero n x = rw (zero-add n)
replicate-add (suc m) n x = rw (suc-add m n) (ap (x ∷◌) (replicate-add m n x))

filled-free : filled [] ≡ replicate 32772 0
unfolding filled
filled-free = refl

shelved-free : (n : ℕ) → shelved (replicate n []) ≡ replicate (n * 32772) 0
unfolding shelved
shelved-free zero = refl
shelved-free (suc n) =
    let sum : 32772 + n * 32772 ≡ suc n * 32772 = omega arith in
    ap (filled [] ++◌) (shelved-free n) ∙ ap (◌++ replicate (n * 32772) 0) filled-free ∙ replicate-add 32772 (n * 32772) 0
    ∙ ap (λ (k : ℕ). replicate k 0) sum

regroup : (a b c d z r : List ℕ) → (a ++ b ++ c ++ d) ++ (z ++ r) ≡ (a ++ (b ++ (c ++ (d ++ z)))) ++ r
regroup a b c d z r = simp append_assoc

-- all of a part is cleared
pub cleared-part : (m : List ℕ) (n : ℕ) {z : List ℕ} → length m ≡ n → z ≡ replicate (length m) 0 → z ≡ replicate n 0
cleared-part m n size is = is ∙ ap (λ (k : ℕ). replicate {A = ℕ} k 0) size

-- ---- the whole shelf
pub shelf-filled : (t0 t1 t2 t3 : List ℕ) {s x z : List ℕ} → Filled 4 (filled t0 ++ filled t1 ++ filled t2 ++ filled t3) s x
    → z ≡ replicate 262176 0
    → put_mid 131088 262176 x z ≡ shelved ((t0 ∷ t1 ∷ t2 ∷ t3 ∷ []) ++ replicate 8 []) ++ drop 393264 s
unfolding shelved
shelf-filled t0 t1 t2 t3 {s} {x} {z} f zeros =
    let pre = filled t0 ++ filled t1 ++ filled t2 ++ filled t3 in
    let d = drop 131088 s in
    let front : take 131088 x ≡ pre = ap (take 131088) f.left ∙ take_at pre d 131088 f.size in
    let behind : drop 262176 (drop 131088 x) ≡ drop 393264 s =
    ap (λ (l : List ℕ). drop 262176 (drop 131088 l)) f.left ∙ ap (drop 262176) (drop_at pre d 131088 f.size)
    ∙ drop-drop 262176 131088 s in
    ap (◌++ (z ++ drop 262176 (drop 131088 x))) front ∙ ap (λ (l : List ℕ). pre ++ (z ++ l)) behind
    ∙ ap (λ (l : List ℕ). pre ++ (l ++ drop 393264 s)) (zeros ∙ sym (shelved-free 8))
    ∙ regroup (filled t0) (filled t1) (filled t2) (filled t3) (shelved (replicate 8 [])) (drop 393264 s)

-- ---- the call
module _ (t0 t1 t2 t3 s : List ℕ) where
  pub open-refused : {e : ℕ} → e ≡ tables_number (t0 ∷ t1 ∷ t2 ∷ t3 ∷ []) → (e ≡ 0 → ⊥)
      → outcome (answer_of e 0) s ≡ shelf_opened t0 t1 t2 t3 s
  unfolding shelf_opened
  open-refused is some = refuses (λ k. refused k s) _ (given-first _ _ is some) some

  pub open-short : tables_number (t0 ∷ t1 ∷ t2 ∷ t3 ∷ []) ≡ 0 → length s < 393264 → outcome (answer_of 5 0) s ≡ shelf_opened t0 t1 t2 t3 s
  unfolding shelf_opened
  open-short none short = refuses (λ k. refused k s) _ (given-next none (rw (lt-ltb (length s) 393264 short))) (λ e. omega (arith, e))

  pub open_done : {x : List ℕ} → tables_number (t0 ∷ t1 ∷ t2 ∷ t3 ∷ []) ≡ 0 → 393264 ≤ length s
      → x ≡ shelved ((t0 ∷ t1 ∷ t2 ∷ t3 ∷ []) ++ replicate 8 []) ++ drop 393264 s
      → outcome (answer_of 0 393264) x ≡ shelf_opened t0 t1 t2 t3 s
  unfolding shelf_opened
  open_done {x} none long left =
      let b = shelved ((t0 ∷ t1 ∷ t2 ∷ t3 ∷ []) ++ replicate 8 []) in
      ap (outcome (answer_of 0 393264)) (left ∙ ap (λ (n : ℕ). b ++ drop n s) (sym (length-opened t0 t1 t2 t3 none)))
      ∙ passes {n = tables_number (t0 ∷ t1 ∷ t2 ∷ t3 ∷ []) or_else short_number s} (λ k. refused k s) (wrote 393264 b s)
      (rw (none, short_none s long))
