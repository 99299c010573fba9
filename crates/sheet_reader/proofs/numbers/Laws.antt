-- The passes over a line's numbers. Assumes nothing.
use Prim.Native.Nat.{ℕ, suc, ◌+◌, ◌-◌, ◌*◌, ◌≤◌, ◌<◌}
use native.Mathlib.Nat.{sub-zero}
use native.Mathlib.Decide.{dec_lt}
use native.Mathlib.Omega.{arith}
use mathlib.Core.Path.{◌≡◌, refl, sym, ap, ◌∙◌}
use mathlib.Core.Logic.{by_cases}
use mathlib.Core.List.{List, [], ◌∷◌, ◌++◌}
use lib.ListN.{length, drop, length-append, length-drop}
use lib.Seq.{take_at, drop-append-add, drop-drop}
use lib.IntN.{ℤ}
use Rattle.bitstream.specs.Bits.{digits, cut, bytes_of}
use Rattle.bitstream.specs.Bits.Laws.{length_cut}
use Rattle.bitstream.specs.Memory.{overwritten}
use Rattle.bitstream.specs.Memory.Laws.{length-overwritten}
use Rattle.bitstream.specs.Memory.Part.{part_from, part-is}
use Rattle.adaptive.specs.declared.SignedRead.{SignedRead}
use Rattle.adaptive.specs.Calls.{signed_read}
use Rattle.adaptive.specs.Calls.Laws.{signed_read-used}
use Rattle.sheet_format.specs.Line.{numbers, word_of, read_line}
use Rattle.sheet_format.specs.Line.Steps.{LineSoFar, line-start, line-more, line-fault, line-all, bytes_of-more}
use Rattle.sheet_format.specs.Kind.ContourLine.{fault_number, bytes_of_line, number_bytes}

-- i of n numbers of the bytes s are read, and the next is at a place
pub record Walked (n : ℕ) (s : List ℕ) (at i : ℕ) : Type 0 where
  pub values : List ℤ
  pub count : length values ≡ i
  pub within : i ≤ n
  pub there : at ≤ length s
  pub so_far_lem : LineSoFar n s values at (n - i)

-- and their 4 bytes each stand at the front of the memory m, which is out now
pub record NumbersKept (n : ℕ) (s m out : List ℕ) (at i : ℕ) : Type 0 where
  pub walked : Walked n s at i
  pub same : length out ≡ length m
  pub front : out ≡ number_bytes (numbers walked.values at) ++ drop (4 * i) m

-- ---- a pass over the numbers
-- the next number is read from the rest of the bytes
read-rest : (s : List ℕ) (at : ℕ) {r : SignedRead} → r ≡ signed_read (part_from at s) → r ≡ signed_read (drop at s)
read-rest s at read = read ∙ ap signed_read (part-is at s)

pub walk_start : {n : ℕ} {s : List ℕ} → Walked n s 0 0
walk_start {n} {s} =
    record { values = []; count = refl; within = omega arith; there = omega arith; so_far_lem = rw (sub-zero n) (line-start n s) }

module _ {n : ℕ} {s : List ℕ} {at i : ℕ} (w : Walked n s at i) where
  next : i < n → LineSoFar n s w.values at (suc (n - (i + 1)))
  next more = let left : n - i ≡ suc (n - (i + 1)) = omega arith in rw left at w.so_far_lem

  module _ {r : SignedRead} (read : r ≡ signed_read (part_from at s)) where
    pub walk-there : at + r.used ≤ length s
    walk-there = omega (arith, w.there, (signed_read-used (drop at s) (read-rest s at read)).there, length-drop at s)

    pub walk_more : i < n → r.number ≡ 0 → Walked n s (at + r.used) (i + 1)
    walk_more more none =
        let is = read-rest s at read in
        record {
          values = w.values ++ (r.value ∷ []);
          count = length-append w.values (r.value ∷ []) ∙ ap (◌+ 1) w.count;
          within = omega arith;
          there = walk-there;
          so_far_lem = rw is (line-more (next more) (rw (← is) none));
        }

    pub walk-fault : i < n → (r.number ≡ 0 → ⊥) → r.number ≡ fault_number (read_line n s)
    walk-fault more some = let is = read-rest s at read in rw (line-fault (next more) (rw (← is) some), ← is)

    -- where no number of the line is faulty, this one isn't
    walk-right : i < n → fault_number (read_line n s) ≡ 0 → r.number ≡ 0
    walk-right more none =
        let is = read-rest s at read in
        by_cases (dec_lt 0 r.number)
        (λ some. rw is (sym (ap fault_number (line-fault (next more) (λ e. omega (arith, rw (← is) at e)))) ∙ none))
        (λ not. omega arith)

  walk-all : n ≤ i → read_line n s ≡ numbers w.values at
  walk-all end = let left : n - i ≡ 0 = omega arith in line-all (rw left at w.so_far_lem)

  pub walk-faultless : n ≤ i → 0 ≡ fault_number (read_line n s)
  walk-faultless end = rw (walk-all end)

  pub walk-used : n ≤ i → at ≡ bytes_of_line (read_line n s)
  walk-used end = rw (walk-all end)

-- ---- the numbers kept as 4 bytes each
put_next : (f x m : List ℕ) (k : ℕ) → length f ≡ k → overwritten (f ++ drop k m) k x ≡ f ++ x ++ drop (k + length x) m
put_next f x m k size =
    let past : drop (k + length x) (f ++ drop k m) ≡ drop (k + length x) m =
    ap (λ (j : ℕ). drop (j + length x) (f ++ drop k m)) (sym size)
    ∙ drop-append-add f (drop k m) (length x)
    ∙ drop-drop (length x) k m in
    rw (take_at f (drop k m) k size, past)

pub keep-start : {n : ℕ} {s m : List ℕ} → NumbersKept n s m m 0 0
unfolding walk_start cut
keep-start = record { walked = walk_start; same = refl; front = refl }

module _ {n : ℕ} {s m out : List ℕ} {at i : ℕ} (k : NumbersKept n s m out at i) where
  pub keep-more : i < n → 4 * n ≤ length m → fault_number (read_line n s) ≡ 0
      → {r : SignedRead} → r ≡ signed_read (part_from at s)
      → {v : ℕ} → v ≡ word_of r.value → {out' : List ℕ} → out' ≡ overwritten out (4 * i) (bytes_of 4 (digits 32 v))
      → NumbersKept n s m out' (at + r.used) (i + 1)
  unfolding walk_more
  keep-more more room right {r} read {v} word put =
      let w = k.walked in
      let x = bytes_of 4 (digits 32 v) in
      let f = number_bytes (numbers w.values at) in
      let four : length x ≡ 4 = length_cut 8 4 (digits 32 v) in
      let size : length f ≡ 4 * i = length_cut 8 (4 * length w.values) _ ∙ ap (4 *◌) w.count in
      let place : 4 * (i + 1) ≡ 4 * i + 4 = omega arith in
      record {
        walked = walk_more w read more (walk-right w read more right);
        same = ap length put ∙ length-overwritten out (4 * i) x (omega (arith, k.same)) ∙ k.same;
        front =
            put
            ∙ ap (λ (l : List ℕ). overwritten l (4 * i) x) k.front
            ∙ put_next f x m (4 * i) size
            ∙ rw (bytes_of-more w.values r.value, ← word, four, place);
      }

  pub keep_all : n ≤ i → out ≡ number_bytes (read_line n s) ++ drop (4 * n) m
  keep_all end =
      let e : i ≡ n = omega (arith, k.walked.within) in
      k.front ∙ rw (walk-all k.walked end, e)
