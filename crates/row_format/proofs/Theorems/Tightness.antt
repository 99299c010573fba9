-- Demand 3: under some tables no smaller bound than n times M holds: the row 4093, then zeros, takes so many bits.
-- Assumes nothing.
use Prim.Native.Nat.{ℕ, zero, suc, ◌+◌, ◌*◌, ◌≤◌, ◌<◌}
use Rattle.std.proofs.Common.{suc-mul, sym, ◌∙◌, length-append}
use Rattle.std.proofs.Math.Nat.{max-eq_right}
use native.Mathlib.Omega.{arith}
use Rattle.std.specs.Prelude.{◌≡◌, refl, false, List, [], ◌∷◌, ◌++◌, length, replicate, ltb}
use Rattle.std.proofs.Math.Path.{ap}
use Rattle.std.proofs.lemmas.List.{length-replicate}
use Rattle.row_format.specs.Lists.{any}
use Rattle.row_format.specs.Table.{table_size, has_difference, codewords, codeword_at, longest, escape_length, max_item_bits, Accepted}
use Rattle.row_format.specs.Table.Laws.{get_d-codewords, length-codewords-size, longest-most}
use Rattle.row_format.specs.Row.{escape, fresh, past, item_for, item_bits, items_for, bits, row_bits}
use Rattle.row_format.specs.Row.Laws.{item_for-escape, by_difference-first, by_difference-lacks}
use Rattle.row_format.proofs.Theorems.Bounds.{length-item_bits-escape}

-- 4093 and then zeros, n pixels in all
unfoldable steep : ℕ → List ℕ
steep zero = []
steep (suc n) = 4093 ∷ replicate n 0

length-steep : (n : ℕ) → length (steep n) ≡ n
unfolding steep
length-steep zero = refl
length-steep (suc n) = ap suc (length-replicate n 0)

any-zeros : (n : ℕ) → any (ltb 4095) (replicate n 0) ≡ false
unfolding any
any-zeros zero = refl
any-zeros (suc n) = any-zeros n

any-steep : (n : ℕ) → any (ltb 4095) (steep n) ≡ false
unfolding steep any
any-steep zero = refl
any-steep (suc n) = any-zeros n

module _ (t : List ℕ) (no-least : has_difference t 0 ≡ false) where
  -- a raw item, and items that take so many bits each
  length-raw : (h n : ℕ) (b : List ℕ) → length b ≡ n * (escape_length t + 12)
      → length (item_bits t (escape h) ++ b) ≡ suc n * (escape_length t + 12)
  length-raw h n b rest =
      rw (length-append (item_bits t (escape h)) b, suc-mul n (escape_length t + 12))
      (omega (arith, length-item_bits-escape t h))

  -- after 4093 a zero is raw, and 4093 stays previous
  zero-raw : item_for t (past 4093) 0 ≡ escape 0
  zero-raw = item_for-escape t (past 4093) 0 (omega arith) (by_difference-lacks t (past 4093) 0 no-least)

  length-zeros : (n : ℕ) → length (bits t (items_for t (past 4093) (replicate n 0))) ≡ n * (escape_length t + 12)
  unfolding bits items_for
  length-zeros zero = omega arith
  length-zeros (suc n) = rw zero-raw (length-raw 0 n (bits t (items_for t (past 4093) (replicate n 0))) (length-zeros n))

  -- 4093 is raw as the row's first height, whether or not the table has it as a step
  length-bits-steep : (n : ℕ) → length (row_bits t (steep n)) ≡ n * (escape_length t + 12)
  unfolding row_bits steep items_for bits
  length-bits-steep zero = omega arith
  length-bits-steep (suc n) =
      rw first (length-raw 4093 n (bits t (items_for t (past 4093) (replicate n 0))) (length-zeros n))
    where
      first : item_for t fresh 4093 ≡ escape 4093
      first = item_for-escape t fresh 4093 (omega arith) (by_difference-first t fresh 4093 refl)

  length-row_bits-steep : (n : ℕ) → longest (codewords t) ≤ escape_length t + 12
      → length (row_bits t (steep n)) ≡ n * max_item_bits t
  unfolding max_item_bits
  length-row_bits-steep n most = length-bits-steep n ∙ ap (n *◌) (sym (max-eq_right most))

-- no string longer than the raw string and its height
longest-escape : (t : List ℕ) (ok : Accepted t)
    → ((j : ℕ) → j < 3 + table_size t → length (codeword_at t j) ≤ escape_length t + 12)
    → longest (codewords t) ≤ escape_length t + 12
longest-escape t ok most = longest-most (codewords t) (escape_length t + 12)
    (λ j h. rw (get_d-codewords t j) (most j (omega (arith, length-codewords-size t ok))))

pub tight : (t : List ℕ) (ok : Accepted t) → has_difference t 0 ≡ false
    → ((j : ℕ) → j < 3 + table_size t → length (codeword_at t j) ≤ escape_length t + 12)
    → (n : ℕ) → (ps : List ℕ) × (length ps ≡ n) × (any (ltb 4095) ps ≡ false) × (length (row_bits t ps) ≡ n * max_item_bits t)
tight t ok least lengths n =
    (steep n, length-steep n, any-steep n, length-row_bits-steep t least n (longest-escape t ok lengths))
