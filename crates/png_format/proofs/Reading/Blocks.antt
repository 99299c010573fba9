-- Stored blocks are read as they are written, whatever follows. Assumes nothing.
use Prim.Native.Nat.{ℕ, suc, ◌+◌, ◌-◌, ◌/◌, ◌%◌, ◌≤◌, ◌<◌}
use Rattle.std.proofs.Common.{arith, ◌∙◌}
use Rattle.std.specs.Prelude.{◌≡◌, take, drop, get_or}
use Rattle.std.proofs.Math.Path.{refl, ap, ap₂}
use Rattle.std.proofs.Math.Bool.{Bool, true, false, cond}
use mathlib.Core.List.{List, [], ◌++◌}
use Rattle.std.proofs.Math.Option.{Option, none, some}
use Rattle.std.proofs.Math.ListN.{length, length-append}
use Rattle.std.proofs.Math.Seq.{take-append_seam, drop-append_seam}
use Rattle.std.proofs.Math.Dec.{eqb, ltb}
use borrow.Author.Tests.{eq-eqb, le-ltb}
use Rattle.png_format.specs.Stored.{low_two, stored_block}
use Rattle.png_format.specs.Reading.{low_number, block_content, after_block, block_holds, Unstored, with_block, blocks_of}

pub low_two-back : (v : ℕ) (s : List ℕ) → v < 65536 → low_number (low_two v ++ s) ≡ v
low_two-back v s h = omega arith

-- ---- a stored block at the front
module _ (last : ℕ) (d rest : List ℕ) (most : length d ≤ 65535) (bit : last < 2) where
  pub length-block : length (stored_block last d ++ rest) ≡ length d + length rest + 5
  unfolding stored_block
  length-block = omega (arith, length-append d rest)

  count-read : low_number (drop 1 (stored_block last d ++ rest)) ≡ length d
  unfolding stored_block
  count-read = low_two-back (length d) [] (omega arith)

  complement-read : low_number (drop 3 (stored_block last d ++ rest)) ≡ 65535 - length d
  unfolding stored_block
  complement-read = low_two-back (65535 - length d) [] (omega arith)

  from_block : drop 5 (stored_block last d ++ rest) ≡ d ++ rest
  unfolding stored_block
  from_block = refl

  bit-read : get_or (stored_block last d ++ rest) 0 0 ≡ last
  unfolding stored_block
  bit-read = refl

  type-read : get_or (stored_block last d ++ rest) 0 0 / 2 % 4 ≡ 0
  type-read = omega (arith, bit-read)

  block-content : block_content (stored_block last d ++ rest) ≡ d
  block-content = ap₂ take count-read from_block ∙ take-append_seam d rest

  block-after : after_block (stored_block last d ++ rest) ≡ rest
  block-after = ap₂ drop count-read from_block ∙ drop-append_seam d rest

  block-holds : block_holds (stored_block last d ++ rest) ≡ true
  unfolding block_holds
  block-holds =
      let s : List ℕ = stored_block last d ++ rest in
      let fits : ltb (length s) (low_number (drop 1 s) + 5) ≡ false =
      le-ltb (length s) (low_number (drop 1 s) + 5) (omega (arith, length-block, count-read)) in
      let plain : eqb (get_or s 0 0 / 2 % 4) 0 ≡ true = eq-eqb (get_or s 0 0 / 2 % 4) 0 type-read in
      let pair : eqb (low_number (drop 1 s) + low_number (drop 3 s)) 65535 ≡ true =
      eq-eqb (low_number (drop 1 s) + low_number (drop 3 s)) 65535 (omega (arith, count-read, complement-read)) in
      let paired : Bool = eqb (low_number (drop 1 s) + low_number (drop 3 s)) 65535 in
      ap (λ (b : Bool). cond b false (cond (eqb (get_or s 0 0 / 2 % 4) 0) paired false)) fits
      ∙ ap (λ (b : Bool). cond b paired false) plain
      ∙ pair

  block-front : (f : ℕ) → blocks_of (suc f) (stored_block last d ++ rest)
      ≡ cond (eqb (last % 2) 1) (some (record { content = d; rest = rest })) (with_block d (blocks_of f rest))
  unfolding blocks_of
  block-front f =
      let s : List ℕ = stored_block last d ++ rest in
      let found : List ℕ → List ℕ → Option Unstored =
      λ b r. cond (eqb (get_or s 0 0 % 2) 1) (some (record { content = b; rest = r })) (with_block b (blocks_of f r)) in
      ap (λ (b : Bool). cond b (found (block_content s) (after_block s)) none) block-holds
      ∙ ap₂ found block-content block-after
      ∙ ap (λ (k : ℕ). cond (eqb (k % 2) 1) (some (record { content = d; rest = rest })) (with_block d (blocks_of f rest))) bit-read

pub block_more : (d rest : List ℕ) (f : ℕ) → length d ≤ 65535 → blocks_of (suc f) (stored_block 0 d ++ rest) ≡ with_block d (blocks_of f rest)
block_more d rest f most = block-front 0 d rest most (omega arith) f

pub block_last : (d rest : List ℕ) (f : ℕ) → length d ≤ 65535
    → blocks_of (suc f) (stored_block 1 d ++ rest) ≡ some (record { content = d; rest = rest })
block_last d rest f most = block-front 1 d rest most (omega arith) f
