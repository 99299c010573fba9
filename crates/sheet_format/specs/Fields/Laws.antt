-- Numbers in a record are read back, whatever follows them. Assumes nothing.
use Rattle.std.specs.Prelude.{ℕ, ◌*◌, ◌^◌, ◌≤◌, ◌<◌, ◌≡◌, List, ◌++◌, length, take, drop}
use Rattle.std.proofs.Common.{mod-eq_of_lt, arith, ◌∙◌, take_at, drop_at, take_all}
use Rattle.bitstream.specs.Bits.{digits, number_of, bytes_of}
use Rattle.bitstream.specs.Bits.Laws.{length_digits, below-digits, flat-cut, num_of-digits, length_cut}
use Rattle.row_format.specs.BitLaws.{pad-within}
use Rattle.sheet_format.specs.Fields.{two_bytes, four_bytes}

-- a number in n bytes is read back from them
pub number_of-bytes_of : (n v : ℕ) → v < 2 ^ (8 * n) → number_of (bytes_of n (digits (8 * n) v)) ≡ v
number_of-bytes_of n v small =
    let all : 8 * n ≤ length (digits (8 * n) v) = omega (arith, length_digits (8 * n) v) in
    let most : length (digits (8 * n) v) ≤ 8 * n = omega (arith, length_digits (8 * n) v) in
    rw (
      flat-cut 8 n (digits (8 * n) v) (below-digits (8 * n) v),
      pad-within (8 * n) (digits (8 * n) v) all,
      take_all (8 * n) (digits (8 * n) v) most,
    )
    (num_of-digits (8 * n) v ∙ mod-eq_of_lt small)

pub number_of-two_bytes : (v : ℕ) → v < 65536 → number_of (two_bytes v) ≡ v
number_of-two_bytes v small = number_of-bytes_of 2 v small

pub number_of-four_bytes : (v : ℕ) → v < 4294967296 → number_of (four_bytes v) ≡ v
number_of-four_bytes v small = number_of-bytes_of 4 v small

pub length-two_bytes : (v : ℕ) → length (two_bytes v) ≡ 2
length-two_bytes v = length_cut 8 2 (digits 16 v)

pub length-four_bytes : (v : ℕ) → length (four_bytes v) ≡ 4
length-four_bytes v = length_cut 8 4 (digits 32 v)

-- two bytes in front
pub take-two_bytes : (v : ℕ) (s : List ℕ) → take 2 (two_bytes v ++ s) ≡ two_bytes v
take-two_bytes v s = take_at (two_bytes v) s 2 (length-two_bytes v)

pub drop-two_bytes : (v : ℕ) (s : List ℕ) → drop 2 (two_bytes v ++ s) ≡ s
drop-two_bytes v s = drop_at (two_bytes v) s 2 (length-two_bytes v)
