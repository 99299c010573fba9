-- `sheet_reader::packed::unpack_row` meets its contract: the row call refuses, a word is left, or the row is done.
-- Assumes nothing.
use Prim.Native.Nat.{◌+◌, ◌*◌, ◌/◌, ◌≤◌, ◌<◌}
use native.Mathlib.Omega.{arith}
use lib.ListN.{length, drop}
use Rattle.std.proofs.lemmas.Result.{err_from_is_err_and}
use Rattle.bitstream.specs.Memory.Part.{part_from}
use Rattle.sheet_reader.proofs.packed.Laws.{unpacked-row, row-refused, row-leftover, row_done_lem}
use Rattle.sheet_reader.proofs.packed.unpack_row.Goals as goal

pub returns-in_err-bits : goal.returns-in_err-bits
returns-in_err-bits c = let told =
    unpacked-row c.args.pixels.now c.requires.pixels_len c.min-lent.ensures
    c.requires.count_value c.unpack.ensures in
    let p = err_from_is_err_and c.from_residual.result c.from_residual.ensures.1 in
    let refused = c.in_err-bits.ensures in
    rw (p.1, p.2) (row-refused told refused.0 refused.1.0 refused.1.1)

pub returns-then-used-words : goal.returns-then-used-words
returns-then-used-words c = let bits = c.in_ok-bits.ensures in
    let more : 4 * ((c.unpack.result.count + 31) / 32) < length (part_from 4 c.args.body.now) =
    omega (arith, bits.1, c.div_ceil-used.ensures, c.if-used-words.true) in
    let told =
    unpacked-row c.args.pixels.now c.requires.pixels_len c.min-lent.ensures
    c.requires.count_value c.unpack.ensures in
    rw c.into.ensures (row-leftover told bits.0 more)

pub returns : goal.returns
returns c = let bits = c.in_ok-bits.ensures in
    let all : length (part_from 4 c.args.body.now) ≤ 4 * ((c.unpack.result.count + 31) / 32) =
    omega (arith, bits.1, c.div_ceil-used.ensures, c.if-used-words.false) in
    let told =
    unpacked-row c.args.pixels.now c.requires.pixels_len c.min-lent.ensures
    c.requires.count_value c.unpack.ensures in
    row_done_lem told bits.0 bits.1 all
    (drop c.min-lent.result c.args.pixels.now)
