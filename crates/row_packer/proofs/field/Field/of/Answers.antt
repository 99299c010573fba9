-- `row_packer::field::Field::of` meets its contract: of each kind of item, which codeword it has. Of a difference, the count that
-- the code computes in i32 is the difference's count from -4093. Assumes nothing.
use native.Mathlib.Omega.{arith}
use Rattle.row_packer.proofs.field.Laws.{escape-length, count_fits, count-is, count_low, count-high, holds-difference, escape-twelve, holds-escape}
use Rattle.row_packer.proofs.field.Field.of.Goals as goal

pub overflow_add-k : goal.overflow_add-k
overflow_add-k c = count_fits c.requires.accepted c.in-Difference.is c.requires.codable

pub overflow_cast-k : goal.overflow_cast-k
overflow_cast-k c = rw (count-is c.requires.accepted c.in-Difference.is c.requires.codable)
    (tt, record { fits = omega (arith, count-high c.requires.accepted c.in-Difference.is c.requires.codable) })

pub overflow_sub-k : goal.overflow_sub-k
overflow_sub-k c = rw (count-is c.requires.accepted c.in-Difference.is c.requires.codable) (omega (arith, count_low c.requires.accepted c.in-Difference.is c.requires.codable))

pub overflow_add-k-in-Difference : goal.overflow_add-k-in-Difference
overflow_add-k-in-Difference c = rw (count-is c.requires.accepted c.in-Difference.is c.requires.codable)
    (record { fits = omega (arith, count-high c.requires.accepted c.in-Difference.is c.requires.codable) })

pub codeword-requires : goal.codeword-requires
codeword-requires c = rw (count-is c.requires.accepted c.in-Difference.is c.requires.codable)
    (record { accepted = c.requires.accepted; j_bound = omega (arith, count-high c.requires.accepted c.in-Difference.is c.requires.codable, c.requires.accepted.size-least) })

pub with_height-requires : goal.with_height-requires
with_height-requires c = record { len_bound = escape-length c.requires.accepted c.codeword-escape.ensures; bits_bound = c.codeword-escape.ensures.above; height_bound = escape-twelve c.in-Escape.is c.requires.codable }

pub returns-in-Difference : goal.returns-in-Difference
returns-in-Difference c = holds-difference c.requires.accepted c.in-Difference.is c.requires.codable c.requires.low_value c.codeword.ensures

pub returns-in-BadPixel : goal.returns-in-BadPixel
returns-in-BadPixel c = rw c.in-BadPixel.is c.codeword-in-BadPixel.ensures

pub returns-in-BadBias : goal.returns-in-BadBias
returns-in-BadBias c = rw c.in-BadBias.is c.codeword-in-BadBias.ensures

pub returns-in-Escape : goal.returns-in-Escape
returns-in-Escape c = holds-escape c.in-Escape.is c.requires.codable c.codeword-escape.ensures c.with_height.ensures
