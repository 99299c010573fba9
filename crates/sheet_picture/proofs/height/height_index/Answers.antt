-- `sheet_picture::height::height_index` meets its contract, case by case. Assumes nothing.
use Prim.Native.Nat.{ℕ}
use native.Mathlib.Omega.{arith}
use mathlib.Core.Path.{sym}
use Rattle.sheet_picture.specs.Colour.{Range}
use Rattle.sheet_picture.specs.Colour.Laws.{index-bad-pixel, index-bad-bias, index_below, index-above, index-grey}
use Rattle.sheet_picture.proofs.height.height_index.Goals as goal

abbrev range : ℕ → ℕ → Range
range low high = record { low = low; high = high }

pub returns-then-h-eq4095 : goal.returns-then-h-eq4095
returns-then-h-eq4095 c = sym (index-bad-pixel (range c.args.low c.args.high) c.args.h c.if-h-eq4095.true)

pub returns-then-h-eq4094 : goal.returns-then-h-eq4094
returns-then-h-eq4094 c = sym (index-bad-bias (range c.args.low c.args.high) c.args.h c.if-h-eq4094.true)

pub returns-then-h-low : goal.returns-then-h-low
returns-then-h-low c = sym (index_below (range c.args.low c.args.high) c.args.h c.if-h-eq4095.false c.if-h-eq4094.false (omega arith))

pub returns-then-high-h : goal.returns-then-high-h
returns-then-high-h c = sym
    (index-above (range c.args.low c.args.high) c.args.h c.if-h-eq4095.false c.if-h-eq4094.false
    (omega arith) (omega arith))

pub returns : goal.returns
returns c = sym
    (index-grey (range c.args.low c.args.high) c.args.h c.if-h-eq4095.false c.if-h-eq4094.false
    (omega arith) (omega arith))
