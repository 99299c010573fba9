-- `delta_reader::element::Elements::at` meets its contract. Assumes nothing.
use native.Mathlib.Omega.{arith}
use Rattle.delta_reader.specs.Offset.Laws.{inside-8, inside-16, inside-32, kept-8, kept-16, kept-32, at_width, of_width, third-width, width_of}
use Rattle.delta_reader.proofs.element.Elements.at.Goals as goal

pub byte_at-requires : goal.byte_at-requires
byte_at-requires c = inside-8 c.args.self.bytes.now c.args.i (at_width c.args.self.bytes.now c.args.i c.if-self-eq8.true c.requires)

pub returns-then-self-eq8 : goal.returns-then-self-eq8
returns-then-self-eq8 c = let inside = at_width c.args.self.bytes.now c.args.i c.if-self-eq8.true c.requires in
    of_width c.args.self.bytes.now c.args.i c.if-self-eq8.true (kept-8 c.args.self.bytes.now c.args.i c.byte_at.result inside c.byte_at.ensures)

pub overflow_mul-at : goal.overflow_mul-at
overflow_mul-at c = record { fits = omega (arith, inside-16 c.args.self.bytes.now c.args.i (at_width c.args.self.bytes.now c.args.i c.if-self-eq16.true c.requires)) }

pub read_u16-requires : goal.read_u16-requires
read_u16-requires c = inside-16 c.args.self.bytes.now c.args.i (at_width c.args.self.bytes.now c.args.i c.if-self-eq16.true c.requires)

pub returns-then-self-eq16 : goal.returns-then-self-eq16
returns-then-self-eq16 c = let inside = at_width c.args.self.bytes.now c.args.i c.if-self-eq16.true c.requires in
    of_width c.args.self.bytes.now c.args.i c.if-self-eq16.true (kept-16 c.args.self.bytes.now c.args.i c.read_u16.result inside c.read_u16.ensures)

pub overflow_mul-at-2 : goal.overflow_mul-at-2
overflow_mul-at-2 c = let is_32 = third-width (width_of c.args.self.bits c.args.self.width) c.if-self-eq8.false c.if-self-eq16.false in
    record { fits = omega (arith, inside-32 c.args.self.bytes.now c.args.i (at_width c.args.self.bytes.now c.args.i is_32 c.requires)) }

pub read_u32-requires : goal.read_u32-requires
read_u32-requires c = inside-32 c.args.self.bytes.now c.args.i (at_width c.args.self.bytes.now c.args.i
    (third-width (width_of c.args.self.bits c.args.self.width) c.if-self-eq8.false c.if-self-eq16.false) c.requires)

pub returns : goal.returns
returns c = let is_32 = third-width (width_of c.args.self.bits c.args.self.width) c.if-self-eq8.false c.if-self-eq16.false in
    let inside = at_width c.args.self.bytes.now c.args.i is_32 c.requires in
    of_width c.args.self.bytes.now c.args.i is_32 (kept-32 c.args.self.bytes.now c.args.i c.read_u32.result inside c.read_u32.ensures)
