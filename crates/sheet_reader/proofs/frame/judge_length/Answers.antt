-- `sheet_reader::frame::judge_length` meets its contract: each refusal is the next of the length's four. Assumes
-- nothing.
use native.Mathlib.Omega.{arith}
use Rattle.sheet_reader.proofs.frame.Laws.{length-missing, length-small, length-large, length-past, length-right}
use Rattle.sheet_reader.proofs.frame.judge_length.Goals as goal

pub returns-then-sheet-lt4 : goal.returns-then-sheet-lt4
returns-then-sheet-lt4 c = length-missing c.args.sheet.now c.if-sheet-lt4.true

pub returns-then-length-lt2 : goal.returns-then-length-lt2
returns-then-length-lt2 c = length-small c.args.sheet.now c.if-sheet-lt4.false c.read_u32-length.result
    c.read_u32-length.ensures c.if-length-lt2.true

pub returns-then-length-gt32774 : goal.returns-then-length-gt32774
returns-then-length-gt32774 c = length-large c.args.sheet.now c.if-sheet-lt4.false c.read_u32-length.result
    c.read_u32-length.ensures c.if-length-lt2.false c.if-length-gt32774.true

pub returns-then-sheet-length : goal.returns-then-sheet-length
returns-then-sheet-length c = length-past c.args.sheet.now c.if-sheet-lt4.false c.read_u32-length.result
    c.read_u32-length.ensures c.if-length-lt2.false (omega arith) c.if-sheet-length.true

pub returns : goal.returns
returns c = length-right c.args.sheet.now c.if-sheet-lt4.false c.read_u32-length.result
    c.read_u32-length.ensures c.if-length-lt2.false (omega arith) c.if-sheet-length.false
