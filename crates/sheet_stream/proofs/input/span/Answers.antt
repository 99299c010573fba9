-- `sheet_stream::input::span` meets its contract. Assumes nothing.
use Rattle.std.proofs.Common.{arith}
use Rattle.sheet_format.proofs.Stream.Held.{span_small, span-large, span_right}
use Rattle.sheet_stream.proofs.input.span.Goals as goal

pub returns-then-length-lt2-clause-spans : goal.returns-then-length-lt2-clause-spans
returns-then-length-lt2-clause-spans c = λ b e. span_small b (omega arith)

pub returns-then-length-clause-spans : goal.returns-then-length-clause-spans
returns-then-length-clause-spans c = λ b e. span-large b (omega arith) (omega arith)

pub returns-clause-spans : goal.returns-clause-spans
returns-clause-spans c = λ b e. rw (← e) (span_right b (omega arith) (omega arith))
