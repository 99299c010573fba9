-- `sheet_verdict::say_verdict` meets its contract: what is printed is the verdict. Assumes nothing.
use Prim.Native.Nat.{ℕ}
use native.Mathlib.Omega.{arith}
use mathlib.Core.Path.{sym}
use mathlib.Core.List.{List}
use lib.ListN.{replicate}
use lib.Seq.{length-take-le}
use Rattle.sheet_listing.specs.Line.{last_line}
use Rattle.sheet_listing.specs.Listed.Given.{given-line, given-within}
use Rattle.sheet_verdict.specs.Verdict.Laws.{ends-line}
use Rattle.sheet_verdict.proofs.say_verdict.Goals as goal

pub slice_bounds-line-end : goal.slice_bounds-line-end
slice_bounds-line-end c = let m : List ℕ = replicate 128 0 in
    given-within _ m (omega arith) c.list_end-given.ensures.given c.list_end-given.ensures.most

pub slice_bounds-print_verdict-end : goal.slice_bounds-print_verdict-end
slice_bounds-print_verdict-end c = let m : List ℕ = replicate 128 0 in
    let within = given-within _ m (omega arith) c.list_end-given.ensures.given c.list_end-given.ensures.most in
    sym (length-take-le c.list_end-given.result.count c.list_end-given.new.out within)

pub print_verdict-requires : goal.print_verdict-requires
print_verdict-requires c = let last = last_line c.args.step.read.number c.args.step.read.at c.args.step.next.index c.args.step.next.rows in
    let m : List ℕ = replicate 128 0 in
    ends-line c.requires (given-line last m (omega arith) c.list_end-given.ensures.given c.list_end-given.ensures.most)
