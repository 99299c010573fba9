-- `text_to_map::convert::convert_counts` is safe: what it prints is the map, and the verdict that it says is its own. Assumes nothing.
use Prim.Native.Nat.{ℕ, ◌≤◌}
use native.Mathlib.Omega.{arith}
use mathlib.Core.Path.{◌≡◌}
use mathlib.Core.List.{List}
use lib.ListN.{length}
use Rattle.answer.specs.declared.Answer.{Answer}
use Rattle.answer.specs.Outcome.{outcome}
use Rattle.map_format.specs.Calls.{map_written}
use Rattle.text_to_map.specs.Made.{CountsOf}
use Rattle.text_to_map.specs.Made.Laws.{MapAnswered, ended-refused, map_of_lem, ended-done, count-within}
use Rattle.text_to_map.proofs.convert.convert_counts.Goals as goal

-- what the call left
answered : {g : ℕ} {held m : List ℕ} {a : Answer} {m' : List ℕ} → CountsOf held → 46592 ≤ length m → outcome a m' ≡ map_written g held m
    → length m' ≡ length m → MapAnswered g held m a m'
answered of room left same = record { of = of; room = room; left = left; same = same }

pub end-requires : goal.end-requires
end-requires c = ended-refused (answered c.requires (omega arith) c.write_map-answer.ensures c.write_map-answer.auto.out) c.if-number-ne0.true

pub shared_ref_as_front-print_map : goal.shared_ref_as_front-print_map
shared_ref_as_front-print_map c =
    omega (arith, count-within (answered c.requires (omega arith) c.write_map-answer.ensures c.write_map-answer.auto.out) c.if-number-ne0.false)

pub print_map-requires : goal.print_map-requires
print_map-requires c = map_of_lem (answered c.requires (omega arith) c.write_map-answer.ensures c.write_map-answer.auto.out) c.if-number-ne0.false

pub end-requires-2 : goal.end-requires-2
end-requires-2 c = ended-done (answered c.requires (omega arith) c.write_map-answer.ensures c.write_map-answer.auto.out) c.if-number-ne0.false
