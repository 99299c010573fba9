-- `groups::groups` meets its contract: group after group. Assumes nothing.
use Rattle.std.proofs.Common.{arith, refl, ◌∙◌, ◌+◌, ◌-◌, ◌*◌}
use Rattle.std.specs.Prelude.{Ok, Err}
use Rattle.std.proofs.lemmas.Result.{err_from_is_err_and}
use Rattle.bitstream.specs.Bits.{halves_of}
use Rattle.bitstream.specs.Msb.{msb_bits_of}
use Rattle.map_format.specs.Calls.{map_groups}
use Rattle.mat_map.specs.Step.{as_stepped}
use Rattle.mat_map.specs.Step.Group.{groups_none, groups-ready, groups-room, groups-more, groups-stop, groups-all}
use Rattle.mat_map.proofs.Laws.{not_done, groups-named}
use Rattle.mat_map.proofs.groups.groups.Goals as goal

pub loop-i-init : goal.loop-i-init
loop-i-init c = (
  refl,
  groups-named (groups_none (msb_bits_of c.args.s.now) c.args.k c.requires.k_bound (halves_of c.args.own.now) c.requires.dark
      (map_groups c.args.k) refl) (map_groups c.args.k - 0) (0 * c.power-n.result) (omega arith) (omega arith),
)

pub group-requires : goal.group-requires
group-requires c =
    groups-ready (msb_bits_of c.args.s.now) c.args.k c.requires.k_bound (halves_of c.loop-i.own) (map_groups c.args.k - c.loop-i.i)
    (c.loop-i.i * c.power-n.result) c.loop-i.at c.loop-i.sum c.loop-i.invariant.1 c.requires.k_nonzero (omega (arith, c.power-i-end.ensures))

pub returns-in_err-g : goal.returns-in_err-g
returns-in_err-g c =
    let p = err_from_is_err_and c.from_residual.result c.from_residual.ensures.1 in
    rw (p.1, p.2)
    (groups-stop (msb_bits_of c.args.s.now) c.args.k c.requires.k_bound (halves_of c.loop-i.own) (map_groups c.args.k - c.loop-i.i)
    (c.loop-i.i * c.power-n.result) c.loop-i.at c.loop-i.sum c.loop-i.invariant.1 c.requires.k_nonzero (omega (arith, c.power-i-end.ensures))
    (halves_of c.group.new.own) (as_stepped (Err c.in_err-g.field-0.0)) c.in_err-g.ensures (not_done c.in_err-g.field-0.0)
    (halves_of c.args.own.now) c.requires.dark)

pub overflow_add-sum : goal.overflow_add-sum
overflow_add-sum c =
    let room = groups-room (msb_bits_of c.args.s.now) c.args.k c.requires.k_bound (halves_of c.loop-i.own) (map_groups c.args.k - c.loop-i.i)
    (c.loop-i.i * c.power-n.result) c.loop-i.at c.loop-i.sum c.loop-i.invariant.1 c.requires.k_nonzero (omega (arith, c.power-i-end.ensures)) in
    record { fits = omega (arith, c.loop-i.invariant.1.low, (c.in_ok-g.ensures.reads.goes refl).low, room) }

pub loop-i-preserved : goal.loop-i-preserved
loop-i-preserved c = (
  c.group.auto.own ∙ c.loop-i.invariant.0,
  groups-named (groups-more (msb_bits_of c.args.s.now) c.args.k c.requires.k_bound (halves_of c.loop-i.own) (map_groups c.args.k - c.loop-i.i)
      (c.loop-i.i * c.power-n.result) c.loop-i.at c.loop-i.sum c.loop-i.invariant.1 c.requires.k_nonzero (omega (arith, c.power-i-end.ensures))
      (halves_of c.group.new.own) (as_stepped (Ok c.in_ok-g.g)) c.in_ok-g.ensures c.power-n.result c.power-n.ensures refl)
      (map_groups c.args.k - (c.loop-i.i + 1)) ((c.loop-i.i + 1) * c.power-n.result) (omega arith) (omega arith),
)

pub shape_of-own : goal.shape_of-own
shape_of-own c = c.loop-i.invariant.0

pub returns : goal.returns
returns c =
    groups-all (msb_bits_of c.args.s.now) c.args.k c.requires.k_bound (halves_of c.loop-i.own) (map_groups c.args.k - c.loop-i.i)
    (c.loop-i.i * c.power-n.result) c.loop-i.at c.loop-i.sum c.loop-i.invariant.1 (omega (arith, c.power-i-end.ensures))
    (halves_of c.args.own.now) c.requires.dark
