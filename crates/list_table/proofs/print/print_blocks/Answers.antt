use Rattle.std.proofs.Common.{ℕ, ◌≡◌, ◌+◌, ◌≤◌, List, refl, length, take, drop, arith, sym, ap, ◌∙◌, length-append, length-take-le}
use Rattle.std.proofs.Math.Seq.{take_all}
use Rattle.answer.specs.Outcome.{outcome}
use Rattle.table_listing.specs.Listed.{ListedLines}
use Rattle.table_listing.specs.Listing.{lines, joined, block}
use Rattle.table_listing.specs.Listing.Blocks.{lines-few, joined-more, joined-within, listing-few}
use Rattle.table_listing.specs.Listing.Told.{told-number, told-bytes, told_text, told-lines, told-ended}
use Rattle.list_table.proofs.print.print_blocks.Goals as goal

room_in : {a b : ℕ} → a ≡ b → 128 ≤ b → 128 ≤ a
room_in e h = omega (arith, e, h)

-- what the call in a turn left: `printed` bytes are out, of the lines before `first`
module _ (t : List ℕ) (first printed : ℕ) (m : List ℕ) {r : ListedLines} {m' : List ℕ} (e : outcome r m' ≡ block t first m) where
  module _ (same : length m' ≡ length m) where
    within : r.bytes ≤ length m'
    within = omega (arith, told-bytes t first m e, same)

    -- the bytes of all lines up to the next one
    module _ (done : printed ≡ length (joined (take first (lines t)))) where
      bytes-is : printed + r.bytes ≡ length (joined (take (first + r.lines) (lines t)))
      bytes-is =
          rw (
            joined-more first r.lines (lines t),
            length-append (joined (take first (lines t))) (joined (take r.lines (drop first (lines t)))),
          )
          (omega (arith, done, ap length (told_text t first m e), length-take-le r.bytes m' within))

      bytes-few : printed + r.bytes ≤ 1048320
      bytes-few = omega (arith, bytes-is, joined-within (first + r.lines) (lines t), listing-few t)

pub loop-listed-init : goal.loop-listed-init
unfolding joined
loop-listed-init c = record { printed = refl; within = omega arith }

pub print_refusal-requires : goal.print_refusal-requires
print_refusal-requires c =
    told-number c.args.table.now c.loop-listed.first c.loop-listed.block c.in-Err.ensures (room_in c.loop-listed.auto.block c.requires)

pub returns-then-listed-eq0-clause-number : goal.returns-then-listed-eq0-clause-number
returns-then-listed-eq0-clause-number c =
    told-number c.args.table.now c.loop-listed.first c.loop-listed.block c.in-Ok.ensures (room_in c.loop-listed.auto.block c.requires)

pub returns-then-listed-eq0-clause-whole : goal.returns-then-listed-eq0-clause-whole
returns-then-listed-eq0-clause-whole c =
    let ended = told-ended c.args.table.now c.loop-listed.first c.loop-listed.block c.in-Ok.ensures (room_in c.loop-listed.auto.block c.requires) refl c.if-listed-eq0.true in
    c.loop-listed.invariant.printed
    ∙ ap (λ (ks : List (List ℕ)). length (joined ks)) (take_all c.loop-listed.first (lines c.args.table.now) ended)

pub slice_bounds-text-end : goal.slice_bounds-text-end
slice_bounds-text-end c =
    within c.args.table.now c.loop-listed.first c.loop-listed.printed c.loop-listed.block c.in-Ok.ensures c.list_table.auto.out

pub slice_bounds-text-end-in-loop-listed : goal.slice_bounds-text-end-in-loop-listed
slice_bounds-text-end-in-loop-listed c =
    sym (length-take-le c.in-Ok.listed.bytes c.list_table.new.out
    (within c.args.table.now c.loop-listed.first c.loop-listed.printed c.loop-listed.block c.in-Ok.ensures c.list_table.auto.out))

pub print_lines-requires : goal.print_lines-requires
print_lines-requires c = told_text c.args.table.now c.loop-listed.first c.loop-listed.block c.in-Ok.ensures

pub returns-in-Err-print_lines-clause-number : goal.returns-in-Err-print_lines-clause-number
returns-in-Err-print_lines-clause-number c =
    told-number c.args.table.now c.loop-listed.first c.loop-listed.block c.in-Ok.ensures (room_in c.loop-listed.auto.block c.requires)

pub overflow_add-first : goal.overflow_add-first
overflow_add-first c =
    let lines-in = told-lines c.args.table.now c.loop-listed.first c.loop-listed.block c.in-Ok.ensures (room_in c.loop-listed.auto.block c.requires) refl c.loop-listed.invariant.within in
    omega (arith, lines-in, lines-few c.args.table.now)

pub overflow_add-printed : goal.overflow_add-printed
overflow_add-printed c =
    let few = bytes-few c.args.table.now c.loop-listed.first c.loop-listed.printed c.loop-listed.block c.in-Ok.ensures c.list_table.auto.out c.loop-listed.invariant.printed in
    let printed =
    c.in-Ok-print_lines.ensures
    ∙ length-take-le c.in-Ok.listed.bytes c.list_table.new.out
    (within c.args.table.now c.loop-listed.first c.loop-listed.printed c.loop-listed.block c.in-Ok.ensures c.list_table.auto.out) in
    omega (arith, few, printed)

pub loop-listed-smaller : goal.loop-listed-smaller
loop-listed-smaller c =
    let lines-in = told-lines c.args.table.now c.loop-listed.first c.loop-listed.block c.in-Ok.ensures (room_in c.loop-listed.auto.block c.requires) refl c.loop-listed.invariant.within in
    omega (arith, lines-in)

pub loop-listed-preserved : goal.loop-listed-preserved
loop-listed-preserved c =
    let printed =
    c.in-Ok-print_lines.ensures
    ∙ length-take-le c.in-Ok.listed.bytes c.list_table.new.out
    (within c.args.table.now c.loop-listed.first c.loop-listed.printed c.loop-listed.block c.in-Ok.ensures c.list_table.auto.out) in
    record {
      printed = rw printed (bytes-is c.args.table.now c.loop-listed.first c.loop-listed.printed c.loop-listed.block c.in-Ok.ensures c.list_table.auto.out c.loop-listed.invariant.printed);
      within = told-lines c.args.table.now c.loop-listed.first c.loop-listed.block c.in-Ok.ensures (room_in c.loop-listed.auto.block c.requires) refl c.loop-listed.invariant.within;
    }
