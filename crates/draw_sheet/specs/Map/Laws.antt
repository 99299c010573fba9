-- What stands beside the sheet, by what reading a map answered. Assumes nothing.
use Rattle.std.specs.Prelude.{ℕ, ◌≡◌, refl, false, List, length}
use Rattle.std.proofs.Common.{arith, sym, eq-eqb, ne_eqb}
use Rattle.answer.specs.declared.Answer.{Answer}
use Rattle.answer.specs.Outcome.{outcome}
use Rattle.bitstream.specs.Bits.{halves_of}
use Rattle.map_format.specs.Calls.{map_read}
use Rattle.sheet_picture.specs.Grid.{most_of}
use Rattle.draw_sheet.specs.declared.side.Side.{Side}
use Rattle.draw_sheet.specs.declared.side.Side.TheVariants.{Nothing, Counts, Refused}
use Rattle.draw_sheet.specs.Map.{without_map, with_map, SideShown, SideRead}

-- nothing
pub side-none : {c : List ℕ} → length c ≡ 32768 → SideShown Nothing c
side-none room = record { shown = without_map refl; few = omega arith; room = room; most = λ z. absurd (omega (arith, z)) }

-- a map of group size g and a total, whose bytes are b, was read to memory m, which is c now
module _ (g : ℕ) (b : List ℕ) (total : ℕ) (m : List ℕ) (room : length m ≡ 32768) {a : Answer} {c : List ℕ} (size : length c ≡ 32768)
    (read : outcome a c ≡ map_read g b total m) where
  abbrev Both : Side → Type 0
  Both s = SideShown s c × SideRead g b total m s c

  pub side-refused : (a.number ≡ 0 → ⊥) → Both (Refused a.number)
  side-refused wrong = (
    record {
      shown = with_map g b total m room (rw (← read, ne_eqb a.number 0 wrong));
      few = omega arith;
      room = size;
      most = λ z. absurd (omega arith);
    },
    record { beside = rw (← read, ne_eqb a.number 0 wrong); number = rw (← read) },
  )

  pub side-read : {k : ℕ} → a.number ≡ 0 → k ≡ most_of (halves_of c) → Both (Counts k)
  side-read ok most = (
    record {
      shown = with_map g b total m room (rw (← read, eq-eqb a.number 0 ok));
      few = omega arith;
      room = size;
      most = λ z. most;
    },
    record { beside = rw (← read, eq-eqb a.number 0 ok); number = rw (← read) (sym ok) },
  )
