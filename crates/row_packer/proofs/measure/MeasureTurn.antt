-- What a turn of measure does, and its end. Assumes nothing.
use Prim.Native.Nat.{ℕ, ◌+◌, ◌*◌, ◌≤◌, ◌<◌}
use native.Mathlib.Nat.{zero-add}
use native.Mathlib.Omega.{arith}
use mathlib.Core.Path.{◌≡◌, ap, ◌∙◌}
use mathlib.Core.List.{List}
use lib.ListN.{length, get_or}
use Rattle.row_format.specs.Row.{fresh, row_bits}
use Rattle.row_item.specs.declared.Progress.{Progress}
use Rattle.row_item.specs.Coded.{progress}
use Rattle.row_packer.specs.Encode.{Encodes, Sound}
use Rattle.row_packer.proofs.encode.Laws.{sound-progress}
use Rattle.row_packer.proofs.Remaining.{remaining-none, length-remaining-more, remaining-all, remaining}
use Rattle.row_packer.specs.declared.encode.Encoded.{Encoded}

-- after i pixels
pub record Measuring (t ps : List ℕ) (p : Progress) (bits i : ℕ) : Type 0 where
  pub within : i ≤ length ps
  pub sound : Sound p
  pub sum : bits + length (remaining t ps p i) ≡ length (row_bits t ps)
  pub most : bits ≤ 27 * i

pub measuring-none : (t ps : List ℕ) {p : Progress} → p ≡ progress fresh → Measuring t ps p 0 0
measuring-none t ps {p} e =
    record {
      within = omega arith;
      sound = sound-progress fresh e (omega arith);
      sum = zero-add (length (remaining t ps p 0)) ∙ ap length (remaining-none t ps e);
      most = omega arith;
    }

module _ {t ps : List ℕ} {p : Progress} {bits i : ℕ} (m : Measuring t ps p bits i) where
  pub measuring-more : i < length ps → {pixel : ℕ} → pixel ≡ get_or ps i 0 → {r : Encoded} → Encodes t p pixel r
      → Measuring t ps r.next (bits + r.field.len) (i + 1)
  measuring-more h e en =
      record {
        within = omega arith;
        sound = en.sound;
        sum = omega (arith, m.sum, length-remaining-more t ps i h e en);
        most = omega (arith, m.most, en.bits.most);
      }

  pub measured-all : length ps ≤ i → bits ≡ length (row_bits t ps)
  measured-all g = omega (arith, m.sum, ap length (remaining-all t ps p i m.within g))
