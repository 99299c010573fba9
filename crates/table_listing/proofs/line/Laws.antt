-- What the writers of a line put: the name by its place, the bits, and the parts one after the other. Assumes nothing.
use Prim.Native.Nat.{ℕ, zero, suc, ◌+◌, ◌-◌, ◌/◌, ◌%◌, ◌^◌, ◌≤◌, ◌<◌}
use native.Mathlib.Omega.{arith}
use mathlib.Core.Path.{◌≡◌, refl, sym, ap, ◌∙◌}
use mathlib.Core.List.{List, map}
use lib.ListN.{length, get_or}
use Rattle.row_format.specs.Table.{codeword, codeword_at, signed_difference, entry_difference}
use Rattle.row_format.specs.Table.Laws.{length-codeword}
use Rattle.prefix_free.specs.Branch.Laws.{get_d-codeword}
use Rattle.text.specs.Put.{Put}
use Rattle.text.specs.Put.Laws.{put-put}
use Rattle.text.specs.Text.{ascii, digit, integer}
use Rattle.table_listing.specs.Line.{name, line}
use Rattle.table_listing.specs.Line.Laws.{get_d_map}

-- ---- the name
module _ (t : List ℕ) (p : ℕ) where
  pub name-raw : p ≡ 0 → ascii "raw" ≡ name t p
  unfolding name
  name-raw e = rw e

  pub name-pixel : p ≡ 1 → ascii "bad-pixel" ≡ name t p
  unfolding name
  name-pixel e = rw e

  pub name-bias : p ≡ 2 → ascii "bad-bias" ≡ name t p
  unfolding name
  name-bias e = rw e

  pub name-entry : 3 ≤ p → integer (signed_difference (entry_difference t (p - 3))) ≡ name t p
  name-entry h = go p h
    where
      go : (q : ℕ) → 3 ≤ q → integer (signed_difference (entry_difference t (q - 3))) ≡ name t q
      go zero l = absurd (omega arith)
      go (suc zero) l = absurd (omega arith)
      go (suc (suc zero)) l = absurd (omega arith)
      go (suc (suc (suc i))) l = let e : suc (suc (suc i)) - 3 ≡ i = omega arith in rw e (unfold name in refl)

pub get_d_bits : (w i : ℕ) → i < w % 32 → digit (w / 32 / 2 ^ i % 2) ≡ get_or (map digit (codeword w)) i 0
get_d_bits w i h = sym (get_d_map digit (codeword w) i 0 0 (omega (arith, length-codeword w)) ∙ ap digit (get_d-codeword w i h))

-- ---- the whole line, part by part
pub put-parts : {m m₀ m₁ m₂ m₃ : List ℕ} {at r₀ r₁ r₂ r₃ : ℕ} (t : List ℕ) (p w : ℕ) → at ≤ length m → w ≡ get_or t (3 + p) 0
    → Put m at (name t p) r₀ m₀ → Put m₀ r₀ (ascii " ") r₁ m₁ → Put m₁ r₁ (map digit (codeword w)) r₂ m₂ → Put m₂ r₂ (ascii "\n") r₃ m₃
    → Put m at (line t p) r₃ m₃
unfolding line codeword_at
put-parts t p w h e named spaced bits ended = put-put h (put-put h (put-put h named spaced) (rw e at bits)) ended
