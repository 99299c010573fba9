-- The laws of what is written. Assumes nothing.
use Rattle.std.specs.Prelude.{ℕ, ◌*◌, ◌≡◌, refl, List, [], ◌∷◌, ◌++◌, length}
use Rattle.std.proofs.Common.{arith, sym, ap, ◌∙◌, append_assoc, length-append}
use Rattle.bitstream.specs.Bits.{digits}
use Rattle.bitstream.specs.Bits.Laws.{length_cut}
use Rattle.delta_format.specs.Numbers.{bits_for}
use Rattle.delta_format.specs.Row.{Element}
use Rattle.delta_format.specs.Calls.{value_of, element_bytes, values_bytes}

-- ---- a row's bytes
pub length-row : (es : List Element) → length (values_bytes es) ≡ 4 * length es
length-row [] = refl
length-row (e ∷ es) =
    let four : length (element_bytes e) ≡ 4 = length_cut 8 4 (digits 32 (bits_for 32 (value_of e))) in
    omega (arith, length-append (element_bytes e) (values_bytes es), four, length-row es)

pub row-append : (es fs : List Element) → values_bytes (es ++ fs) ≡ values_bytes es ++ values_bytes fs
row-append [] fs = refl
row-append (e ∷ es) fs =
    ap (λ (b : List ℕ). element_bytes e ++ b) (row-append es fs) ∙ sym (append_assoc (element_bytes e) (values_bytes es) (values_bytes fs))
