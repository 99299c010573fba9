-- What is kept of a field's digits, and of nothing but them. Assumes nothing.
use Prim.Native.Nat.{ℕ, ◌+◌, ◌-◌, ◌*◌, min}
use mathlib.Core.Path.{◌≡◌, refl}
use mathlib.Core.List.{List, [], ◌∷◌}
use lib.ListN.{take}
use Rattle.row_format.specs.Lists.Laws.{by-test}
use Rattle.text.specs.Number.{is_digit}
use Rattle.fits_format.specs.Card.{digits_value}
use Rattle.fits_reader.specs.Clipped.{digits_clipped}
use Rattle.pgm_format.specs.Header.{digit_bytes}

pub kept-digits : (most v : ℕ) (s : List ℕ)
    → digits_clipped most v (take (digit_bytes s) s) ≡ min (digits_value v (take (digit_bytes s) s)) most
unfolding digits_clipped digits_value digit_bytes
kept-digits most v [] = refl
kept-digits most v (b ∷ s) =
    by-test (is_digit b)
    (λ e. rw (e, e) (kept-digits most (v * 10 + (b - 48)) s))
    (λ e. rw e)
