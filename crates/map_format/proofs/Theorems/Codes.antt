-- "choosing the first of the four codes that fits and the lower position first". Assumes nothing.
use Rattle.std.specs.Prelude.{ℕ, suc, ◌^◌, ◌≤◌, ◌<◌, ◌≡◌, refl, List, [], ◌∷◌, ◌++◌, length, replicate, ltb}
use Rattle.std.proofs.Common.{zero-add, arith, sym, ◌∙◌, ltb-false}
use Rattle.bitstream.specs.Bits.{Below}
use Rattle.bitstream.specs.Msb.{msb_digits}
use Rattle.row_format.specs.Lists.Laws.{by-test}
use Rattle.map_format.specs.Reading.{got, ◌then◌, read_field, read_pixels, Code, zeros, one, two, direct, sum, photon, dark}
use Rattle.map_format.specs.Reading.{three_or_more, read_body, read_group}
use Rattle.map_format.specs.Reading.Laws.{stops-got, got_same, then-got, read_field-got, below_rest, below-sum}
use Rattle.map_format.specs.Writing.{positions, group_bits}
use Rattle.map_format.specs.Writing.Laws.{by-photons, positions-one, positions-two, group_bits-zeros, group_bits-one, group_bits-two}
use Rattle.map_format.specs.Writing.Laws.{group_bits-direct}
use Rattle.map_format.proofs.Theorems.Done.{dark-sum, one-sum, two-sum}
use Rattle.map_format.proofs.Theorems.Groups.{read_group-code}
use Rattle.map_format.specs.Choice.{code_bits, CodeFits, body_bits}

-- every pixel is zero exactly where the sum is
zeros-sum : (xs : List ℕ) → CodeFits zeros xs → sum xs ≡ 0
unfolding sum
zeros-sum [] h = refl
zeros-sum (x ∷ xs) h = let rest = zeros-sum xs (λ i. h (suc i)) in let first = h 0 in omega arith

sum_zeros : (xs : List ℕ) → sum xs ≡ 0 → CodeFits zeros xs
sum_zeros xs e i = let low = (below-sum 1 xs (omega arith)).below i in omega arith

-- ---- the codes
-- of the four codes one fits, and no other
pub code_fits : (xs : List ℕ) → (c : Code) × CodeFits c xs
code_fits xs = by-photons (sum xs) (λ e. (zeros, sum_zeros xs e)) (λ e. (one, e)) (λ e. (two, e)) (λ h. (direct, h))

pub code-only : (xs : List ℕ) (c d : Code) → CodeFits c xs → CodeFits d xs → c ≡ d
code-only xs zeros zeros p q = refl
code-only xs zeros one p q = let e = zeros-sum xs p in absurd (omega arith)
code-only xs zeros two p q = let e = zeros-sum xs p in absurd (omega arith)
code-only xs zeros direct p q = let e = zeros-sum xs p in absurd (omega arith)
code-only xs one zeros p q = let e = zeros-sum xs q in absurd (omega arith)
code-only xs one one p q = refl
code-only xs one two p q = absurd (omega arith)
code-only xs one direct p q = absurd (omega arith)
code-only xs two zeros p q = let e = zeros-sum xs q in absurd (omega arith)
code-only xs two one p q = absurd (omega arith)
code-only xs two two p q = refl
code-only xs two direct p q = absurd (omega arith)
code-only xs direct zeros p q = let e = zeros-sum xs q in absurd (omega arith)
code-only xs direct one p q = absurd (omega arith)
code-only xs direct two p q = absurd (omega arith)
code-only xs direct direct p q = refl

-- it is the code that the group is written by: its bits, and then the positions or the pixels
pub code-written : (k : ℕ) (xs : List ℕ) (c : Code) → CodeFits c xs → group_bits k xs ≡ code_bits c ++ body_bits k c xs
code-written k xs zeros h = group_bits-zeros k xs (zeros-sum xs h)
code-written k xs one h = group_bits-one k xs h
code-written k xs two h = group_bits-two k xs h
code-written k xs direct h = group_bits-direct k xs h

-- ---- the positions: those of the photons, the lower first
pub one-position : (xs : List ℕ) → sum xs ≡ 1
    → (p : ℕ) × (p < length xs) × (positions 0 xs ≡ p ∷ []) × (xs ≡ photon p (replicate (length xs) 0))
one-position xs e =
    let o = positions-one 0 xs e in
    (o.at, o.within, o.only ∙ rw (zero-add o.at), o.group)

pub two-positions : (xs : List ℕ) → sum xs ≡ 2
    → (p : ℕ) × (q : ℕ) × (p ≤ q) × (q < length xs) × (positions 0 xs ≡ p ∷ q ∷ [])
    × (xs ≡ photon q (photon p (replicate (length xs) 0)))
two-positions xs e =
    let t = positions-two 0 xs e in
    (t.first, t.second, t.order, t.within, t.both ∙ rw (zero-add t.first, zero-add t.second), t.group)

-- ---- reading: what a code is read as is a group that it fits
body-fits : (k : ℕ) (c : Code) (b : List ℕ) {xs r : List ℕ} → Below 2 b → read_body k c b ≡ got xs r → CodeFits c xs
unfolding read_body
body-fits k zeros b bin h = got_same (λ (xs r : List ℕ). CodeFits zeros xs) h (sum_zeros (dark k) (dark-sum k))
body-fits k one b bin h =
    let (n, s, field, last) = then-got (read_field k b) (λ n r. got (photon n (dark k)) r) h in
    got_same (λ (xs r : List ℕ). sum xs ≡ 1) last (one-sum k n (read_field-got k b bin field).1)
body-fits k two b bin h =
    let (n, s, field, more) = then-got (read_field k b) (λ n r. read_field k r then λ m s. got (photon m (photon n (dark k))) s) h in
    let (m, t, field', last) = then-got (read_field k s) (λ m s. got (photon m (photon n (dark k))) s) more in
    let (bits, low) = read_field-got k b bin field in
    let high = (read_field-got k s (below_rest (msb_digits k n) s bits bin) field').1 in
    got_same (λ (xs r : List ℕ). sum xs ≡ 2) last (two-sum k n m low high)
body-fits k direct b bin h =
    let (ys, s, pixels, last) = then-got (read_pixels (2 ^ k) b) three_or_more h in
    by-test (ltb (sum ys) 3)
    (λ few. stops-got (rw few at last))
    (λ enough. got_same (λ (xs r : List ℕ). 3 ≤ sum xs) (rw enough at last) (ltb-false (sum ys) 3 enough))

pub code_read : (k : ℕ) (c : Code) (b : List ℕ) {xs r : List ℕ} → Below 2 b → read_group k (code_bits c ++ b) ≡ got xs r → CodeFits c xs
code_read k c b bin h = body-fits k c b bin (sym (read_group-code k c b) ∙ h)
