-- A code after some zeros. Assumes nothing.
use Rattle.std.proofs.Common.{arith, ℕ, zero, suc, ◌≡◌, ◌≤◌, ◌<◌, ◌+◌, refl, ◌∙◌, List, length, drop}
use borrow.Author.Tests.{ne_eqb}
use Rattle.map_format.specs.Reading.{Parse, got, Code, direct, read_field, read_code}
use Rattle.mat_map.specs.Step.{StepReads, Stepped, code_of, bit_or, after_zero, after_two_zeros}
use Rattle.mat_map.specs.Step.Laws.{gets}

-- what is read after so many
unfoldable pub after : ℕ → List ℕ → Parse Code
after zero b = read_code b
after (suc zero) b = after_zero b
after (suc (suc zero)) b = after_two_zeros b
after (suc (suc (suc n))) b = got direct b

pub after-bit : (i : ℕ) → i < 3 → (b : List ℕ) → after i b ≡ bit_or (code_of i) (after (i + 1)) b
unfolding after read_code
after-bit zero h b = refl
after-bit (suc zero) h b = refl
after-bit (suc (suc zero)) h b = refl
after-bit (suc (suc (suc n))) h b = absurd (omega arith)

-- at bit place `next`, after i zeros from bit place `at` on
pub record Zeros (b : List ℕ) (at next i : ℕ) : Type 0 where
  pub reads : read_code (drop at b) ≡ after i (drop next b)
  pub near : next ≤ at + i
  pub inside : 0 < i → next ≤ length b

pub zeros-none : (b : List ℕ) (at : ℕ) → Zeros b at at 0
unfolding after
zeros-none b at = record { reads = refl; near = omega arith; inside = λ h. absurd (omega arith) }

module _ {b : List ℕ} {at next i : ℕ} (z : Zeros b at next i) (few : i < 3) (x : Stepped)
    (h : StepReads b (next + 1) 2 (read_field 1 (drop next b)) x.value x) where
  pub zeros-bit : read_code (drop at b) ≡ bit_or (code_of i) (after (i + 1)) (drop next b)
  zeros-bit = z.reads ∙ after-bit i few (drop next b)

  pub zeros-more : x.number ≡ 0 → (x.value ≡ 1 → ⊥) → Zeros b at x.next (i + 1)
  zeros-more ok other = record {
    reads = zeros-bit ∙ rw ((h.goes ok).read, ne_eqb x.value 1 other);
    near = omega (arith, (h.goes ok).near, z.near);
    inside = λ g. (h.goes ok).inside;
  }

pub zeros-all : {b : List ℕ} {at next : ℕ} → Zeros b at next 3
    → let y : Stepped = record { number = 0; value = 3; next = next } in
    StepReads b (at + 3) 4 (read_code (drop at b)) (code_of y.value) y
unfolding after
zeros-all {b} {at} {next} z = gets b (at + 3) 4 _ _ _ refl record {
  read = z.reads;
  inside = z.inside (omega arith);
  near = z.near;
  low = omega arith;
}
