-- What a turn of later_bytes does to the count. Assumes nothing.
use Prim.Native.Nat.{ℕ, zero, suc, ◌+◌, ◌-◌, ◌*◌, ◌^◌, ◌≤◌, ◌<◌}
use native.Mathlib.Nat.{pow-suc, mul-le-mul_right}
use native.Mathlib.Numerals.{add-one}
use native.Mathlib.Omega.{arith}
use mathlib.Core.Path.{◌≡◌, refl}
use borrow.Author.Tests.{lt-ltb, le-ltb}
use Rattle.adaptive.specs.Number.{later_bytes}

later-found : (n w m : ℕ) → m < w → later_bytes n w m ≡ 0
unfolding later_bytes
later-found zero w m h = refl
later-found (suc n) w m h = rw (lt-ltb m w h)

later_more : (n w m : ℕ) → w ≤ m → later_bytes (suc n) w m ≡ suc (later_bytes n (w * 128) m)
unfolding later_bytes
later_more n w m h = rw (le-ltb m w h)

later-none : (w m : ℕ) → later_bytes 0 w m ≡ 0
unfolding later_bytes
later-none w m = refl

-- k bytes have no room for m, and what is left is to be counted from top on
pub record Counted (first m top k : ℕ) : Type 0 where
  pub most : k ≤ 4
  pub bound : top ≤ 128 ^ suc k
  pub count : later_bytes 4 first m ≡ k + later_bytes (4 - k) top m

pub counted-found : {first m top k : ℕ} → Counted first m top k → m < top → k ≡ later_bytes 4 first m
counted-found {first} {m} {top} {k} c h = omega (arith, c.count, later-found (4 - k) top m h)

pub counted-more : {first m top k : ℕ} → Counted first m top k → k < 4 → top ≤ m → Counted first m (top * 128) (k + 1)
counted-more {first} {m} {top} {k} c h g =
    let left : 4 - k ≡ suc (4 - (k + 1)) = omega arith in
    let turn : later_bytes (4 - k) top m ≡ suc (later_bytes (4 - (k + 1)) (top * 128) m) =
    rw left (later_more (4 - (k + 1)) top m g) in
    record {
      most = omega arith;
      bound = rw (add-one k, pow-suc 128 (suc k)) (mul-le-mul_right 128 c.bound);
      count = omega (arith, c.count);
    }

pub counted-all : {first m top k : ℕ} → Counted first m top k → 4 ≤ k → 4 ≡ later_bytes 4 first m
counted-all {first} {m} {top} {k} c h =
    let left : 4 - k ≡ 0 = omega arith in
    let over : later_bytes (4 - k) top m ≡ 0 = rw left (later-none top m) in
    omega (arith, c.count)
