-- What the code's steps of reading are, against the definitions. b is the bits of a map's bytes. Definitions only. Assumes nothing.
use Rattle.std.specs.Prelude.{ℕ, zero, suc, Result, Ok, Err, ◌+◌, ◌-◌, ◌*◌, ◌^◌, ◌≤◌, ◌<◌, ◌≡◌, not, cond, List, ◌++◌, length, take, drop, replicate, eqb}
use Rattle.answer.specs.Outcome.{◌or_else◌, refuse_if}
use Rattle.map_format.specs.Reading.{
  Parse,
  stops,
  got,
  ◌then◌,
  Code,
  zeros,
  one,
  two,
  direct,
  sum,
  dark,
  read_field,
  wide_value,
  four_bits,
  read_pixels,
  read_groups,
}
use Rattle.map_format.specs.Calls.{map_groups}
use Rattle.answer.specs.declared.refusal.Refusal.{Refusal}
use Rattle.answer.specs.Refusal.{refusal_number}
use Rattle.mat_map.specs.declared.field.Step.{Step}
pub mod Laws
pub mod Memory
pub mod Prefixed
pub mod Ahead
pub mod Group
pub mod GroupAhead
pub mod Map

-- what a step of reading comes to: its number, and where it is 0 what was read, a field, a pixel, the photons of a group or of groups,
-- and the bit place after it
pub record Stepped : Type 0 where
  pub number : ℕ
  pub value : ℕ
  pub next : ℕ

-- what the code gives, as that
abbrev pub as_stepped : Result Step Refusal → Stepped
as_stepped (Ok x) = record { number = 0; value = x.value; next = x.next }
as_stepped (Err e) = record { number = refusal_number e; value = 0; next = 0 }

-- a step that went on: v was read, the next bit is inside and not too far, and the code's value is low enough for its sums
pub record Goes {A : Type 0} (b : List ℕ) (far top : ℕ) (p : Parse A) (v : A) (x : Stepped) : Type 0 where
  pub read : p ≡ got v (drop x.next b)
  pub inside : x.next ≤ length b
  pub near : x.next ≤ far
  pub low : x.value < top

-- the code's answer x to what reading comes to, p
pub record StepReads {A : Type 0} (b : List ℕ) (far top : ℕ) (p : Parse A) (v : A) (x : Stepped) : Type 0 where
  pub stopped : (x.number ≡ 0 → ⊥) → p ≡ stops x.number
  pub goes : x.number ≡ 0 → Goes b far top p v x

-- ---- a pixel's later fields
abbrev pub four_or_more : List ℕ → Parse ℕ
four_or_more b = read_field 4 b then four_bits

abbrev pub wide_only : List ℕ → Parse ℕ
wide_only b = read_field 16 b then wide_value

-- ---- a code by its zeros
abbrev pub code_of : ℕ → Code
code_of zero = zeros
code_of (suc zero) = one
code_of (suc (suc zero)) = two
code_of (suc (suc (suc n))) = direct

-- one more bit, if it is a one; and what is read after one zero, and after two
abbrev pub bit_or : Code → (List ℕ → Parse Code) → List ℕ → Parse Code
bit_or c rest b = read_field 1 b then λ x r. cond (eqb x 1) (got c r) (rest r)

abbrev pub after_two_zeros : List ℕ → Parse Code
after_two_zeros b = bit_or two (got direct) b

abbrev pub after_zero : List ℕ → Parse Code
after_zero b = bit_or one after_two_zeros b

-- ---- counts in memory: l before, l' after
-- n of them from a place on
abbrev pub part : ℕ → ℕ → List ℕ → List ℕ
part place n l = take n (drop place l)

-- those outside are as they were
pub record Around (place n : ℕ) (l l' : List ℕ) : Type 0 where
  pub size : length l' ≡ length l
  pub front : take place l' ≡ take place l
  pub back : drop (place + n) l' ≡ drop (place + n) l

-- and these n are what was read, with their photons as the value
pub record Stored (b : List ℕ) (far : ℕ) (p : Parse (List ℕ)) (place n : ℕ) (l l' : List ℕ) (x : Stepped) : Type 0 where
  pub reads : StepReads b far (65535 * n + 1) p (part place n l') x
  pub photons : x.number ≡ 0 → x.value ≡ sum (part place n l')
  pub around : Around place n l l'

-- what was read before, and then more
abbrev pub prefixed : List ℕ → Parse (List ℕ) → Parse (List ℕ)
prefixed a p = p then λ xs b. got (a ++ xs) b

-- after i of n pixels from bit place `at` on: the next is at `next`, and these have so many photons
pub record Pixels (b : List ℕ) (at n place : ℕ) (l l' : List ℕ) (next photons i : ℕ) : Type 0 where
  pub within : i ≤ n
  pub around : Around place n l l'
  pub so_far_lem : read_pixels n (drop at b) ≡ prefixed (part place i l') (read_pixels (n - i) (drop next b))
  pub sums : photons ≡ sum (part place i l')
  pub low : photons ≤ 65535 * i
  pub near : next ≤ at + 22 * i
  pub inside : 0 < i → next ≤ length b

-- a group of 2 ^ k counts can be read to a place: they are 0
pub record GroupReady (k at place : ℕ) (l : List ℕ) : Type 0 where
  pub some : 0 < k
  pub few : k ≤ 4
  pub near : at + 352 ≤ 2 ^ 32
  pub room : place + 2 ^ k ≤ length l
  pub none : part place (2 ^ k) l ≡ dark k

-- all of a map's counts are 0
pub record Dark (l : List ℕ) : Type 0 where
  pub size : length l ≡ 16384
  pub none : l ≡ replicate (length l) 0

-- before so many groups that are left of a map: the counts from place on are 0, the next group is at bit place `at`
pub record Groups (b : List ℕ) (k : ℕ) (l : List ℕ) (left place at photons : ℕ) : Type 0 where
  pub size : length l ≡ 16384
  pub room : place + left * 2 ^ k ≡ 16384
  pub so_far_lem : read_groups k (map_groups k) b ≡ prefixed (take place l) (read_groups k left (drop at b))
  pub none : drop place l ≡ replicate (length l - place) 0
  pub sums : photons ≡ sum (take place l)
  pub low : photons ≤ 65535 * place
  pub near : at ≤ 25 * place
  pub inside : 0 < place → at ≤ length b

-- ---- the number of all groups: "21 last"
abbrev pub judged_number : ℕ → Stepped → ℕ
judged_number total x = x.number or_else refuse_if (not (eqb x.value total)) 21
