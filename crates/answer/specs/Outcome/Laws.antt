-- The laws of refusals, alone and in order, and of the outcomes that they give. Assumes nothing.
use Rattle.std.specs.Prelude.{ℕ, zero, suc, ◌≤◌, ◌<◌, ◌≡◌, refl, Bool, true, false, not, List, length, drop, ltb, eqb}
use Rattle.std.proofs.Common.{arith, length-append, length-drop, ltb-false, lt-ltb, le-ltb, eqb-true, eq-eqb, ne_eqb}
use Rattle.std.proofs.Math.Seq.{drop-append_seam}
use Rattle.std.proofs.lemmas.Bool.{not-false}
use Rattle.answer.specs.declared.Answer.{Answer}
use Rattle.answer.specs.Outcome.{Outcome, outcome, writes, ◌or_else◌, refuse_if, unless, Lent, nothing, lent, room_number, answer_of, refusal, refused, wrote, wrote_or_full, Kept, Within}

-- ---- one refusal
pub refuse_if-zero : (b : Bool) (e : ℕ) → refuse_if b (suc e) ≡ 0 → b ≡ false
refuse_if-zero true e h = absurd (omega arith)
refuse_if-zero false e h = refl

pub refuse_if-given : (b : Bool) (e : ℕ) → refuse_if b (suc e) ≡ suc e → b ≡ true
refuse_if-given true e h = refl
refuse_if-given false e h = absurd (omega arith)

-- where a is less than b
pub less_number-zero : (a b e : ℕ) → refuse_if (ltb a b) (suc e) ≡ 0 → b ≤ a
less_number-zero a b e h = ltb-false a b (refuse_if-zero (ltb a b) e h)

pub less_number-none : (a b e : ℕ) → b ≤ a → refuse_if (ltb a b) e ≡ 0
less_number-none a b e h = rw (le-ltb a b h)

pub less_number-given : (a b e : ℕ) → a < b → refuse_if (ltb a b) e ≡ e
less_number-given a b e h = rw (lt-ltb a b h)

-- where a is not b
pub unequal_number-zero : (a b e : ℕ) → refuse_if (not (eqb a b)) (suc e) ≡ 0 → a ≡ b
unequal_number-zero a b e h = eqb-true a b (not-false (eqb a b) (refuse_if-zero (not (eqb a b)) e h))

pub unequal_number-none : (a b e : ℕ) → a ≡ b → refuse_if (not (eqb a b)) e ≡ 0
unequal_number-none a b e h = rw (eq-eqb a b h)

pub unequal_number-given : (a b e : ℕ) → (a ≡ b → ⊥) → refuse_if (not (eqb a b)) e ≡ e
unequal_number-given a b e h = rw (ne_eqb a b h)

-- ---- refusals in order
pub or_else-assoc : (a b d : ℕ) → (a or_else b) or_else d ≡ a or_else b or_else d
or_else-assoc zero b d = refl
or_else-assoc (suc a) b d = refl

pub or_else-none : (a : ℕ) → a or_else 0 ≡ a
or_else-none zero = refl
or_else-none (suc a) = refl

-- none is given exactly where none of the parts is
pub or_else-zero-left : (a b : ℕ) → a or_else b ≡ 0 → a ≡ 0
or_else-zero-left zero b e = refl
or_else-zero-left (suc a) b e = absurd (omega arith)

pub or_else-zero-right : (a b : ℕ) → a or_else b ≡ 0 → b ≡ 0
or_else-zero-right zero b e = e
or_else-zero-right (suc a) b e = absurd (omega arith)

-- after a refusal what follows is not looked at
pub or_else-same : (a x y : ℕ) → (a ≡ 0 → x ≡ y) → a or_else x ≡ a or_else y
or_else-same zero x y h = h refl
or_else-same (suc a) x y h = refl

-- n is the first number that is not 0
pub given-first : {n : ℕ} (e d : ℕ) → n ≡ e → (n ≡ 0 → ⊥) → n ≡ e or_else d
given-first zero d h some = absurd (some h)
given-first (suc e) d h some = h

pub given-next : {n e d : ℕ} → e ≡ 0 → n ≡ d → n ≡ e or_else d
given-next none h = rw none h

-- ---- room
pub room_number-none : (m : Lent) → room_number m 0 ≡ 0
room_number-none nothing = refl
room_number-none (lent n) = less_number-none n 0 5 (omega arith)

-- ---- what a call comes to, by the number that refuses it
-- a part of it
pub unless-part : {A B : Type 0} (f : A → B) (e : ℕ) (refusal : ℕ → A) (done : A)
    → f (unless e refusal done) ≡ unless e (λ k. f (refusal k)) (f done)
unless-part f zero refusal done = refl
unless-part f (suc e) refusal done = refl

module _ {A : Type 0} where
  pub unless-refused : (e : ℕ) (refusal : ℕ → A) (done : A) → (e ≡ 0 → ⊥) → unless e refusal done ≡ refusal e
  unless-refused zero refusal done some = absurd (some refl)
  unless-refused (suc e) refusal done some = refl

  pub unless-first : (e d : ℕ) (refusal : ℕ → A) (done : A) → (e ≡ 0 → ⊥) → unless (e or_else d) refusal done ≡ refusal e
  unless-first zero d refusal done some = absurd (some refl)
  unless-first (suc e) d refusal done some = refl

  -- to show something of it, show it of a refusal and of what is done
  pub unless-in : (P : A → Type 0) (e : ℕ) (refusal : ℕ → A) (done : A)
      → ((k : ℕ) → e ≡ suc k → P (refusal (suc k))) → (e ≡ 0 → P done) → P (unless e refusal done)
  unless-in P zero refusal done given none = none refl
  unless-in P (suc e) refusal done given none = given e refl

-- the number that it answers
module _ {A : Type 0} (number : A → ℕ) (refusal : ℕ → A) (done : A) (right : (k : ℕ) → number (refusal k) ≡ k) where
  pub unless-number : (e : ℕ) → number done ≡ 0 → number (unless e refusal done) ≡ e
  unless-number zero none = none
  unless-number (suc e) none = right (suc e)

-- ---- what demand 1 says of outcomes
pub writes-within : {A : Type 0} (a : A) (k : ℕ) (b m : List ℕ) → length b ≡ k → k ≤ length m → Within k m (writes a b m)
writes-within a k b m e h = record {
  size = omega (arith, length-append b (drop (length b) m), length-drop (length b) m);
  rest = rw (← e) (drop-append_seam b (drop (length b) m));
}

module _ {A : Type 0} (none : ℕ → A) (m : List ℕ) (done : Outcome A) where
  -- refused: the number is that of the refusal
  pub unless-kept : (number : A → ℕ) → ((k : ℕ) → number (none k) ≡ k)
      → let left : ℕ → Outcome A = λ e. unless e (λ k. outcome (none k) m) done in
      (e : ℕ) → ((number done.answer ≡ 0 → ⊥) → Kept (none (number done.answer)) m done)
      → (number (left e).answer ≡ 0 → ⊥) → Kept (none (number (left e).answer)) m (left e)
  unless-kept number right zero h some = h some
  unless-kept number right (suc e) h some = record { answer = rw (right (suc e)); memory = refl }

-- ---- to show something of a number, show it of those that it may be
module _ (P : ℕ → Type 0) where
  pub refuse_if-in : (b : Bool) (e : ℕ) → P 0 → P e → P (refuse_if b e)
  refuse_if-in true e none given = given
  refuse_if-in false e none given = none

  pub or_else-in : (a b : ℕ) → P a → P b → P (a or_else b)
  or_else-in zero b first second = second
  or_else-in (suc a) b first second = first

  pub room_number-in : (m : Lent) (n : ℕ) → P 0 → P 5 → P (room_number m n)
  room_number-in nothing n none given = none
  room_number-in (lent m) n none given = refuse_if-in (ltb m n) 5 none given

-- ---- bytes lent out, or 5
module _ (c : ℕ) (b m : List ℕ) where
  pub wrote_or_full-kept : ((wrote_or_full c b m).answer.number ≡ 0 → ⊥)
      → Kept (refusal (wrote_or_full c b m).answer.number) m (wrote_or_full c b m)
  wrote_or_full-kept =
      unless-kept refusal m (wrote c b m) (λ (a : Answer). a.number) (λ k. refl) (room_number (lent (length m)) c)
      (λ some. absurd (some refl))

  pub wrote_or_full-within : length b ≡ c → Within (wrote_or_full c b m).answer.count m (wrote_or_full c b m)
  wrote_or_full-within e =
      unless-in (λ o. Within o.answer.count m o) (room_number (lent (length m)) c) (λ k. refused k m) (wrote c b m)
      (λ k h. record { size = refl; rest = refl })
      (λ h. writes-within (answer_of 0 c) c b m e (less_number-zero (length m) c 4 h))

pub wrote_or_full-in : (P : ℕ → Type 0) → P 0 → P 5 → (c : ℕ) (b m : List ℕ) → P (wrote_or_full c b m).answer.number
wrote_or_full-in P p0 p5 c b m =
    let number : Outcome Answer → ℕ = λ o. o.answer.number in
    rw (unless-number number (λ e. refused e m) (wrote c b m) (λ k. refl) (room_number (lent (length m)) c) refl)
    (room_number-in P (lent (length m)) c p0 p5)
