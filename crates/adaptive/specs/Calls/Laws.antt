-- The laws of the calls' answers. Assumes nothing.
use Rattle.std.specs.Prelude.{ℕ, ◌≤◌, ◌<◌, ◌≡◌, refl, true, List, length, drop, ℤ, pos}
use Rattle.std.proofs.Common.{zero-le, arith, ap, le-ltb}
use Rattle.answer.specs.Outcome.{refusal, wrote, Kept, Within}
use Rattle.answer.specs.Outcome.Laws.{wrote_or_full-in, wrote_or_full-kept, wrote_or_full-within}
use Rattle.adaptive.specs.declared.SignedRead.{SignedRead}
use Rattle.adaptive.specs.declared.UnsignedRead.{UnsignedRead}
use Rattle.adaptive.specs.Number.{NumberType, signed_type, unsigned_type, NumberReading, accepted, rejected, read_as, shortest}
use Rattle.adaptive.specs.Number.Lawful.{LawfulType, signed-lawful, unsigned-lawful}
use Rattle.adaptive.specs.Number.Read.{RejectedIn, read_as-in, read_as-shortest, read_as-used, read_as-rejected}
use Rattle.adaptive.specs.Calls.{written, signed_read, signed_answer, signed_written, unsigned_read, unsigned_answer, unsigned_written}

-- ---- writing
pub written-done : (b m : List ℕ) → length b ≤ length m → written b m ≡ wrote (length b) b m
unfolding written
written-done b m h = rw (le-ltb (length m) (length b) h)

-- ---- what demand 1 says of writing
pub written_in : (P : ℕ → Type 0) → P 0 → P 5 → (b m : List ℕ) → P (written b m).answer.number
unfolding written
written_in P p0 p5 b m = wrote_or_full-in P p0 p5 (length b) b m

pub written-kept : (b m : List ℕ) → ((written b m).answer.number ≡ 0 → ⊥)
    → Kept (refusal (written b m).answer.number) m (written b m)
unfolding written
written-kept b m = wrote_or_full-kept (length b) b m

pub written-within : (b m : List ℕ) → Within (written b m).answer.count m (written b m)
unfolding written
written-within b m = wrote_or_full-within (length b) b m refl

-- ---- and of reading: of any answer that is made of a reading and has its number
module _ {A R : Type 0} (answer : NumberReading A → R) (number : R → ℕ)
    (done : (v : A) (n : ℕ) → number (answer (accepted v n)) ≡ 0) (right : (e : ℕ) → number (answer (rejected e)) ≡ e) where
  answer-in : (K : NumberType A) (P : ℕ → Type 0) → P 0 → P 12 → P 13 → (s : List ℕ) → P (number (answer (read_as K s)))
  answer-in K P p0 p12 p13 s = by-reading (read_as K s) (read_as-in K P p12 p13 s)
    where
      by-reading : (r : NumberReading A) → RejectedIn P r → P (number (answer r))
      by-reading (accepted v n) h = rw (done v n) p0
      by-reading (rejected e) h = rw (right e) h

  answer-refused : (r : NumberReading A) → (number (answer r) ≡ 0 → ⊥) → answer r ≡ answer (rejected (number (answer r)))
  answer-refused (accepted v n) some = absurd (some (done v n))
  answer-refused (rejected e) some = rw (right e)

pub signed_read-in : (P : ℕ → Type 0) → P 0 → P 12 → P 13 → (s : List ℕ) → P (signed_read s).number
unfolding signed_read
signed_read-in = answer-in signed_answer (λ (a : SignedRead). a.number) (λ v n. refl) (λ e. refl) signed_type

pub unsigned_read-in : (P : ℕ → Type 0) → P 0 → P 12 → P 13 → (s : List ℕ) → P (unsigned_read s).number
unfolding unsigned_read
unsigned_read-in = answer-in unsigned_answer (λ (a : UnsignedRead). a.number) (λ v n. refl) (λ e. refl) unsigned_type

pub signed_read-refused : (s : List ℕ) → ((signed_read s).number ≡ 0 → ⊥)
    → signed_read s ≡ record { number = (signed_read s).number; value = pos 0; used = 0 }
unfolding signed_read
signed_read-refused s = answer-refused signed_answer (λ (a : SignedRead). a.number) (λ v n. refl) (λ e. refl) (read_as signed_type s)

pub unsigned_read-refused : (s : List ℕ) → ((unsigned_read s).number ≡ 0 → ⊥)
    → unsigned_read s ≡ record { number = (unsigned_read s).number; value = 0; used = 0 }
unfolding unsigned_read
unsigned_read-refused s =
    answer-refused unsigned_answer (λ (a : UnsignedRead). a.number) (λ v n. refl) (λ e. refl) (read_as unsigned_type s)

-- ---- what is written is read back from the memory that it was written to
back : {A : Type 0} {K : NumberType A} → LawfulType K → (v : A) (m : List ℕ) → K.in_range v ≡ true → length (shortest K v) ≤ length m
    → read_as K (written (shortest K v) m).memory ≡ accepted v (written (shortest K v) m).answer.count
back {A} {K} L v m r h =
    rw (written-done (shortest K v) m h) (read_as-shortest K L v r (drop (length (shortest K v)) m))

pub signed_back : (v : ℤ) (m : List ℕ) → signed_type.in_range v ≡ true → length (shortest signed_type v) ≤ length m
    → signed_read (signed_written v m).memory ≡ record { number = 0; value = v; used = (signed_written v m).answer.count }
unfolding signed_read signed_written
signed_back v m r h = ap signed_answer (back signed-lawful v m r h)

pub unsigned_back : (v : ℕ) (m : List ℕ) → unsigned_type.in_range v ≡ true → length (shortest unsigned_type v) ≤ length m
    → unsigned_read (unsigned_written v m).memory ≡ record { number = 0; value = v; used = (unsigned_written v m).answer.count }
unfolding unsigned_read unsigned_written
unsigned_back v m r h = ap unsigned_answer (back unsigned-lawful v m r h)

-- ---- for a caller that reads one number after another: what it knows of an answer's used bytes
pub record Used (s : List ℕ) (number used : ℕ) : Type 0 where
  pub some : number ≡ 0 → 0 < used
  pub most : used ≤ 5
  pub there : used ≤ length s

abbrev Uses : {A : Type 0} → List ℕ → NumberReading A → Type 0
Uses s (accepted v n) = Used s 0 n
Uses s (rejected e) = Used s e 0

read_as-uses : {A : Type 0} (K : NumberType A) (s : List ℕ) → Uses s (read_as K s)
read_as-uses {A} K s = by-reading (read_as K s) refl
  where
    by-reading : (r : NumberReading A) → read_as K s ≡ r → Uses s r
    by-reading (accepted v n) e =
        let u = read_as-used K s v n e in
        record { some = λ z. u.0; most = u.1; there = u.2 }
    by-reading (rejected x) e =
        let h = read_as-rejected K s x e in
        record { some = λ z. absurd (omega arith); most = zero-le; there = zero-le }

pub signed_read-used : (s : List ℕ) {r : SignedRead} → r ≡ signed_read s → Used s r.number r.used
unfolding signed_read
signed_read-used s e = rw e (fields (read_as signed_type s) (read_as-uses signed_type s))
  where
    fields : (r : NumberReading ℤ) → Uses s r → Used s (signed_answer r).number (signed_answer r).used
    fields (accepted v n) u = u
    fields (rejected x) u = u
