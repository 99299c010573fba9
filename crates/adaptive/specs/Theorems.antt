-- What holds of adaptive-precision numbers, read and written; the proofs are cited. The theorems that name a type hold of
-- every lawful type of number, and signed and unsigned numbers are such. Assumes nothing.
use Rattle.std.specs.Prelude.{ℕ, suc, ◌-◌, ◌≤◌, ◌<◌, ◌≡◌, refl, true, List, [], ◌∷◌, ◌++◌, length, take, eqb, ℤ, pos}
use Rattle.std.proofs.Common.{arith, ◌∙◌, le-leb}
use Rattle.std.specs.Int.Signed.{mag}
use Rattle.answer.specs.Outcome.{refusal, Kept, Within}
use Rattle.row_format.specs.Lists.{any}
use Rattle.adaptive.specs.Number.{NumberType, signed_type, unsigned_type, read_as, accepted, form_of, fewest, shortest}
use Rattle.adaptive.specs.Number.Own.{Bytes}
use Rattle.adaptive.specs.Number.Lawful.{LawfulType, signed-lawful, unsigned-lawful, signed_range}
use Rattle.adaptive.specs.Number.Read as Read
use Rattle.adaptive.specs.Calls.{signed_read, signed_written, unsigned_read, unsigned_written}
use Rattle.adaptive.specs.Calls.Laws as Calls

pub types-lawful : LawfulType signed_type × LawfulType unsigned_type
types-lawful = (signed-lawful, unsigned-lawful)

-- Every i32 and every u32 is in range; `mag v` is v, or -1 - v where v is negative.
pub every-i32 : (v : ℤ) → mag v < 2147483648 → signed_type.in_range v ≡ true
every-i32 v h = signed_range v ∙ le-leb (mag v) 2147483647 (omega arith)

pub every-u32 : (v : ℕ) → v < 4294967296 → unsigned_type.in_range v ≡ true
every-u32 v h = le-leb v 4294967295 (omega arith)

-- What one call writes, where the memory has room for it, the other reads back: the value, and the count of its bytes.
pub signed-there-and-back : (v : ℤ) (m : List ℕ) → signed_type.in_range v ≡ true → length (shortest signed_type v) ≤ length m
    → signed_read (signed_written v m).memory ≡ record { number = 0; value = v; used = (signed_written v m).answer.count }
signed-there-and-back = Calls.signed_back

pub unsigned-there-and-back : (v : ℕ) (m : List ℕ) → unsigned_type.in_range v ≡ true → length (shortest unsigned_type v) ≤ length m
    → unsigned_read (unsigned_written v m).memory ≡ record { number = 0; value = v; used = (unsigned_written v m).answer.count }
unsigned-there-and-back = Calls.unsigned_back

-- ---- demand 1
-- "each call .. answers with a number from document 01": 12 and 13 refuse a reading,
pub signed-read-numbers : (s : List ℕ) → any (eqb (signed_read s).number) (0 ∷ 12 ∷ 13 ∷ []) ≡ true
unfolding any
signed-read-numbers = Calls.signed_read-in (λ e. any (eqb e) (0 ∷ 12 ∷ 13 ∷ []) ≡ true) refl refl refl

pub unsigned-read-numbers : (s : List ℕ) → any (eqb (unsigned_read s).number) (0 ∷ 12 ∷ 13 ∷ []) ≡ true
unfolding any
unsigned-read-numbers = Calls.unsigned_read-in (λ e. any (eqb e) (0 ∷ 12 ∷ 13 ∷ []) ≡ true) refl refl refl

-- and 5 a writing.
pub signed-written-numbers : (v : ℤ) (m : List ℕ) → any (eqb (signed_written v m).answer.number) (0 ∷ 5 ∷ []) ≡ true
unfolding signed_written any
signed-written-numbers v = Calls.written_in (λ e. any (eqb e) (0 ∷ 5 ∷ []) ≡ true) refl refl (shortest signed_type v)

pub unsigned-written-numbers : (v : ℕ) (m : List ℕ) → any (eqb (unsigned_written v m).answer.number) (0 ∷ 5 ∷ []) ≡ true
unfolding unsigned_written any
unsigned-written-numbers v = Calls.written_in (λ e. any (eqb e) (0 ∷ 5 ∷ []) ≡ true) refl refl (shortest unsigned_type v)

-- "A refused call gives its number, zero for every count and value, and leaves the lent memory as found"
pub signed-read-refused : (s : List ℕ) → ((signed_read s).number ≡ 0 → ⊥)
    → signed_read s ≡ record { number = (signed_read s).number; value = pos 0; used = 0 }
signed-read-refused = Calls.signed_read-refused

pub unsigned-read-refused : (s : List ℕ) → ((unsigned_read s).number ≡ 0 → ⊥)
    → unsigned_read s ≡ record { number = (unsigned_read s).number; value = 0; used = 0 }
unsigned-read-refused = Calls.unsigned_read-refused

pub signed-written-refused-keeps : (v : ℤ) (m : List ℕ) → ((signed_written v m).answer.number ≡ 0 → ⊥)
    → Kept (refusal (signed_written v m).answer.number) m (signed_written v m)
unfolding signed_written
signed-written-refused-keeps v = Calls.written-kept (shortest signed_type v)

pub unsigned-written-refused-keeps : (v : ℕ) (m : List ℕ) → ((unsigned_written v m).answer.number ≡ 0 → ⊥)
    → Kept (refusal (unsigned_written v m).answer.number) m (unsigned_written v m)
unfolding unsigned_written
unsigned-written-refused-keeps v = Calls.written-kept (shortest unsigned_type v)

-- "A done call writes only the pixels, words or bytes that it counts"
pub signed-written-writes-bytes : (v : ℤ) (m : List ℕ) → Within (signed_written v m).answer.count m (signed_written v m)
unfolding signed_written
signed-written-writes-bytes v = Calls.written-within (shortest signed_type v)

pub unsigned-written-writes-bytes : (v : ℕ) (m : List ℕ) → Within (unsigned_written v m).answer.count m (unsigned_written v m)
unfolding unsigned_written
unsigned-written-writes-bytes v = Calls.written-within (shortest unsigned_type v)

-- ---- of every lawful type of number
module _ {A : Type 0} {K : NumberType A} (L : LawfulType K) where
  -- Written and then read, whatever follows it, a number gives its value and its count of bytes.
  pub written_read : (v : A) → K.in_range v ≡ true
      → (rest : List ℕ) → read_as K (shortest K v ++ rest) ≡ accepted v (length (shortest K v))
  written_read = Read.read_as-shortest K L

  -- Nothing shorter than what is written for a value is read as that value.
  pub written-fewest : (s : List ℕ) (v : A) (n : ℕ) → read_as K s ≡ accepted v n → length (shortest K v) ≤ n
  written-fewest = Read.shortest-least K L

  -- From the fewest bytes to five, the form of a value in that many bytes is read as the value,
  pub longer-read : (k : ℕ) (v : A) → fewest K v ≤ k → k ≤ 4 → K.in_range v ≡ true
      → (rest : List ℕ) → read_as K (form_of K k v ++ rest) ≡ accepted v (suc k)
  longer-read = Read.read_as-longer K L

  -- and no other bytes of that number are.
  pub read-own : (s : List ℕ) (v : A) (n : ℕ) → Bytes s → read_as K s ≡ accepted v n → take n s ≡ form_of K (n - 1) v
  read-own = Read.read_as-own K L

  -- Every number takes one to five bytes: as it is written,
  pub written_count : (v : A) → (0 < length (shortest K v)) × (length (shortest K v) ≤ 5)
  written_count = Read.shortest-count K

  -- and as it is read, where they are bytes that are there.
  pub read_count : (s : List ℕ) (v : A) (n : ℕ) → read_as K s ≡ accepted v n → (0 < n) × (n ≤ 5) × (n ≤ length s)
  read_count = Read.read_as-used K

  -- No byte after a number is looked at: with anything in their place the answer is the same.
  pub read-local : (s : List ℕ) (v : A) (n : ℕ) → read_as K s ≡ accepted v n
      → (rest : List ℕ) → read_as K (take n s ++ rest) ≡ accepted v n
  read-local = Read.read_as-local K

  -- Whatever the answer, no byte after the fifth is looked at.
  pub read-five : (s : List ℕ) → read_as K (take 5 s) ≡ read_as K s
  read-five = Read.read_as-take K
