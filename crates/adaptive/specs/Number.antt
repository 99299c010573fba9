-- Document 01, "Adaptive-precision numbers"; source document 000, section 1.2: what bytes stand for, and the bytes of a
-- value. Signed and unsigned numbers differ in what their first byte holds; all else is said once, of a NumberType.
-- Definitions only; their laws are in Number/. Assumes nothing.
use Rattle.std.specs.Prelude.{ℕ, zero, suc, ◌+◌, ◌-◌, ◌*◌, ◌/◌, ◌%◌, ◌^◌, Bool, cond, ◌&&◌, List, [], ◌∷◌, ◌++◌, length, leb, ltb, ℤ, pos, negsuc, ◌-ℤ◌}
use Rattle.std.specs.Int.Signed.{le_z, mag}
pub mod Laws
pub mod Own
pub mod Sign
pub mod Lawful
pub mod Read

-- ---- which bytes are a number
-- the bytes of the whole number at the front of some bytes, or the number of the refusal
pub data NumberFront : Type 0 where
  whole : List ℕ → NumberFront
  fault : ℕ → NumberFront

abbrev pub byte_before : ℕ → NumberFront → NumberFront
byte_before b (whole bs) = whole (b ∷ bs)
byte_before b (fault e) = fault e

-- "Bit 128 of each byte says that another byte follows". Of n bytes at most: 12 where "bytes end before an adaptive number
-- does", 13 where the last byte allowed asks for another
unfoldable pub front : ℕ → List ℕ → NumberFront
front zero s = fault 13
front (suc n) [] = fault 12
front (suc n) (b ∷ s) = let f : NumberFront = byte_before b (front n s) in cond (leb 128 b) f (whole (b ∷ []))

-- ---- what they stand for
-- "Bytes run from the most significant", "7 data bits a byte"
unfoldable pub data_of : List ℕ → ℕ
data_of [] = 0
data_of (b ∷ bs) = b % 128 * 128 ^ length bs + data_of bs

-- "Signed: the first byte has bit 64 as sign and 6 data bits, later bytes 7. With k later bytes and the sign set, the value
-- is the data minus 64 x 128^k". (Every number has a first byte, so the first line is never asked.)
unfoldable pub signed_value : List ℕ → ℤ
signed_value [] = pos 0
signed_value (b ∷ bs) = pos (b % 64 * 128 ^ length bs + data_of bs) -ℤ pos (b / 64 % 2 * (64 * 128 ^ length bs))

-- ---- the bytes of data bits
-- the k lowest groups of 7 bits, the most significant first, in bytes that all say that another follows
unfoldable pub continued : ℕ → ℕ → List ℕ
continued zero d = []
continued (suc k) d = continued k (d / 128) ++ ((128 + d % 128) ∷ [])

-- the k + 1 lowest groups, in the bytes of a whole number
unfoldable pub data_bytes : ℕ → ℕ → List ℕ
data_bytes k d = continued k (d / 128) ++ (d % 128 ∷ [])

-- the data bits of a signed value: two's complement in the 35 bits of five bytes
abbrev pub twos : ℤ → ℕ
twos (pos m) = m
twos (negsuc m) = 128 ^ 5 - suc m

-- ---- signed and unsigned
pub record NumberType (A : Type 0) : Type 0 where
  -- what the bytes of a whole number stand for, and which values are in range
  pub value_of : List ℕ → A
  pub in_range : A → Bool
  -- the data bits of a value; with k later bytes the 7 x (k + 1) lowest of them are written
  pub data_for : A → ℕ
  -- k later bytes have room for the values of a magnitude below first x 128^k
  pub first : ℕ
  pub magnitude : A → ℕ

-- "unsigned 0 to 4294967295"
abbrev pub unsigned_type : NumberType ℕ
unsigned_type = record {
  value_of = data_of;
  in_range = λ v. leb v 4294967295;
  data_for = λ v. v;
  first = 128;
  magnitude = λ v. v;
}

-- "Signed values are -2147483648 to 2147483647"; `mag v` is v, or -1 - v where v is negative
abbrev pub signed_type : NumberType ℤ
signed_type = record {
  value_of = signed_value;
  in_range = λ v. le_z (negsuc 2147483647) v && le_z v (pos 2147483647);
  data_for = twos;
  first = 64;
  magnitude = mag;
}

-- ---- reading
-- a value and the bytes used, or the number of the refusal
pub data NumberReading (A : Type 0) : Type 0 where
  accepted : A → ℕ → NumberReading A
  rejected : ℕ → NumberReading A

-- 13 where "the value is outside its range"
abbrev pub number_judged : {A : Type 0} → NumberType A → NumberFront → NumberReading A
number_judged K (whole bs) = cond (K.in_range (K.value_of bs)) (accepted (K.value_of bs) (length bs)) (rejected 13)
number_judged K (fault e) = rejected e

-- "at most five bytes"
unfoldable pub read_as : {A : Type 0} → NumberType A → List ℕ → NumberReading A
read_as K s = number_judged K (front 5 s)

-- ---- writing
-- a value in k + 1 bytes
abbrev pub form_of : {A : Type 0} → NumberType A → ℕ → A → List ℕ
form_of K k v = data_bytes k (K.data_for v)

-- the least k with which a magnitude m is below w x 128^k, but never more than n
unfoldable pub later_bytes : ℕ → ℕ → ℕ → ℕ
later_bytes zero w m = 0
later_bytes (suc n) w m = let k : ℕ = later_bytes n (w * 128) m in cond (ltb m w) 0 (suc k)

-- "The writer uses the fewest bytes": so many later ones
abbrev pub fewest : {A : Type 0} → NumberType A → A → ℕ
fewest K v = later_bytes 4 K.first (K.magnitude v)

unfoldable pub shortest : {A : Type 0} → NumberType A → A → List ℕ
shortest K v = form_of K (fewest K v) v
