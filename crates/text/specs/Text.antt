-- Text as bytes. Definitions only; their laws are in Text/Laws.antt. Assumes nothing.
use Rattle.std.specs.Prelude.{ℕ, zero, suc, ◌+◌, ◌/◌, ◌%◌, cond, List, [], ◌∷◌, ◌++◌, ltb, ℤ, pos, negsuc}
use Prim.Native.Char.{code}
use Prim.Native.String.{String}
pub mod Laws

-- the bytes of a text in ASCII
abbrev pub ascii : String → List ℕ
ascii String.[] = []
ascii (String.◌∷◌ c s) = code c ∷ ascii s

-- the byte of a digit; 48 is `0`
abbrev pub digit : ℕ → ℕ
digit d = 48 + d

-- the decimal digits of n, the highest first, where they are at most f + 1
unfoldable pub spelled : ℕ → ℕ → List ℕ
spelled zero n = digit (n % 10) ∷ []
spelled (suc f) n = let front : List ℕ = spelled f (n / 10) in cond (ltb n 10) (digit n ∷ []) (front ++ (digit (n % 10) ∷ []))

-- a number as it is written, with no zeros in front: `decimal_digit` and `decimal-more` of the laws say it without `spelled`
unfoldable pub decimal : ℕ → List ℕ
decimal n = spelled n n

-- a whole number with its sign: `-3`, `0`, `12`
unfoldable pub integer : ℤ → List ℕ
integer (pos n) = decimal n
integer (negsuc n) = ascii "-" ++ decimal (suc n)

-- some words and a number
abbrev pub field : List ℕ → ℕ → List ℕ
field words n = words ++ decimal n

-- and once more
abbrev pub fields : List ℕ → ℕ → List ℕ → ℕ → List ℕ
fields words n more k = field words n ++ field more k
