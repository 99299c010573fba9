-- The laws of data bits, of the bytes that hold them, of the number at the front of some bytes, and of how many bytes a
-- magnitude asks for. Assumes nothing.
use Rattle.std.specs.Prelude.{ℕ, zero, suc, ◌+◌, ◌-◌, ◌*◌, ◌/◌, ◌%◌, ◌^◌, ◌≤◌, ◌<◌, ◌≡◌, refl, Bool, true, false, cond, List, [], ◌∷◌, ◌++◌, ◌⊎◌, length, take, leb, ltb}
use Rattle.std.proofs.Common.{zero-le, suc-le-suc, pow-suc, mul_assoc, zero-add, add-suc, suc-add, mod-lt, mul-le-mul_left, lt_of_lt_of_le, add-one, arith, sym, ap, ◌∙◌, subst, append_assoc, inl, inr, length-append, lit<, le-leb, lt-ltb, le-ltb}
use Rattle.std.proofs.Math.Nat.{mod-one, pow-le-pow_right, one-le-pow, add-mod_left, mod-mod, pow-succ'}
use Rattle.std.proofs.Math.Decide.{dec_lt}
use Rattle.std.proofs.Math.Arith.{digits_lt, mod-mul}
use Rattle.std.proofs.lemmas.Bool.{lt-leb}
use Rattle.adaptive.specs.Number.{NumberFront, whole, fault, byte_before, front, data_of, continued, data_bytes, later_bytes}

pub pow-128-pos : (k : ℕ) → 0 < 128 ^ k
pow-128-pos k = one-le-pow k 128 (lit< tt)

pub pow-128-le : {k : ℕ} → k ≤ 4 → 128 ^ k ≤ 128 ^ 4
pow-128-le h = pow-le-pow_right (lit< tt) h

-- ---- data bits
pub data_of-lt : (bs : List ℕ) → data_of bs < 128 ^ length bs
unfolding data_of
data_of-lt [] = lit< tt
data_of-lt (b ∷ bs) = rw (pow-succ' 128 (length bs)) (digits_lt (mod-lt b (lit< tt)) (data_of-lt bs))

pub data_of-snoc : (bs : List ℕ) (b : ℕ) → data_of (bs ++ (b ∷ [])) ≡ data_of bs * 128 + b % 128
unfolding data_of
data_of-snoc [] b = omega arith
data_of-snoc (x ∷ bs) b =
    rw (length-append bs (b ∷ []), add-one, pow-suc, ← mul_assoc, data_of-snoc bs b) (omega arith)

-- ---- the bytes of data bits
pub length-continued : (k d : ℕ) → length (continued k d) ≡ k
unfolding continued
length-continued zero d = refl
length-continued (suc k) d =
    length-append (continued k (d / 128)) ((128 + d % 128) ∷ []) ∙ rw (length-continued k (d / 128)) (add-one k)

pub length-data_bytes : (k d : ℕ) → length (data_bytes k d) ≡ suc k
unfolding data_bytes
length-data_bytes k d =
    length-append (continued k (d / 128)) ((d % 128) ∷ []) ∙ rw (length-continued k (d / 128)) (add-one k)

-- one group more
low-group : (k d : ℕ) → d / 128 % 128 ^ k * 128 + d % 128 ≡ d % 128 ^ suc k
low-group k d = rw (pow-suc 128 k) (sym (mod-mul d {c = 128} (pow-128-pos k) (lit< tt)))

pub data_of-continued : (k d : ℕ) → data_of (continued k d) ≡ d % 128 ^ k
unfolding continued data_of
data_of-continued zero d = sym (mod-one d)
data_of-continued (suc k) d =
    data_of-snoc (continued k (d / 128)) (128 + d % 128)
    ∙ rw (data_of-continued k (d / 128), add-mod_left 128 (d % 128), mod-mod d 128) (low-group k d)

pub data_of-data_bytes : (k d : ℕ) → data_of (data_bytes k d) ≡ d % 128 ^ suc k
unfolding data_bytes
data_of-data_bytes k d =
    data_of-snoc (continued k (d / 128)) (d % 128)
    ∙ rw (data_of-continued k (d / 128), mod-mod d 128) (low-group k d)

-- ---- the number at the front of some bytes
-- bytes that all say that another follows, before a front
abbrev prefix : List ℕ → NumberFront → NumberFront
prefix xs (whole bs) = whole (xs ++ bs)
prefix xs (fault e) = fault e

prefix-nil : (f : NumberFront) → prefix [] f ≡ f
prefix-nil (whole bs) = refl
prefix-nil (fault e) = refl

prefix-snoc : (xs : List ℕ) (b : ℕ) (f : NumberFront) → prefix xs (byte_before b f) ≡ prefix (xs ++ (b ∷ [])) f
prefix-snoc xs b (whole bs) = ap whole (sym (append_assoc xs (b ∷ []) bs))
prefix-snoc xs b (fault e) = refl

pub front-more : (n b : ℕ) (s : List ℕ) → 128 ≤ b → front (suc n) (b ∷ s) ≡ byte_before b (front n s)
unfolding front
front-more n b s h = rw (le-leb 128 b h)

pub front-last : (n b : ℕ) (s : List ℕ) → b < 128 → front (suc n) (b ∷ s) ≡ whole (b ∷ [])
unfolding front
front-last n b s h = rw (lt-leb 128 b h)

front-continued : (k n d : ℕ) (s : List ℕ) → front (k + n) (continued k d ++ s) ≡ prefix (continued k d) (front n s)
unfolding continued
front-continued zero n d s = rw (zero-add n) (sym (prefix-nil (front n s)))
front-continued (suc k) n d s =
    let rest = continued k (d / 128) in
    let b = 128 + d % 128 in
    rw (append_assoc rest (b ∷ []) s, suc-add k n, ← add-suc k n, front-continued k (suc n) (d / 128))
    (rw (front-more n b s (omega arith)) (prefix-snoc rest b (front n s)))

-- the bytes of some data bits are a whole number, whatever follows
front-data_bytes-within : (k n d : ℕ) (s : List ℕ) → front (k + suc n) (data_bytes k d ++ s) ≡ whole (data_bytes k d)
unfolding data_bytes
front-data_bytes-within k n d s =
    rw (append_assoc (continued k (d / 128)) ((d % 128) ∷ []) s, front-continued k (suc n) (d / 128))
    (rw (front-last n (d % 128) s (mod-lt d (lit< tt))))

pub front-data_bytes : (k d : ℕ) (s : List ℕ) → k ≤ 4 → front 5 (data_bytes k d ++ s) ≡ whole (data_bytes k d)
front-data_bytes k d s h =
    let e : k + suc (4 - k) ≡ 5 = omega arith in
    subst (λ (n : ℕ). front n (data_bytes k d ++ s) ≡ whole (data_bytes k d)) e (front-data_bytes-within k (4 - k) d s)

-- what a whole number at the front of s, of at most n bytes, is
pub record FoundNumber (n : ℕ) (s bs : List ℕ) : Type 0 where
  pub some : 0 < length bs
  pub within : length bs ≤ n
  pub there : length bs ≤ length s
  pub same : take (length bs) s ≡ bs
  pub local : (rest : List ℕ) → front n (bs ++ rest) ≡ whole bs

abbrev pub Fair : ℕ → List ℕ → NumberFront → Type 0
Fair n s (whole bs) = FoundNumber n s bs
Fair n s (fault e) = (e ≡ 12) ⊎ (e ≡ 13)

byte_before-fair : (n b : ℕ) (s : List ℕ) → 128 ≤ b → (f : NumberFront) → Fair n s f → Fair (suc n) (b ∷ s) (byte_before b f)
byte_before-fair n b s h (whole bs) p =
    record {
      some = omega arith;
      within = suc-le-suc p.within;
      there = suc-le-suc p.there;
      same = ap (λ (l : List ℕ). b ∷ l) p.same;
      local = λ rest. front-more n b (bs ++ rest) h ∙ ap (byte_before b) (p.local rest);
    }
byte_before-fair n b s h (fault e) p = p

last_found : (n b : ℕ) (s : List ℕ) → b < 128 → FoundNumber (suc n) (b ∷ s) (b ∷ [])
last_found n b s h =
    record {
      some = lit< tt;
      within = suc-le-suc zero-le;
      there = suc-le-suc zero-le;
      same = refl;
      local = λ rest. front-last n b rest h;
    }

pub front-fair : (n : ℕ) (s : List ℕ) → Fair n s (front n s)
unfolding front
front-fair zero s = inr refl
front-fair (suc n) [] = inl refl
front-fair (suc n) (b ∷ s) = by_flag (front-fair n s) (dec_lt b 128)
  where
    by_flag : Fair n s (front n s) → Dec (b < 128)
        → Fair (suc n) (b ∷ s) (cond (leb 128 b) (byte_before b (front n s)) (whole (b ∷ [])))
    by_flag p (yes h) = rw (lt-leb 128 b h) (last_found n b s h)
    by_flag p (no h) =
        let g : 128 ≤ b = omega arith in
        rw (le-leb 128 b g) (byte_before-fair n b s g (front n s) p)

-- no byte after the n-th is looked at
pub front-take : (n : ℕ) (s : List ℕ) → front n (take n s) ≡ front n s
unfolding front
front-take zero s = refl
front-take (suc n) [] = refl
front-take (suc n) (b ∷ s) = rw (front-take n s)

-- ---- the fewest bytes
cond-le : (t : Bool) (a k : ℕ) → a ≤ k → cond t 0 (suc a) ≤ suc k
cond-le true a k h = zero-le
cond-le false a k h = suc-le-suc h

pub later_bytes-le : (n w m : ℕ) → later_bytes n w m ≤ n
unfolding later_bytes
later_bytes-le zero w m = zero-le
later_bytes-le (suc n) w m = cond-le (ltb m w) (later_bytes n (w * 128) m) n (later_bytes-le n (w * 128) m)

-- no more than any number of later bytes that holds m
pub later_bytes-least : (n w m k : ℕ) → m < w * 128 ^ k → later_bytes n w m ≤ k
unfolding later_bytes
later_bytes-least zero w m k h = zero-le
later_bytes-least (suc n) w m zero h = rw (lt-ltb m w (omega arith)) zero-le
later_bytes-least (suc n) w m (suc k) h =
    let h' : m < w * 128 * 128 ^ k = rw (mul_assoc w 128 (128 ^ k), ← pow-succ' 128 k) h in
    cond-le (ltb m w) (later_bytes n (w * 128) m) k (later_bytes-least n (w * 128) m k h')

-- and it holds m, where n later bytes do
pub later_bytes-holds : (n w m : ℕ) → m < w * 128 ^ n → m < w * 128 ^ later_bytes n w m
unfolding later_bytes
later_bytes-holds zero w m h = h
later_bytes-holds (suc n) w m h = by-test (later_bytes-holds n (w * 128) m) (dec_lt m w)
  where
    by-test : (m < w * 128 * 128 ^ n → m < w * 128 * 128 ^ later_bytes n (w * 128) m) → Dec (m < w)
        → m < w * 128 ^ cond (ltb m w) 0 (suc (later_bytes n (w * 128) m))
    by-test p (yes g) = rw (lt-ltb m w g) (omega arith)
    by-test p (no g) =
        let g' : w ≤ m = omega arith in
        rw (le-ltb m w g', pow-succ', ← mul_assoc) (p (rw (mul_assoc w 128 (128 ^ n), ← pow-succ' 128 n) h))

-- more later bytes hold it too
pub holds_more : (w m : ℕ) {j k : ℕ} → j ≤ k → m < w * 128 ^ j → m < w * 128 ^ k
holds_more w m h p = lt_of_lt_of_le p (mul-le-mul_left w (pow-le-pow_right (lit< tt) h))
