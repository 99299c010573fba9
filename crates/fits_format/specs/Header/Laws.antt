-- The laws of Header: its cards by their places, and those before END. Those of its number are in Clauses. Assumes nothing.
use Rattle.std.specs.Prelude.{ℕ, zero, suc, ◌+◌, ◌-◌, ◌*◌, ◌/◌, ◌≤◌, ◌<◌, min, ◌≡◌, refl, Bool, true, false, length, take, drop, get_or, ltb}
use Rattle.std.proofs.Math.Nat.{sub-zero, zero-sub, suc-sub-suc}
use Rattle.std.proofs.Math.Numerals.{add-one}
use Rattle.std.proofs.Common.{arith, sym, ap, ◌∙◌, length-take, length-drop, take-take, drop-drop, drop-cons, ltb-true, ltb-false, lt-ltb, le-ltb}
use mathlib.Core.List.{List, [], ◌∷◌}
use Rattle.std.proofs.Math.Seq.{take-nil}
use Rattle.row_format.specs.Lists.{any}
use Rattle.row_format.specs.Lists.Laws.{by-test, true-false, drop-take}
use Rattle.text.specs.Text.{ascii}
use Rattle.row_format.specs.Plain.{plain_bytes}
use Rattle.code_table.specs.Plain.Laws.{length-plain_bytes}
use Rattle.sheet_format.specs.Writing.Laws.{length-record_bytes}
use Rattle.fits_format.specs.Card.{has_keyword}
use Rattle.fits_format.specs.Header.{cards_of, header_cards, before_end, stands, end_card, plain_table_record}

-- ---- the cards by their places
pub length-cards_of : (n : ℕ) (s : List ℕ) → length (cards_of n s) ≡ min n (length s / 80)
unfolding cards_of
length-cards_of zero s = omega arith
length-cards_of (suc n) s =
    by-test (ltb (length s) 80)
    (λ t. rw t (omega (arith, ltb-true (length s) 80 t)))
    (λ t. rw t (omega (arith, ltb-false (length s) 80 t, length-cards_of n (drop 80 s), length-drop 80 s)))

pub get_d-cards_of : (n : ℕ) (s : List ℕ) (i : ℕ) → i < length (cards_of n s)
    → get_or (cards_of n s) i [] ≡ take 80 (drop (80 * i) s)
unfolding cards_of
get_d-cards_of zero s i h = absurd (omega arith)
get_d-cards_of (suc n) s zero h =
    by-test (ltb (length s) 80)
    (λ t. absurd (omega (arith, rw t at h)))
    (λ t. rw t)
get_d-cards_of (suc n) s (suc i) h =
    by-test (ltb (length s) 80)
    (λ t. absurd (omega (arith, rw t at h)))
    (λ t.
    let h' : suc i < suc (length (cards_of n (drop 80 s))) = rw t at h in
    let place : 80 + 80 * i ≡ 80 * suc i = omega arith in
    let there : drop (80 * i) (drop 80 s) ≡ drop (80 * suc i) s = drop-drop (80 * i) 80 s ∙ ap (λ (k : ℕ). drop k s) place in
    rw t (get_d-cards_of n (drop 80 s) i (omega arith) ∙ ap (take 80) there))

-- the cards of the first k
pub take-cards_of : (n k : ℕ) (s : List ℕ) → cards_of n (take (80 * k) s) ≡ take k (cards_of n s)
unfolding cards_of
take-cards_of zero k s = sym (take-nil k)
take-cards_of (suc n) zero s = refl
take-cards_of (suc n) (suc k) s =
    let size = length-take (80 * suc k) s in
    by-test (ltb (length s) 80)
    (λ t. rw (t, lt-ltb (length (take (80 * suc k) s)) 80 (omega (arith, ltb-true (length s) 80 t))))
    (λ t.
    let less : 80 * suc k - 80 ≡ 80 * k = omega arith in
    let rest : drop 80 (take (80 * suc k) s) ≡ take (80 * k) (drop 80 s) =
    drop-take 80 (80 * suc k) s ∙ ap (λ (j : ℕ). take j (drop 80 s)) less in
    rw (
      t,
      le-ltb (length (take (80 * suc k) s)) 80 (omega (arith, ltb-false (length s) 80 t)),
      take-take 80 (80 * suc k) s (omega arith),
      rest,
      take-cards_of n k (drop 80 s),
    ))

-- those behind the first k
cards_of-none : (n : ℕ) (s : List ℕ) → length s < 80 → cards_of n s ≡ []
unfolding cards_of
cards_of-none zero s h = refl
cards_of-none (suc n) s h = rw (lt-ltb (length s) 80 h)

pub drop-cards_of : (n k : ℕ) (s : List ℕ) → drop k (cards_of n s) ≡ cards_of (n - k) (drop (80 * k) s)
unfolding cards_of
drop-cards_of n zero s = rw (sub-zero n)
drop-cards_of zero (suc k) s = rw (zero-sub (suc k))
drop-cards_of (suc n) (suc k) s =
    by-test (ltb (length s) 80)
    (λ t.
    let short : length (drop (80 * suc k) s) < 80 = omega (arith, length-drop (80 * suc k) s, ltb-true (length s) 80 t) in
    rw (t, cards_of-none (suc n - suc k) (drop (80 * suc k) s) short))
    (λ t.
    let place : 80 + 80 * k ≡ 80 * suc k = omega arith in
    rw (t, suc-sub-suc n k, ← place, ← drop-drop (80 * k) 80 s) (drop-cards_of n k (drop 80 s)))

-- of more cards the first j
pub cards_of-less : (j n : ℕ) (s : List ℕ) → j ≤ n → take j (cards_of n s) ≡ cards_of j s
unfolding cards_of
cards_of-less zero n s h = refl
cards_of-less (suc j) zero s h = absurd (omega arith)
cards_of-less (suc j) (suc n) s h =
    by-test (ltb (length s) 80)
    (λ t. rw t)
    (λ t. rw t (ap (take 80 s ∷◌) (cards_of-less j n (drop 80 s) (omega arith))))

-- ---- those before END
abbrev is_end : List ℕ → Bool
is_end c = has_keyword (ascii "END     ") c

module _ (cs : List (List ℕ)) (i : ℕ) (h : i < length cs) where
  pub before_end-at : is_end (get_or cs i []) ≡ true → length (before_end (drop i cs)) ≡ 0
  unfolding before_end
  before_end-at e = rw (drop-cons cs i [] h, e)

  pub before_end-on : is_end (get_or cs i []) ≡ false
      → length (before_end (drop i cs)) ≡ suc (length (before_end (drop (i + 1) cs)))
  unfolding before_end
  before_end-on e = rw (drop-cons cs i [] h, e, add-one i)

-- they are the first of all
pub before_end-front : (cs : List (List ℕ)) → before_end cs ≡ take (length (before_end cs)) cs
unfolding before_end
before_end-front [] = refl
before_end-front (c ∷ cs) = by-test (is_end c) (λ t. rw t) (λ t. rw t (ap (c ∷◌) (before_end-front cs)))

pub before_end-most : (cs : List (List ℕ)) → length (before_end cs) ≤ length cs
unfolding before_end
before_end-most [] = omega arith
before_end-most (c ∷ cs) = by-test (is_end c) (λ t. rw t (omega arith)) (λ t. rw t (omega (arith, before_end-most cs)))

-- END stands exactly where they are fewer than all
pub stands-less : (cs : List (List ℕ)) → stands "END     " cs ≡ true → length (before_end cs) < length cs
unfolding before_end any
stands-less [] e = true-false e refl
stands-less (c ∷ cs) e =
    by-test (is_end c) (λ t. rw t (omega arith)) (λ t. rw t (omega (arith, stands-less cs (rw t at e))))

pub less-stands : (cs : List (List ℕ)) → length (before_end cs) < length cs → stands "END     " cs ≡ true
unfolding before_end any
less-stands [] h = absurd (omega arith)
less-stands (c ∷ cs) h =
    by-test (is_end c)
    (λ t. rw t)
    (λ t.
    let h' : suc (length (before_end cs)) < suc (length cs) = rw t at h in
    rw t (less-stands cs (omega arith)))

-- then it stands behind them
pub end_is : (cs : List (List ℕ)) → stands "END     " cs ≡ true → is_end (get_or cs (length (before_end cs)) []) ≡ true
unfolding before_end any
end_is [] e = true-false e refl
end_is (c ∷ cs) e = by-test (is_end c) (λ t. rw t t) (λ t. rw t (end_is cs (rw t at e)))

-- where it stands among the first k, they come before it and those after k change nothing
pub stands-take : (k : ℕ) (cs : List (List ℕ)) → stands "END     " (take k cs) ≡ true → stands "END     " cs ≡ true
unfolding any
stands-take zero cs e = true-false e refl
stands-take (suc k) [] e = e
stands-take (suc k) (c ∷ cs) e = by-test (is_end c) (λ t. rw t) (λ t. rw t (stands-take k cs (rw t at e)))

pub before_end-take : (k : ℕ) (cs : List (List ℕ)) → stands "END     " (take k cs) ≡ true
    → before_end cs ≡ before_end (take k cs)
unfolding before_end any
before_end-take zero cs e = true-false e refl
before_end-take (suc k) [] e = refl
before_end-take (suc k) (c ∷ cs) e =
    by-test (is_end c) (λ t. rw t) (λ t. rw t (ap (c ∷◌) (before_end-take k cs (rw t at e))))

pub before_end-within : (k : ℕ) (cs : List (List ℕ)) → stands "END     " (take k cs) ≡ true → length (before_end cs) < k
before_end-within k cs e =
    omega (arith, ap length (before_end-take k cs e), stands-less (take k cs) e, length-take k cs)

-- where it stands, but not among the first k
pub before_end-past : (k : ℕ) (cs : List (List ℕ)) → stands "END     " (take k cs) ≡ false → stands "END     " cs ≡ true
    → k ≤ length (before_end cs)
unfolding before_end any
before_end-past zero cs no' e = omega arith
before_end-past (suc k) [] no' e = true-false e refl
before_end-past (suc k) (c ∷ cs) no' e =
    by-test (is_end c)
    (λ t. true-false refl (rw t at no'))
    (λ t. rw t (omega (arith, before_end-past k cs (rw t at no') (rw t at e))))

pub end_card-most : (s : List ℕ) → end_card s ≤ 360
unfolding end_card
end_card-most s = omega (arith, before_end-most (header_cards s), length-cards_of 360 s)

-- ---- the table's record
pub length-plain_table_record : length plain_table_record ≡ 2078
unfolding plain_table_record
length-plain_table_record = length-record_bytes 1 plain_bytes ∙ ap (6 +◌) length-plain_bytes
