-- The search for the string that begins the rest. Assumes nothing.
use Rattle.std.specs.Prelude.{ℕ, ◌+◌, ◌≤◌, ◌<◌, ◌≡◌, refl, true, false, List, [], ◌∷◌, length, take, get_or}
use Rattle.std.proofs.Common.{arith, ap, ◌∙◌, length-take-le}
use Rattle.bitstream.specs.Bits.{begins}
use Rattle.row_format.specs.Lists.{any}
use Rattle.row_format.specs.Lists.Laws.{by-test, true-false, any-false-head, any-false-tail, any-false-at}
use Rattle.row_format.specs.BitLaws.{begins-swap, begins-take}
use Rattle.row_format.specs.Table.{longest, table_size, codewords, codeword_at, Accepted}
use Rattle.row_format.specs.Table.Laws.{get_d-codewords, length-codewords-size, codeword_at-only}
use Rattle.row_format.specs.Reading.{Match, none, found, later, find}

-- ---- what is found
-- at the place that was found stands a string that begins the rest
abbrev pub Found : List (List ℕ) → List ℕ → Match → Type 0
Found ss r none = any (λ s. begins s r) ss ≡ false
Found ss r (found j) = (j < length ss) × (begins (get_or ss j []) r ≡ true)

later-found : (s : List ℕ) (ss : List (List ℕ)) (r : List ℕ) (m : Match) → begins s r ≡ false → Found ss r m
    → Found (s ∷ ss) r (later m)
unfolding any
later-found s ss r none e h = rw e h
later-found s ss r (found j) e h = (omega (arith, h.0), h.1)

pub find-found : (ss : List (List ℕ)) (r : List ℕ) → Found ss r (find ss r)
unfolding find any
find-found [] r = refl
find-found (s ∷ ss) r =
    let rest = find-found ss r in
    by-test (begins s r) (λ e. rw e (omega arith, e)) (λ e. rw e (later-found s ss r (find ss r) e rest))

-- ---- how far the search looks
pub find-take : (ss : List (List ℕ)) (r : List ℕ) (k : ℕ) → longest ss ≤ k → find ss (take k r) ≡ find ss r
unfolding find longest
find-take [] r k h = refl
find-take (s ∷ ss) r k h = rw (begins-take s r k (omega arith), find-take ss r k (omega arith))

-- a rest as long as the longest string, which no string begins, is no beginning of one: it is refused 7 and never 6
pub any-begins-none : (ss : List (List ℕ)) (r : List ℕ) → longest ss ≤ length r → any (λ s. begins s r) ss ≡ false
    → any (begins r) ss ≡ false
unfolding any longest
any-begins-none [] r h e = refl
any-begins-none (s ∷ ss) r h e =
    let rest = any-begins-none ss r (omega arith) (any-false-tail (λ u. begins u r) s ss e) in
    let no-s = any-false-head (λ u. begins u r) s ss e in
    by-test (begins r s) (λ p. true-false (begins-swap r s (omega arith) p) no-s) (λ p. rw p rest)

any-begins-take : (ss : List (List ℕ)) (r : List ℕ) (k : ℕ) → longest ss ≤ k
    → any (λ s. begins s (take k r)) ss ≡ any (λ s. begins s r) ss
unfolding any longest
any-begins-take [] r k h = refl
any-begins-take (s ∷ ss) r k h = rw (begins-take s r k (omega arith), any-begins-take ss r k (omega arith))

pub any-begins-none-take : (ss : List (List ℕ)) (r : List ℕ) (k : ℕ) → longest ss ≤ k → k ≤ length r
    → any (λ s. begins s r) ss ≡ false → any (begins (take k r)) ss ≡ false
any-begins-none-take ss r k h within e =
    any-begins-none ss (take k r) (omega (arith, length-take-le k r within)) (any-begins-take ss r k h ∙ e)

-- ---- in an accepted table the string that begins the rest is the only one, in whatever order it is looked for
module _ (t : List ℕ) (ok : Accepted t) (j : ℕ) (r : List ℕ)
    (h : j < 3 + table_size t) (p : begins (codeword_at t j) r ≡ true) where
  only-found : (m : Match) → Found (codewords t) r m → m ≡ found j
  only-found none e =
      let inside : j < length (codewords t) = omega (arith, length-codewords-size t ok) in
      true-false p (rw (get_d-codewords t j) at (any-false-at (λ s. begins s r) (codewords t) j [] e inside))
  only-found (found i) q =
      let inside : i < 3 + table_size t = omega (arith, q.0, length-codewords-size t ok) in
      ap found (codeword_at-only t ok i j r inside h (rw (get_d-codewords t i) at q.1) p)

  pub find-only : find (codewords t) r ≡ found j
  find-only = only-found (find (codewords t) r) (find-found (codewords t) r)
