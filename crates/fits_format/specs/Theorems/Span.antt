-- How much of a file the header's answer depends on: what stands after END's card, or after ten blocks, changes nothing.
-- Assumes nothing.
use Rattle.std.specs.Prelude.{ℕ, zero, suc, ◌+◌, ◌-◌, ◌*◌, ◌≤◌, ◌<◌, ◌≡◌, refl, Bool, ◌||◌, List, [], take, drop, get_or, ltb}
use Rattle.std.proofs.Common.{arith, sym, ◌∙◌, length-take, take_all, take-take, take-add, get_or-take}
use Rattle.std.proofs.Math.Path.{ap}
use Rattle.std.proofs.Math.Bool.{true, false}
use Rattle.std.proofs.Math.ListN.{length}
use borrow.Author.Tests.{ltb-true, ltb-false}
use Rattle.row_format.specs.Lists.Laws.{by-test, any_append}
use Rattle.text.specs.Text.{ascii}
use Rattle.text.specs.Same.{same_bytes}
use Rattle.text.specs.Same.Laws.{same-is}
use Rattle.fits_format.specs.Card.{has_keyword, has_value, is_true, integer_of}
use Rattle.fits_format.specs.Header.{cards_of, header_cards, before_end, card_integer, stands, header_clauses, header_number, end_card, image_start, header_span, header_read}
use Rattle.fits_format.specs.Header.Laws.{length-cards_of, take-cards_of, drop-cards_of, cards_of-less, stands-less, end_is, stands-take, before_end-take, before_end-within, before_end-past}
use Rattle.fits_format.specs.Header.Clauses.{header_number-17}

-- ---- an END among the first five cards
-- a card has one keyword
other-keyword : (k c : List ℕ) → has_keyword (ascii "END     ") c ≡ true → same_bytes (ascii "END     ") k ≡ false
    → has_keyword k c ≡ false
unfolding has_keyword
other-keyword k c e other = rw (same-is (take 8 c) (ascii "END     ") e) other

-- so that one of them is not what it should be
early-at : (s : List ℕ) (e : ℕ) → e < 5 → has_keyword (ascii "END     ") (get_or (header_cards s) e []) ≡ true
    → header_number s ≡ 17
unfolding header_clauses card_integer integer_of is_true has_value same_bytes
early-at s zero h e =
    header_number-17 s 0 (rw (other-keyword (ascii "SIMPLE  ") (get_or (header_cards s) 0 []) e refl))
early-at s (suc zero) h e =
    header_number-17 s 1 (rw (other-keyword (ascii "BITPIX  ") (get_or (header_cards s) 1 []) e refl))
early-at s (suc (suc zero)) h e =
    header_number-17 s 2 (rw (other-keyword (ascii "NAXIS   ") (get_or (header_cards s) 2 []) e refl))
early-at s (suc (suc (suc zero))) h e =
    header_number-17 s 3 (rw (other-keyword (ascii "NAXIS1  ") (get_or (header_cards s) 3 []) e refl))
early-at s (suc (suc (suc (suc zero)))) h e =
    header_number-17 s 4 (rw (other-keyword (ascii "NAXIS2  ") (get_or (header_cards s) 4 []) e refl))
early-at s (suc (suc (suc (suc (suc e))))) h e' = absurd (omega arith)

early-end : (s : List ℕ) → stands "END     " (header_cards s) ≡ true → end_card s < 5 → header_number s ≡ 17
unfolding end_card
early-end s there h = early-at s (end_card s) h (end_is (header_cards s) there)

-- ---- headers with the same first k cards, END among them
module _ (s t : List ℕ) (k : ℕ) (there : stands "END     " (take k (header_cards s)) ≡ true)
    (same : take k (header_cards t) ≡ take k (header_cards s)) where
  there-too : stands "END     " (take k (header_cards t)) ≡ true
  there-too = rw same there

  end-there : stands "END     " (header_cards s) ≡ true
  end-there = stands-take k (header_cards s) there

  end-there-too : stands "END     " (header_cards t) ≡ true
  end-there-too = stands-take k (header_cards t) there-too

  before_same : before_end (header_cards t) ≡ before_end (header_cards s)
  before_same =
      before_end-take k (header_cards t) there-too
      ∙ ap before_end same
      ∙ sym (before_end-take k (header_cards s) there)

  card-same : (i : ℕ) → i < k → get_or (header_cards t) i [] ≡ get_or (header_cards s) i []
  card-same i h =
      sym (get_or-take k (header_cards t) i [] h)
      ∙ ap (λ (cs : List (List ℕ)). get_or cs i []) same
      ∙ get_or-take k (header_cards s) i [] h

  front_same : (m : List ℕ) → header_read t m ≡ header_read s m
  unfolding header_read header_number header_clauses card_integer end_card
  front_same m =
      let within = before_end-within k (header_cards s) there in
      by-test (ltb (end_card s) 5)
      (λ e.
      let early = ltb-true (end_card s) 5 e in
      let early' : end_card t < 5 = omega (arith, ap length before_same) in
      rw (early-end t end-there-too early', early-end s end-there early))
      (λ e.
      let late = ltb-false (end_card s) 5 e in
      rw (
        card-same 0 (omega arith),
        card-same 1 (omega arith),
        card-same 2 (omega arith),
        card-same 3 (omega arith),
        card-same 4 (omega arith),
        before_same,
        end-there-too,
        end-there,
      ))

-- ---- alike through END's card
module _ (s : List ℕ) (there : stands "END     " (header_cards s) ≡ true) where
  -- END's card is among ten blocks', and whole
  pub end-few : end_card s < 360
  unfolding end_card
  end-few = omega (arith, stands-less (header_cards s) there, length-cards_of 360 s)

  pub end_whole : 80 * (end_card s + 1) ≤ length s
  unfolding end_card
  end_whole = omega (arith, stands-less (header_cards s) there, length-cards_of 360 s)

  end-among : stands "END     " (take (end_card s + 1) (header_cards s)) ≡ true
  unfolding end_card
  end-among =
      by-test (stands "END     " (take (end_card s + 1) (header_cards s)))
      (λ e. e)
      (λ e. absurd (omega (arith, before_end-past (end_card s + 1) (header_cards s) e there)))

  pub through-end : (t m : List ℕ) → take (80 * (end_card s + 1)) t ≡ take (80 * (end_card s + 1)) s
      → header_read t m ≡ header_read s m
  through-end t m alike =
      let k = end_card s + 1 in
      front_same s t k end-among (sym (take-cards_of 360 k t) ∙ ap header_cards alike ∙ take-cards_of 360 k s) m

-- ---- bytes from the front
no_end : (s m : List ℕ) → stands "END     " (header_cards s) ≡ false → (header_read s m).answer.number ≡ 17
unfolding header_read header_clauses
no_end s m none = rw (header_number-17 s 9 (rw none))

-- with END among them
pub prefix-end : (n : ℕ) (s m : List ℕ) → stands "END     " (header_cards (take n s)) ≡ true
    → header_read (take n s) m ≡ header_read s m
prefix-end n s m there =
    let front = take n s in
    let size : 80 * (end_card front + 1) ≤ n = omega (arith, end_whole front there, length-take n s) in
    sym (through-end front there s m (sym (take-take (80 * (end_card front + 1)) n s size)))

-- with all ten blocks
ten-blocks : (n : ℕ) (s : List ℕ) → 28800 ≤ n → header_cards (take n s) ≡ header_cards s
ten-blocks n s h =
    let all : (t : List ℕ) → header_cards (take 28800 t) ≡ header_cards t =
    λ t. take-cards_of 360 360 t ∙ take_all 360 (header_cards t) (omega (arith, length-cards_of 360 t)) in
    sym (all (take n s)) ∙ ap header_cards (take-take 28800 n s h) ∙ all s

pub prefix-ten : (n : ℕ) (s m : List ℕ) → 28800 ≤ n → header_read (take n s) m ≡ header_read s m
unfolding header_read header_number header_clauses card_integer end_card
prefix-ten n s m h = rw (ten-blocks n s h)

-- an answer other than 17 is the answer to the file, since END was there
pub prefix-final : (n : ℕ) (s m : List ℕ) → ((header_read (take n s) m).answer.number ≡ 17 → ⊥) → header_read (take n s) m ≡ header_read s m
prefix-final n s m other =
    by-test (stands "END     " (header_cards (take n s)))
    (λ e. prefix-end n s m e)
    (λ e. absurd (other (no_end (take n s) m e)))

-- ---- the span
pub header_span-end : (s : List ℕ) → stands "END     " (header_cards s) ≡ true → header_span s ≡ image_start s
unfolding header_span
header_span-end s e = rw e

header_span-none : (s : List ℕ) → stands "END     " (header_cards s) ≡ false → header_span s ≡ 28800
unfolding header_span
header_span-none s e = rw e

pub header_span-same : (s m : List ℕ) → header_read (take (header_span s) s) m ≡ header_read s m
header_span-same s m =
    by-test (stands "END     " (header_cards s))
    (λ e.
    let size : 80 * (end_card s + 1) ≤ image_start s = omega arith in
    rw (header_span-end s e) (through-end s e (take (image_start s) s) m (take-take (80 * (end_card s + 1)) (image_start s) s size)))
    (λ e. rw (header_span-none s e) (prefix-ten 28800 s m (omega arith)))

-- ---- block by block
module _ (k : ℕ) (s : List ℕ) where
  blocks-cards : header_cards (take (2880 * k) s) ≡ take (36 * k) (header_cards s)
  blocks-cards =
      let cards : 2880 * k ≡ 80 * (36 * k) = omega arith in
      ap (λ (n : ℕ). header_cards (take n s)) cards ∙ take-cards_of 360 (36 * k) s

  -- no END in k blocks: the header goes on
  pub header_span-past : k < 10 → stands "END     " (header_cards (take (2880 * k) s)) ≡ false → 2880 * (k + 1) ≤ header_span s
  unfolding end_card
  header_span-past few none =
      let none' : stands "END     " (take (36 * k) (header_cards s)) ≡ false = rw blocks-cards at none in
      by-test (stands "END     " (header_cards s))
      (λ e. omega (arith, header_span-end s e, before_end-past (36 * k) (header_cards s) none' e))
      (λ e. omega (arith, header_span-none s e))

  pub header_span-within : stands "END     " (header_cards (take (2880 * k) s)) ≡ true → header_span s ≤ 2880 * k
  unfolding end_card
  header_span-within some =
      let some' : stands "END     " (take (36 * k) (header_cards s)) ≡ true = rw blocks-cards at some in
      omega (arith, header_span-end s (stands-take (36 * k) (header_cards s) some'), before_end-within (36 * k) (header_cards s) some')

-- no END in k blocks, and one in the next
pub header_span-block : (k : ℕ) (s : List ℕ) → stands "END     " (header_cards (take (2880 * k) s)) ≡ false
    → stands "END     " (header_cards (take (2880 * (k + 1)) s)) ≡ true → header_span s ≡ 2880 * (k + 1)
unfolding end_card
header_span-block k s none some =
    let none' : stands "END     " (take (36 * k) (header_cards s)) ≡ false = rw (blocks-cards k s) at none in
    let some' : stands "END     " (take (36 * (k + 1)) (header_cards s)) ≡ true = rw (blocks-cards (k + 1) s) at some in
    let there = stands-take (36 * (k + 1)) (header_cards s) some' in
    omega (
      arith,
      header_span-end s there,
      before_end-past (36 * k) (header_cards s) none' there,
      before_end-within (36 * (k + 1)) (header_cards s) some',
    )

-- END stands in one block more where it stands in those before or in the next alone
pub block-end : (k : ℕ) (s : List ℕ) → k < 10
    → let end_in : List ℕ → Bool = λ t. stands "END     " (header_cards t) in
    end_in (take (2880 * (k + 1)) s) ≡ (end_in (take (2880 * k) s) || end_in (take 2880 (drop (2880 * k) s)))
block-end k s few =
    let cs = header_cards s in
    let size : 36 * (k + 1) ≡ 36 * k + 36 = omega arith in
    let place : 80 * (36 * k) ≡ 2880 * k = omega arith in
    let next : take 36 (drop (36 * k) cs) ≡ header_cards (take 2880 (drop (2880 * k) s)) =
    ap (take 36) (drop-cards_of 360 (36 * k) s ∙ ap (λ (n : ℕ). cards_of (360 - 36 * k) (drop n s)) place)
    ∙ cards_of-less 36 (360 - 36 * k) (drop (2880 * k) s) (omega arith)
    ∙ sym (cards_of-less 36 360 (drop (2880 * k) s) (omega arith))
    ∙ sym (take-cards_of 360 36 (drop (2880 * k) s)) in
    rw (blocks-cards (k + 1) s, size, take-add (36 * k) 36 cs, next, ← blocks-cards k s)
    (any_append (has_keyword (ascii "END     ")) (header_cards (take (2880 * k) s))
    (header_cards (take 2880 (drop (2880 * k) s))))
