-- A block of lines on the way, and its laws. Assumes nothing.
use Rattle.std.proofs.lemmas.List.{drop-map}
use native.Mathlib.Decide.{dec_lt}
use Prim.Native.Nat.{ℕ, suc, min, ◌+◌, ◌-◌, ◌≤◌, ◌<◌}
use native.Mathlib.Nat.{zero-add, add-zero}
use native.Mathlib.Numerals.{add-one}
use native.Mathlib.Omega.{arith}
use mathlib.Core.Path.{◌≡◌, refl, sym, ap, ◌∙◌}
use mathlib.Core.List.{List, [], ◌∷◌, ◌++◌, append-nil, append_assoc, map}
use lib.ListN.{length, take, drop, get_or, length-append, length-drop, length-map, drop_of_length-le}
use lib.Seq.{take-suc, take_all, drop-cons}
use borrow.Author.Tests.{le-leb, lt-leb}
use Rattle.answer.specs.Outcome.{outcome}
use Rattle.row_format.specs.Table.{codeword_at}
use Rattle.text.specs.Put.{Put}
use Rattle.text.specs.Put.Laws.{put-none, put-put, put-start}
use Rattle.text.specs.Text.{ascii, digit}
use Rattle.table_listing.specs.Listed.{ListedLines}
use Rattle.table_listing.specs.Listing.{joined, fitting, next_number, listed_of, no_lines, block_of}
use Rattle.table_listing.specs.Listing.Answers.{next_fits, next-all, next-not, block_of-refused, block_of-done}
use Rattle.table_listing.specs.Line.{line, name}
use Rattle.table_listing.specs.Line.Laws.{get_d_map}
use Rattle.table_listing.specs.Append.{LineFits, LineOver}

-- k of the lines ls stand in the memory, which was m; at is the place after them
pub record Filling (ls : List (List ℕ)) (m : List ℕ) (k at : ℕ) (m' : List ℕ) : Type 0 where
  pub within : k ≤ length ls
  pub size : length m' ≡ length m
  pub room : at ≤ length m
  pub put : Put m 0 (joined (take k ls)) at m'
  pub fit : fitting (length m) ls ≡ k + fitting (length m - at) (drop k ls)

-- ---- lines one after the other
joined_snoc : (ls : List (List ℕ)) (l : List ℕ) → joined (ls ++ (l ∷ [])) ≡ joined ls ++ l
unfolding joined
joined_snoc [] l = append-nil l
joined_snoc (k ∷ ls) l = rw (joined_snoc ls l) (sym (append_assoc k (joined ls) l))

fitting-none : (room : ℕ) → fitting room [] ≡ 0
unfolding fitting
fitting-none room = refl

fitting-more : (room : ℕ) (l : List ℕ) (ls : List (List ℕ)) → length l ≤ room → fitting room (l ∷ ls) ≡ suc (fitting (room - length l) ls)
unfolding fitting
fitting-more room l ls h = rw (le-leb (length l) room h)

fitting-stop : (room : ℕ) (l : List ℕ) (ls : List (List ℕ)) → room < length l → fitting room (l ∷ ls) ≡ 0
unfolding fitting
fitting-stop room l ls h = rw (lt-leb (length l) room h)

pub filling-none : (ls : List (List ℕ)) (m : List ℕ) → Filling ls m 0 0 m
filling-none ls m =
    let all : length m - 0 ≡ length m = omega arith in
    record {
      within = omega arith;
      size = refl;
      room = omega arith;
      put = unfold joined in put-none m 0;
      fit = rw all (sym (zero-add (fitting (length m) ls)));
    }

-- what a call answers that put k lines and stops there
abbrev pub BlockIs : List (List ℕ) → List ℕ → ListedLines → List ℕ → Type 0
BlockIs ls m r m' = outcome r m' ≡ block_of (next_number ls (length m)) ls m

module _ {ls : List (List ℕ)} {m m' : List ℕ} {k at : ℕ} (f : Filling ls m k at m') where
  done : next_number ls (length m) ≡ 0 → fitting (length m) ls ≡ k → BlockIs ls m (listed_of 0 k at) m'
  done none e =
      let text = put-start f.put in
      rw (none, block_of-done ls m, e) (λ i. outcome (listed_of 0 k (text.0 i)) (text.1 i))

  -- all lines are put
  pub filling-all : length ls ≤ k → BlockIs ls m (listed_of 0 k at) m'
  filling-all h =
      let all : fitting (length m) ls ≡ k = f.fit ∙ rw (drop_of_length-le ls h, fitting-none (length m - at)) (add-zero k) in
      done (next-all (length m) ls (omega arith)) all

  module _ (l : List ℕ) (h : k < length ls) (is : l ≡ get_or ls k []) where
    rest : drop k ls ≡ l ∷ drop (suc k) ls
    rest = rw is (drop-cons ls k [] h)

    -- the next line does not fit
    module _ (over : length m < at + length l) where
      none_more : fitting (length m) ls ≡ k
      none_more = f.fit ∙ rw (rest, fitting-stop (length m - at) l (drop (suc k) ls) (omega arith)) (add-zero k)

      -- after others
      pub stop-later : (k ≡ 0 → ⊥) → BlockIs ls m (listed_of 0 k at) m'
      stop-later some = done (next_fits (length m) ls (omega (arith, none_more, some))) none_more

      -- 5 where it is the first
      pub stop-first : k ≡ 0 → BlockIs ls m (no_lines 5) m'
      stop-first e =
          let text = put-start f.put in
          let first : ls ≡ l ∷ drop 1 ls = rw e at rest in
          let empty : joined (take k ls) ≡ [] = unfold joined in rw e in
          let start : at ≡ 0 = text.0 ∙ ap length empty in
          let short : next_number ls (length m) ≡ 5 = rw first (next-not (length m) l (drop 1 ls) (omega (arith, start))) in
          let same : m' ≡ m = text.1 ∙ rw empty in
          rw (short, block_of-refused 4 ls m) (ap (outcome (no_lines 5)) same)

    -- it fits
    pub filling-more : {r : ℕ} {m'' : List ℕ} → at + length l ≤ length m → length m'' ≡ length m → Put m' at l r m''
        → Filling ls m (k + 1) r m''
    filling-more {r} {m''} g size p =
        let left_over : length m - at - length l ≡ length m - r = omega (arith, p.next) in
        record {
          within = omega arith;
          size = size;
          room = omega (arith, p.next);
          put = rw (add-one k, take-suc ls k [] h, joined_snoc (take k ls) (get_or ls k []), ← is) (put-put (omega arith) f.put p);
          fit = f.fit ∙ rw (rest, fitting-more (length m - at) l (drop (suc k) ls) (omega arith), left_over, add-one k) (omega arith);
        }

-- ---- one turn: the line of the next place
module _ (t ps : List ℕ) {m m' : List ℕ} {i at : ℕ} (f : Filling (map (line t) ps) m i at m') (inside : i < length ps) where
  among : i < length (map (line t) ps)
  among = omega (arith, length-map ps (line t), inside)

  next : line t (get_or ps i 0) ≡ get_or (map (line t) ps) i []
  next = sym (get_d_map (line t) ps i 0 [] inside)

  module _ {m'' : List ℕ} (n : LineOver m' at (line t (get_or ps i 0)) m'') where
    over : length m < at + length (line t (get_or ps i 0))
    over = omega (arith, n.over, f.size)

    pub turn-first : i ≡ 0 → BlockIs (map (line t) ps) m (no_lines 5) m''
    turn-first e = rw n.kept (stop-first f (line t (get_or ps i 0)) among next over e)

    pub turn-later : (i ≡ 0 → ⊥) → BlockIs (map (line t) ps) m (listed_of 0 i at) m''
    turn-later e = rw n.kept (stop-later f (line t (get_or ps i 0)) among next over e)

  pub turn_more : {r : ℕ} {m'' : List ℕ} → LineFits m' at (line t (get_or ps i 0)) r m'' → length m'' ≡ length m'
      → Filling (map (line t) ps) m (i + 1) r m''
  turn_more a size =
      filling-more f (line t (get_or ps i 0)) among next (omega (arith, a.fits, f.size)) (size ∙ f.size) a.put

-- ---- the lines of some places from one of them on
pub lines-rest : (t list : List ℕ) (first : ℕ) {k : ℕ} → k ≡ min first (length list)
    → map (line t) (take (length list - k) (drop k list)) ≡ drop first (map (line t) list)
lines-rest t list first {k} is =
    ap (map (line t)) (take_all (length list - k) (drop k list) (omega (arith, length-drop k list)))
    ∙ by-split (dec_lt (length list) first)
  where
    by-split : Dec (length list < first) → map (line t) (drop k list) ≡ drop first (map (line t) list)
    by-split (yes past) =
        ap (map (line t)) (drop_of_length-le list (omega (arith, is, past)))
        ∙ sym (drop_of_length-le (map (line t) list) (omega (arith, length-map list (line t), past)))
    by-split (no within) =
        let there : k ≡ first = omega (arith, is, within) in
        ap (λ (n : ℕ). map (line t) (drop n list)) there ∙ sym (drop-map (line t) first list)

-- a line is not empty
pub line-some : (t : List ℕ) (p : ℕ) → 1 ≤ length (line t p)
unfolding line
line-some t p = rw (length-append (name t p ++ ascii " " ++ map digit (codeword_at t p)) (ascii "\n")) (omega arith)
