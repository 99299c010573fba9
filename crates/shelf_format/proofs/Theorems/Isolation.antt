-- What one party gets depends on the common places, its own places and its own calls alone, over any run of calls. Assumes nothing.
use Rattle.std.specs.Prelude.{ℕ, zero, suc, ◌≤◌, ◌<◌, ◌≡◌, refl, Bool, true, false, cond, List, [], ◌∷◌, length, eqb}
use Rattle.std.proofs.Common.{arith, sym, ap, ◌∙◌, lt-ltb, eqb-true}
use Rattle.std.proofs.lemmas.Bool.{eqb-false}
use Rattle.answer.specs.Outcome.{refused, unless}
use Rattle.answer.specs.Outcome.Laws.{unless-first}
use Rattle.row_format.specs.Lists.Laws.{or-false-left, or-false-right}
use Rattle.shelf_format.specs.Shelf.{place, placed, filled, is_free, table_in, is_own, view, SameView}
use Rattle.shelf_format.proofs.Shelf.Laws.{Own, own, own-inside, length-filled, length-placed, table-bytes, unseen, alike-placed}
use Rattle.shelf_format.specs.Calls.{short_number, tables_number, shelf_opened, put_place, put_refusal, remove_refusal, first_free}
use Rattle.shelf_format.proofs.Calls.Laws.{short_none, held, put-granted, first-own, put-left, remove-left}
use Rattle.shelf_format.specs.Run.{Call, put, remove, pack, unpack, room, reply, after_call, Turn, by, opens, shelf_after, replies_to, calls_of, opened_in, replies_alone}
use Rattle.shelf_format.proofs.Theorems.Seen.{SameSeen, put_same, remove-same, first-same, reply-same}

-- ---- one call
-- shelves that are long enough and alike to a party
pub record Both (p : ℕ) (s s' : List ℕ) : Type 0 where
  pub long : 393264 ≤ length s
  pub long' : 393264 ≤ length s'
  pub alike : SameView p s s'

pub same : (p : ℕ) (s s' : List ℕ) → Both p s s' → SameSeen p s s'
same p s s' b = record {
  short = short_none s b.long ∙ sym (short_none s' b.long');
  free = λ i. ap is_free (b.alike i);
  table = λ i. ap table_in (b.alike i);
}

pub reply-alike : (p : ℕ) (s s' : List ℕ) → Both p s s' → (c : Call) → reply s p c ≡ reply s' p c
reply-alike p s s' b = reply-same p s s' (same p s s' b)

-- what a call writes where its number n is 0: b, to a place of its party
record Written (p n j : ℕ) (b : List ℕ) : Type 0 where
  pub its : n ≡ 0 → Own p j
  pub whole : n ≡ 0 → length b ≡ 32772

abbrev written : ℕ → ℕ → List ℕ → List ℕ → List ℕ
written n j b s = unless n (λ e. s) (placed s j b)

written-size : (p n j : ℕ) (b : List ℕ) → Written p n j b → (s : List ℕ) → 393264 ≤ length s → length (written n j b s) ≡ length s
written-size p zero j b w s long = length-placed s j b (w.whole refl) (own-inside p j s (w.its refl) long)
written-size p (suc n) j b w s long = refl

-- no other party sees it
written-unseen : (p n j : ℕ) (b : List ℕ) → Written p n j b → (q : ℕ) (s : List ℕ) → (q ≡ p → ⊥) → 393264 ≤ length s
    → SameView q (written n j b s) s
written-unseen p zero j b w q s other long i = unseen p j b (w.its refl) (w.whole refl) q s other long i
written-unseen p (suc n) j b w q s other long i = refl

-- and the same, written to shelves that are alike, leaves them so
written-alike : (p n j : ℕ) (b : List ℕ) → Written p n j b → (s s' : List ℕ) → Both p s s'
    → SameView p (written n j b s) (written n j b s')
written-alike p zero j b w s s' two i = alike-placed p j b (w.its refl) (w.whole refl) s s' two.long two.long' two.alike i
written-alike p (suc n) j b w s s' two i = two.alike i

-- a put and a removal; a use writes nothing to the shelf
put-writes : (s : List ℕ) (p : ℕ) (tb : List ℕ) → Written p (put_refusal s p tb) (put_place (view p s) p) (filled tb)
put-writes s p tb = record {
  its = λ e. let ok = put-granted s p tb e in first-own p (first_free (view p s) p) ok.party ok.few;
  whole = λ e. length-filled tb (table-bytes tb (put-granted s p tb e).table).most;
}

remove-writes : (s : List ℕ) (p i : ℕ) → Written p (remove_refusal s p i) i (filled [])
remove-writes s p i = record {
  its = λ e. own p i (held (is_own p i) s (view p s i) e).allowed;
  whole = λ e. length-filled [] (omega arith);
}

pub after-size : (s : List ℕ) (p : ℕ) (c : Call) → 393264 ≤ length s → length (after_call s p c) ≡ length s
unfolding after_call
after-size s p (put tb) long = rw (put-left s p tb) (written-size p _ _ (filled tb) (put-writes s p tb) s long)
after-size s p (remove i) long = rw (remove-left s p i) (written-size p _ _ (filled []) (remove-writes s p i) s long)
after-size s p (pack i pb m) long = refl
after-size s p (unpack i wb n m) long = refl
after-size s p (room i n) long = refl

-- another's call is not seen
pub other-unseen : (p q : ℕ) (s : List ℕ) (c : Call) → (p ≡ q → ⊥) → 393264 ≤ length s → SameView p (after_call s q c) s
unfolding after_call
other-unseen p q s (put tb) other long = rw (put-left s q tb) (written-unseen q _ _ (filled tb) (put-writes s q tb) p s other long)
other-unseen p q s (remove i) other long = rw (remove-left s q i) (written-unseen q _ _ (filled []) (remove-writes s q i) p s other long)
other-unseen p q s (pack i pb m) other long = λ j. refl
other-unseen p q s (unpack i wb n m) other long = λ j. refl
other-unseen p q s (room i n) other long = λ j. refl

-- the party's own call leaves alike shelves alike
own-alike : (p : ℕ) (s s' : List ℕ) → Both p s s' → (c : Call) → SameView p (after_call s p c) (after_call s' p c)
unfolding after_call
own-alike p s s' b (put tb) =
    let sees = same p s s' b in
    rw (put-left s p tb, put-left s' p tb, ← put_same p s s' sees tb, ← first-same p s s' sees)
    (written-alike p _ _ (filled tb) (put-writes s p tb) s s' b)
own-alike p s s' b (remove i) =
    rw (remove-left s p i, remove-left s' p i, ← remove-same p s s' (same p s s' b) i)
    (written-alike p _ _ (filled []) (remove-writes s p i) s s' b)
own-alike p s s' b (pack i pb m) = b.alike
own-alike p s s' b (unpack i wb n m) = b.alike
own-alike p s s' b (room i n) = b.alike

pub own-both : (p : ℕ) (s s' : List ℕ) → Both p s s' → (c : Call) → Both p (after_call s p c) (after_call s' p c)
own-both p s s' b c = record {
  long = omega (arith, after-size s p c b.long, b.long);
  long' = omega (arith, after-size s' p c b.long', b.long');
  alike = own-alike p s s' b c;
}

-- another's call on one of the two leaves them alike
other-both : (p q : ℕ) (s s' : List ℕ) → Both p s s' → (p ≡ q → ⊥) → (c : Call) → Both p (after_call s q c) s'
other-both p q s s' b other c = record {
  long = omega (arith, after-size s q c b.long, b.long);
  long' = b.long';
  alike = λ i. other-unseen p q s c other b.long i ∙ b.alike i;
}

-- a refused opening changes nothing
opened-not : (t0 t1 t2 t3 s : List ℕ) → (tables_number (t0 ∷ t1 ∷ t2 ∷ t3 ∷ []) ≡ 0 → ⊥) → (shelf_opened t0 t1 t2 t3 s).memory ≡ s
unfolding shelf_opened
opened-not t0 t1 t2 t3 s some =
    ap (λ o. o.memory)
    (unless-first (tables_number (t0 ∷ t1 ∷ t2 ∷ t3 ∷ [])) (short_number s) (λ e. refused e s) _ some)

-- ---- a run: what p gets, and the shelf that it sees at the end, are those of its own calls alone, on a shelf that is alike to it
shelf_alone : ℕ → List ℕ → List Call → List ℕ
shelf_alone p s [] = s
shelf_alone p s (c ∷ cs) = shelf_alone p (after_call s p c) cs

record Alone (p : ℕ) (s s' : List ℕ) (ts : List Turn) (cs : List Call) : Type 0 where
  pub replies : replies_to p s ts ≡ replies_alone p s' cs
  pub left : Both p (shelf_after s ts) (shelf_alone p s' cs)

run_alone : (p : ℕ) (s s' : List ℕ) (ts : List Turn) → Both p s s' → opened_in ts ≡ false → Alone p s s' ts (calls_of p ts)
unfolding replies_to replies_alone shelf_after shelf_alone calls_of opened_in
run_alone p s s' [] b unopened = record { replies = refl; left = b }
run_alone p s s' (by q c ∷ ts) b unopened = by-party (λ x x' b'. run_alone p x x' ts b' unopened) (eqb q p) refl
  where
    by-party : ((x x' : List ℕ) → Both p x x' → Alone p x x' ts (calls_of p ts)) → (f : Bool) → eqb q p ≡ f
        → Alone p s s' (by q c ∷ ts) (cond f (c ∷ calls_of p ts) (calls_of p ts))
    by-party later true e =
        let mine : q ≡ p = eqb-true q p e in
        let rest = later (after_call s p c) (after_call s' p c) (own-both p s s' b c) in
        record {
          replies =
              rw (e, mine) (ap (◌∷ replies_to p (after_call s p c) ts) (reply-alike p s s' b c) ∙ ap (reply s' p c ∷◌) rest.replies);
          left = rw mine rest.left;
        }
    by-party later false e =
        let rest = later (after_call s q c) s' (other-both p q s s' b (λ h. eqb-false q p e (sym h)) c) in
        record { replies = rw e rest.replies; left = rest.left }
run_alone p s s' (opens t0 t1 t2 t3 ∷ ts) b unopened =
    let tables = tables_number (t0 ∷ t1 ∷ t2 ∷ t3 ∷ []) in
    let kept = opened-not t0 t1 t2 t3 s (eqb-false tables 0 (or-false-left (eqb tables 0) (opened_in ts) unopened)) in
    let rest = run_alone p s s' ts b (or-false-right (eqb tables 0) (opened_in ts) unopened) in
    record { replies = rw kept rest.replies; left = rw kept rest.left }

-- a shelf is alike to itself
itself : (p : ℕ) (s : List ℕ) → 393264 ≤ length s → Both p s s
itself p s long = record { long = long; long' = long; alike = λ i. refl }

turned : {p : ℕ} {s s' : List ℕ} → Both p s s' → Both p s' s
turned b = record { long = b.long'; long' = b.long; alike = λ i. sym (b.alike i) }

pub replies-alone : (p : ℕ) (s : List ℕ) (ts : List Turn) → 393264 ≤ length s → opened_in ts ≡ false
    → replies_to p s ts ≡ replies_alone p s (calls_of p ts)
replies-alone p s ts long unopened = (run_alone p s s ts (itself p s long) unopened).replies

-- two runs with the same calls of p
module _ (p : ℕ) (s s' : List ℕ) (ts ts' : List Turn) (b : Both p s s') (unopened : opened_in ts ≡ false) (unopened' : opened_in ts' ≡ false)
    (calls : calls_of p ts ≡ calls_of p ts') where
  one : Alone p s s ts (calls_of p ts)
  one = run_alone p s s ts (itself p s b.long) unopened

  two : Alone p s' s ts' (calls_of p ts')
  two = run_alone p s' s ts' (turned b) unopened'

  pub isolated : replies_to p s ts ≡ replies_to p s' ts'
  isolated = one.replies ∙ ap (replies_alone p s) calls ∙ sym two.replies

  pub left-alike : SameView p (shelf_after s ts) (shelf_after s' ts')
  left-alike i = one.left.alike i ∙ ap (λ cs. view p (shelf_alone p s cs) i) calls ∙ sym (two.left.alike i)

-- ---- the common places, in any run: as another party, who makes no call, sees them
common-after : (s : List ℕ) (q : ℕ) (c : Call) → 393264 ≤ length s → (i : ℕ) → i < 4 → place (after_call s q c) i ≡ place s i
unfolding view
common-after s q c long i common = rw (lt-ltb i 4 common) at (other-unseen (suc q) q s c (λ h. omega (arith, h)) long i)

pub common-kept : (s : List ℕ) (ts : List Turn) → 393264 ≤ length s → opened_in ts ≡ false → (i : ℕ) → i < 4
    → place (shelf_after s ts) i ≡ place s i
unfolding shelf_after opened_in
common-kept s [] long unopened i common = refl
common-kept s (by q c ∷ ts) long unopened i common =
    common-kept (after_call s q c) ts (omega (arith, after-size s q c long, long)) unopened i common ∙ common-after s q c long i common
common-kept s (opens t0 t1 t2 t3 ∷ ts) long unopened i common =
    let tables = tables_number (t0 ∷ t1 ∷ t2 ∷ t3 ∷ []) in
    rw (opened-not t0 t1 t2 t3 s (eqb-false tables 0 (or-false-left (eqb tables 0) (opened_in ts) unopened)))
    (common-kept s ts long (or-false-right (eqb tables 0) (opened_in ts) unopened) i common)
