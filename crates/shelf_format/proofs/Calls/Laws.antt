-- The laws of the calls on a shelf: which refusals are given, and what is known where none is. Assumes nothing.
use Rattle.std.specs.Prelude.{ℕ, zero, suc, ◌+◌, ◌*◌, ◌≤◌, ◌<◌, ◌≡◌, refl, Bool, true, false, not, ◌||◌, List, [], ◌∷◌, ◌++◌, length, get_or, replicate, ltb, eqb}
use Rattle.std.proofs.Common.{arith, sym, ap, ◌∙◌, append_assoc, length-append, take_at, ltb-true, ltb-false, le-ltb}
use Rattle.std.proofs.Math.Seq.{drop-append-add}
use Rattle.std.proofs.lemmas.Bool.{not-false, eqb-false}
use Rattle.answer.specs.declared.refusal.Refusal.{Refusal}
use Rattle.answer.specs.Refusal.{refusal_number}
use Rattle.answer.specs.Refusal.Laws.{refusal_not_done}
use Rattle.answer.specs.Outcome.{Outcome, outcome, ◌or_else◌, refuse_if, unless}
use Rattle.answer.specs.Outcome.Laws.{refuse_if-zero, less_number-zero, less_number-none, or_else-zero-left, or_else-zero-right, unless-part}
use Rattle.row_format.specs.Lists.{any, least}
use Rattle.row_format.specs.Lists.Laws.{by-test, and-true-right, any_append, any-false-head, any-false-tail, least-within}
use Rattle.row_format.specs.Table.{table_number}
use Rattle.shelf_format.specs.declared.PlaceChanged.{PlaceChanged}
use Rattle.shelf_format.specs.Shelf.{place, placed, filled, is_free, is_party, is_common, first_own, is_own, may_use, view}
use Rattle.shelf_format.proofs.Shelf.Laws.{Own, own, length-filled, table-bytes, view-own, view-usable}
use Rattle.shelf_format.specs.Calls.{short_number, tables_number, shelved, not_changed, changed, first_free, put_place, offer_number, put_refusal, shelf_put, held_number, remove_refusal, shelf_removed, use_refusal}

-- ---- any call: refused by a number, or done
-- a refusal's number is no 0
pub refusal_some : (e : Refusal) → refusal_number e ≡ 0 → ⊥
refusal_some e none = omega (arith, refusal_not_done e, none)

module _ {A : Type 0} {n : ℕ} (refusal : ℕ → A) (done : A) where
  pub refuses : {e : ℕ} → e ≡ n → (e ≡ 0 → ⊥) → refusal e ≡ unless n refusal done
  refuses {e = zero} is some = absurd (some refl)
  refuses {e = suc e} is some = rw (← is)

  pub passes : n ≡ 0 → done ≡ unless n refusal done
  passes none = rw none

-- ---- a place that a call names
-- where the party may not, what stands there is not looked at
pub held_same : (may : Bool) (b b' : List ℕ) → (may ≡ true → b ≡ b') → held_number may b ≡ held_number may b'
unfolding held_number
held_same true b b' same = rw (same refl)
held_same false b b' same = refl

pub short_none : (s : List ℕ) → 393264 ≤ length s → short_number s ≡ 0
short_none s long = less_number-none (length s) 393264 5 long

pub record HeldPlace (may : Bool) (s : List ℕ) (b : List ℕ) : Type 0 where
  pub long : 393264 ≤ length s
  pub allowed : may ≡ true
  pub taken : is_free b ≡ false

pub held : (may : Bool) (s b : List ℕ) → (short_number s or_else held_number may b) ≡ 0 → HeldPlace may s b
unfolding held_number
held may s b e =
    let rest = or_else-zero-right (short_number s) (held_number may b) e in
    let allowed = or_else-zero-left (refuse_if (not may) 24) (refuse_if (is_free b) 23) rest in
    record {
      long = less_number-zero (length s) 393264 4 (or_else-zero-left (short_number s) (held_number may b) e);
      allowed = not-false may (refuse_if-zero (not may) 23 allowed);
      taken = refuse_if-zero (is_free b) 22 (or_else-zero-right (refuse_if (not may) 24) (refuse_if (is_free b) 23) rest);
    }

pub held_none : (may : Bool) (s b : List ℕ) → HeldPlace may s b → (short_number s or_else held_number may b) ≡ 0
unfolding held_number
held_none may s b h = rw (short_none s h.long, h.allowed, h.taken)

pub own-few : (p i : ℕ) → is_own p i ≡ true → i < 12
own-few p i h = let o = own p i h in omega (arith, o.party, o.most)

-- a place that a party may use is among the twelve
pub use-few : (p i : ℕ) → may_use p i ≡ true → i < 12
unfolding may_use
use-few p i h =
    let seen = and-true-right (is_party p) (is_common i || is_own p i) h in
    by-test (is_common i) (λ common. omega (arith, ltb-true i 4 common)) (λ other. own-few p i (rw other at seen))

-- and is used as it stands there
pub use-seen : (s : List ℕ) (p i : ℕ)
    → (short_number s or_else held_number (may_use p i) (place s i)) ≡ use_refusal s p i
use-seen s p i = ap (short_number s or_else◌) (held_same (may_use p i) (place s i) (view p s i) (λ h. sym (view-usable p i s h)))

pub remove-seen : (s : List ℕ) (p i : ℕ)
    → (short_number s or_else held_number (is_own p i) (place s i)) ≡ remove_refusal s p i
remove-seen s p i = ap (short_number s or_else◌) (held_same (is_own p i) (place s i) (view p s i) (λ h. sym (view-own p i s (own p i h))))

-- ---- the first free place
-- it passes the test, where there is one
pub least-passes : (f : ℕ → Bool) (n : ℕ) → least f n < n → f (least f n) ≡ true
unfolding least
least-passes f zero h = absurd (omega arith)
least-passes f (suc n) h = by-test (f 0) (λ e. rw (e, e)) (λ e. rw e (least-passes (λ k. f (suc k)) n (omega (arith, rw e at h))))

-- a number below n that none before it has passed, or n itself
pub least_at : (f : ℕ → Bool) (n k : ℕ) → k ≤ n → ((j : ℕ) → j < k → f j ≡ false) → (k < n → f k ≡ true) → least f n ≡ k
unfolding least
least_at f zero k h none here = omega (arith, h)
least_at f (suc n) zero h none here = rw (here (omega arith))
least_at f (suc n) (suc k) h none here =
    rw (none 0 (omega arith))
    (ap suc (least_at (λ j. f (suc j)) n k (omega (arith, h)) (λ j l. none (suc j) (omega (arith, l))) (λ l. here (omega (arith, l)))))

-- two tests that agree below n
pub least-alike : (f g : ℕ → Bool) (n : ℕ) → ((k : ℕ) → k < n → f k ≡ g k) → least f n ≡ least g n
unfolding least
least-alike f g zero same = refl
least-alike f g (suc n) same =
    rw (same 0 (omega arith), least-alike (λ k. f (suc k)) (λ k. g (suc k)) n (λ k h. same (suc k) (omega (arith, h))))

pub first-own : (p k : ℕ) → is_party p ≡ true → k < 4 → Own p (first_own p + k)
first-own p k party few = record { party = ltb-true p 2 party; least = omega arith; most = omega (arith, few) }

-- by what stands in the places
pub first_free-places : (s : List ℕ) (p : ℕ) → is_party p ≡ true
    → first_free (view p s) p ≡ least (λ k. is_free (place s (first_own p + k))) 4
unfolding first_free
first_free-places s p party =
    least-alike (λ k. is_free (view p s (first_own p + k))) (λ k. is_free (place s (first_own p + k))) 4
    (λ k few. ap is_free (view-own p (first_own p + k) s (first-own p k party few)))

pub first_free-most : (v : ℕ → List ℕ) (p : ℕ) → first_free v p ≤ 4
unfolding first_free
first_free-most v p = least-within (λ k. is_free (v (first_own p + k))) 4

-- ---- a put that is done
-- the party is known and the table accepted
pub record Offered (p : ℕ) (tb : List ℕ) : Type 0 where
  pub party : is_party p ≡ true
  pub table : table_number tb ≡ 0

pub offered : (p : ℕ) (tb : List ℕ) → offer_number p tb ≡ 0 → Offered p tb
unfolding offer_number
offered p tb none = record {
  party =
      not-false (is_party p)
      (refuse_if-zero (not (is_party p)) 23 (or_else-zero-left (refuse_if (not (is_party p)) 24) (table_number tb) none));
  table = or_else-zero-right (refuse_if (not (is_party p)) 24) (table_number tb) none;
}

pub record PutGranted (s : List ℕ) (p : ℕ) (tb : List ℕ) : Type 0 where
  pub long : 393264 ≤ length s
  pub party : is_party p ≡ true
  pub table : table_number tb ≡ 0
  pub few : first_free (view p s) p < 4

pub put-granted : (s : List ℕ) (p : ℕ) (tb : List ℕ) → put_refusal s p tb ≡ 0 → PutGranted s p tb
put-granted s p tb e =
    let full = refuse_if (eqb (first_free (view p s) p) 4) 22 in
    let rest = or_else-zero-right (short_number s) (offer_number p tb or_else full) e in
    let offer = offered p tb (or_else-zero-left (offer_number p tb) full rest) in
    record {
      long = less_number-zero (length s) 393264 4 (or_else-zero-left (short_number s) (offer_number p tb or_else full) e);
      party = offer.party;
      table = offer.table;
      few = fewer (first_free (view p s) p) (or_else-zero-right (offer_number p tb) full rest) (first_free-most (view p s) p);
    }
  where
    fewer : (k : ℕ) → refuse_if (eqb k 4) 22 ≡ 0 → k ≤ 4 → k < 4
    fewer k none most = omega (arith, eqb-false k 4 (refuse_if-zero (eqb k 4) 21 none), most)

-- ---- an opened shelf
-- tables that have room in a place, or none
abbrev large : List ℕ → Bool
large tb = ltb 32772 (length tb)

tables-fit : (tbs : List (List ℕ)) → tables_number tbs ≡ 0 → any large tbs ≡ false
unfolding tables_number any
tables-fit [] none = refl
tables-fit (tb ∷ tbs) none =
    let few = (table-bytes tb (or_else-zero-left (table_number tb) (tables_number tbs) none)).most in
    rw (le-ltb 32772 (length tb) few, tables-fit tbs (or_else-zero-right (table_number tb) (tables_number tbs) none))

length-shelved : (tbs : List (List ℕ)) → any large tbs ≡ false → length (shelved tbs) ≡ 32772 * length tbs
unfolding shelved
length-shelved [] few = refl
length-shelved (tb ∷ tbs) few =
    let here = length-filled tb (ltb-false 32772 (length tb) (any-false-head large tb tbs few)) in
    omega (arith, length-append (filled tb) (shelved tbs), here, length-shelved tbs (any-false-tail large tb tbs few))

-- each place has its table
place-shelved : (tbs : List (List ℕ)) (rest : List ℕ) (i : ℕ) → any large tbs ≡ false → i < length tbs
    → place (shelved tbs ++ rest) i ≡ filled (get_or tbs i [])
unfolding place shelved
place-shelved [] rest i few inside = absurd (omega (arith, inside))
place-shelved (tb ∷ tbs) rest zero few inside =
    let whole = length-filled tb (ltb-false 32772 (length tb) (any-false-head large tb tbs few)) in
    rw (append_assoc (filled tb) (shelved tbs) rest) (take_at (filled tb) (shelved tbs ++ rest) 32772 whole)
place-shelved (tb ∷ tbs) rest (suc i) few inside =
    let whole = length-filled tb (ltb-false 32772 (length tb) (any-false-head large tb tbs few)) in
    let next : 32772 * suc i ≡ length (filled tb) + 32772 * i = omega (arith, whole) in
    rw (append_assoc (filled tb) (shelved tbs) rest, next, drop-append-add (filled tb) (shelved tbs ++ rest) (32772 * i))
    (place-shelved tbs rest i (any-false-tail large tb tbs few) (omega (arith, inside)))

pub length-opened : (t0 t1 t2 t3 : List ℕ) → let tables = t0 ∷ t1 ∷ t2 ∷ t3 ∷ [] in
    tables_number tables ≡ 0 → length (shelved (tables ++ replicate 8 [])) ≡ 393264
unfolding any
length-opened t0 t1 t2 t3 none =
    let tables = t0 ∷ t1 ∷ t2 ∷ t3 ∷ [] in
    length-shelved (tables ++ replicate 8 []) (any_append large tables (replicate 8 []) ∙ rw (tables-fit tables none))

pub place_opened : (t0 t1 t2 t3 rest : List ℕ) (i : ℕ) → let tables = t0 ∷ t1 ∷ t2 ∷ t3 ∷ [] in
    tables_number tables ≡ 0 → i < 12
    → place (shelved (tables ++ replicate 8 []) ++ rest) i ≡ filled (get_or (tables ++ replicate 8 []) i [])
unfolding any
place_opened t0 t1 t2 t3 rest i none inside =
    let tables = t0 ∷ t1 ∷ t2 ∷ t3 ∷ [] in
    place-shelved (tables ++ replicate 8 []) rest i (any_append large tables (replicate 8 []) ∙ rw (tables-fit tables none)) inside

-- ---- the answer of a call that changes a place, and the shelf that it leaves
pub put-answer : (s : List ℕ) (p : ℕ) (tb : List ℕ)
    → (shelf_put s p tb).answer
    ≡ unless (put_refusal s p tb) not_changed (record { number = 0; place = put_place (view p s) p })
unfolding shelf_put
put-answer s p tb =
    unless-part (λ (o : Outcome PlaceChanged). o.answer) (put_refusal s p tb)
    (λ e. outcome (not_changed e) s) (changed s (put_place (view p s) p) (filled tb))

pub put-left : (s : List ℕ) (p : ℕ) (tb : List ℕ)
    → (shelf_put s p tb).memory
    ≡ unless (put_refusal s p tb) (λ e. s) (placed s (put_place (view p s) p) (filled tb))
unfolding shelf_put
put-left s p tb =
    unless-part (λ (o : Outcome PlaceChanged). o.memory) (put_refusal s p tb)
    (λ e. outcome (not_changed e) s) (changed s (put_place (view p s) p) (filled tb))

pub remove-answer : (s : List ℕ) (p i : ℕ)
    → (shelf_removed s p i).answer ≡ unless (remove_refusal s p i) not_changed (record { number = 0; place = i })
unfolding shelf_removed
remove-answer s p i =
    unless-part (λ (o : Outcome PlaceChanged). o.answer) (remove_refusal s p i)
    (λ e. outcome (not_changed e) s) (changed s i (filled []))

pub remove-left : (s : List ℕ) (p i : ℕ)
    → (shelf_removed s p i).memory ≡ unless (remove_refusal s p i) (λ e. s) (placed s i (filled []))
unfolding shelf_removed
remove-left s p i =
    unless-part (λ (o : Outcome PlaceChanged). o.memory) (remove_refusal s p i)
    (λ e. outcome (not_changed e) s) (changed s i (filled []))
