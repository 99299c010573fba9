-- The laws of one flag of DATA. Assumes nothing.
use Rattle.std.specs.Prelude.{ℕ, zero, suc, ◌+◌, ◌-◌, ◌≤◌, ◌<◌, ◌≡◌, refl, Bool, true, false, List, [], ◌∷◌, ◌++◌, map, length, take, drop, get_or, replicate, ℤ, pos}
use Rattle.std.proofs.Math.Nat.{suc_inj}
use Rattle.std.proofs.Common.{add-zero, arith, sym, ap, ◌∙◌, subst, length-drop, length-take-le, get_or-take, get_or-drop, drop-cons}
use Rattle.std.proofs.lemmas.List.{length-replicate, length-map}
use Rattle.row_format.specs.Lists.Laws.{true-false}
use Rattle.delta_format.specs.Row.{Element, good, bad, Flag, full, same, bad-run, bad-one, fulls, Previous, value, last_from, elements_for}
use Rattle.delta_reader.specs.Offset.{Width, Offset}
use Rattle.delta_reader.specs.Flags.{flag_at, is_bad, is_counted, elements_given, FlagValues}
use Rattle.delta_reader.specs.Puts.{RoomFor, PutsElements, PutsAlike, AsLong, PutsIf}
use Rattle.delta_reader.specs.Puts.Laws.{puts-more, holds-good}
use Rattle.delta_reader.specs.Step.{LastValue, count_place}

-- ---- how many elements
pub given-same : (k c n : ℕ) → k ≡ 1 → c ≡ elements_given (flag_at k) c n
given-same k c n e = rw e refl

pub given-bad : (f : Flag) (c n : ℕ) → true ≡ is_bad f → c + n ≡ elements_given f c n
given-bad full c n e = true-false refl e
given-bad same c n e = true-false refl e
given-bad bad-run c n e = refl
given-bad bad-one c n e = refl
given-bad fulls c n e = true-false refl e

pub given-else : (k c n : ℕ) → (k ≡ 1 → ⊥) → false ≡ is_bad (flag_at k) → n ≡ elements_given (flag_at k) c n
given-else zero c n h e = refl
given-else (suc zero) c n h e = absurd (h refl)
given-else (suc (suc zero)) c n h e = true-false refl (sym e)
given-else (suc (suc (suc zero))) c n h e = true-false refl (sym e)
given-else (suc (suc (suc (suc k)))) c n h e = refl

-- ---- the last value
last-at : (p : Previous) (us : List ℤ) (k : ℕ) → length us ≡ suc k → last_from p us ≡ value (get_or us k (pos 0))
last-at p [] k e = absurd (omega arith)
last-at p (v ∷ []) zero e = refl
last-at p (v ∷ []) (suc k) e = absurd (omega arith)
last-at p (v ∷ w ∷ us) zero e = absurd (omega arith)
last-at p (v ∷ w ∷ us) (suc k) e = last-at (value v) (w ∷ us) k (suc_inj e)

pub last_none : (vs : List ℤ) {n r : ℕ} → n ≡ 0 → r < 4294967296 → LastValue (take n vs) r
last_none vs {n} {r} e h = record { last = λ g. absurd (none g); small = h }
  where
    none : 0 < length (take n vs) → ⊥
    none g = let z : length (take n vs) ≡ 0 = ap (λ (m : ℕ). length (take m vs)) e in omega arith

pub last_some : {w r : ℕ} (all : List ℤ) (from n : ℕ) → (n ≡ 0 → ⊥) → n ≤ length (drop from all) → Width w
    → Offset w (get_or all (from + (n - 1)) (pos 0)) r → LastValue (take n (drop from all)) r
last_some {w} {r} all from n h g width o =
    let long : length (take n (drop from all)) ≡ suc (n - 1) =
    length-take-le n (drop from all) g ∙ (let q : n ≡ suc (n - 1) = omega arith in q) in
    let here : get_or (take n (drop from all)) (n - 1) (pos 0) ≡ get_or all (from + (n - 1)) (pos 0) =
    get_or-take n (drop from all) (n - 1) (pos 0) (omega arith) ∙ get_or-drop from all (n - 1) (pos 0) in
    record {
      last = λ s p. last-at p (take n (drop from all)) (n - 1) long ∙ ap value (here ∙ o.keeps);
      small = (holds-good width o).small;
    }

-- ---- the place in REPEAT
pub place-counted : (f : Flag) (n : ℕ) {m : ℕ} → true ≡ is_counted f → m ≡ n + 1 → m ≡ count_place f n
place-counted f n e h = h ∙ rw (sym e) refl

pub place-else : (f : Flag) (n : ℕ) → false ≡ is_counted f → n ≡ count_place f n
place-else f n e = rw (sym e) refl

-- ---- the elements of a flag, put
pub put-if-not : {x y : List ℕ} {at : ℕ} {es : List Element} {write : Bool} → write ≡ false → PutsIf write x y at es x y
put-if-not e = record { written = λ t. true-false t e; kept = λ f. record { row = refl; marks = refl } }

pub put_if : {x y : List ℕ} {at : ℕ} {es : List Element} {x' y' : List ℕ} {write : Bool} → write ≡ true → PutsElements x y at es x' y'
    → PutsIf write x y at es x' y'
put_if e p = record { written = λ t. p; kept = λ f. true-false e f }

pub room-some : {x y : List ℕ} {at n : ℕ} (m : ℕ) → RoomFor x y at n → m ≤ n → RoomFor x y at m
room-some m room h = record { row = omega (arith, room.row); marks = omega (arith, room.marks) }

pub room_after : {x y : List ℕ} {at n : ℕ} {x' y' : List ℕ} (m k : ℕ) → RoomFor x y at n → AsLong x y x' y' → m + k ≤ n
    → RoomFor x' y' (at + m) k
room_after m k room long h =
    record { row = omega (arith, room.row, long.row); marks = omega (arith, room.marks, long.marks) }

-- the value that a run takes
pub one_inside : (all : List ℤ) (from n : ℕ) (k : ℕ) → k ≡ 1 → FlagValues (flag_at k) n (drop from all) → from + 0 < length all
one_inside all from n k e f =
    let one : n ≡ 1 = f.one (ap flag_at e) in
    omega (arith, f.enough, length-drop from all, one)

pub puts-same : {x y : List ℕ} {at : ℕ} {x' y' : List ℕ} {w r : ℕ} (all : List ℤ) (from k c n : ℕ) → k ≡ 1
    → FlagValues (flag_at k) n (drop from all) → Width w → Offset w (get_or all (from + 0) (pos 0)) r → PutsAlike r 0 x y at c x' y'
    → PutsElements x y at (elements_for (flag_at k) c (take n (drop from all))) x' y'
puts-same {x} {y} {at} {x'} {y'} {w} {r} all from k c n e f width o p =
    let one : n ≡ 1 = f.one (ap flag_at e) in
    let here : from < length all = omega (arith, one_inside all from n k e f) in
    let v : ℤ = get_or all from (pos 0) in
    let at-v : get_or all (from + 0) (pos 0) ≡ v = ap (λ (j : ℕ). get_or all j (pos 0)) (add-zero from) in
    let puts : PutsElements x y at (replicate c (good v)) x' y' =
    p.puts (good v) (holds-good width (subst (λ (z : ℤ). Offset w z r) at-v o)) in
    rw (e, one, drop-cons all from (pos 0) here) puts

pub puts-bads : {x y : List ℕ} {at : ℕ} {x' y' x'' y'' : List ℕ} (vs : List ℤ) (f : Flag) (c n : ℕ) → true ≡ is_bad f
    → FlagValues f n vs → RoomFor x y at (elements_given f c n) → PutsAlike 2147483648 1 x y at c x' y'
    → PutsElements x' y' (at + c) (map good (take n vs)) x'' y'' → PutsElements x y at (elements_for f c (take n vs)) x'' y''
puts-bads {x} {y} {at} {x'} {y'} {x''} {y''} vs f c n e h room p q = subst (λ (es : List Element). PutsElements x y at es x'' y'') (bads f
    e) puts
  where
    bads : (f : Flag) → true ≡ is_bad f → replicate c bad ++ map good (take n vs) ≡ elements_for f c (take n vs)
    bads full e = true-false refl e
    bads same e = true-false refl e
    bads bad-run e = refl
    bads bad-one e = refl
    bads fulls e = true-false refl e

    long : length (replicate c bad) ≡ c
    long = length-replicate c bad

    rest : length (map good (take n vs)) ≡ n
    rest = length-map (take n vs) good ∙ length-take-le n vs h.enough

    next : PutsElements x' y' (at + length (replicate c bad)) (map good (take n vs)) x'' y''
    next = subst (λ (m : ℕ). PutsElements x' y' (at + m) (map good (take n vs)) x'' y'') (sym long) q

    puts : PutsElements x y at (replicate c bad ++ map good (take n vs)) x'' y''
    puts =
        puts-more room (omega (arith, long, rest, given-bad f c n e))
        (p.puts bad (record { keeps = refl; marked = refl; small = omega arith })) next

pub puts-else : {x y : List ℕ} {at : ℕ} {x' y' : List ℕ} (vs : List ℤ) (k c n : ℕ) → (k ≡ 1 → ⊥) → false ≡ is_bad (flag_at k)
    → PutsElements x y at (map good (take n vs)) x' y' → PutsElements x y at (elements_for (flag_at k) c (take n vs)) x' y'
puts-else vs zero c n h e p = p
puts-else vs (suc zero) c n h e p = absurd (h refl)
puts-else vs (suc (suc zero)) c n h e p = true-false refl (sym e)
puts-else vs (suc (suc (suc zero))) c n h e p = true-false refl (sym e)
puts-else vs (suc (suc (suc (suc k)))) c n h e p = p
