-- Laws of groups read to memory: photons at positions, pixels one after the other, groups one after the other. Assumes nothing.
use Rattle.std.specs.Prelude.{ℕ, suc, ◌+◌, ◌-◌, ◌*◌, ◌^◌, ◌≤◌, ◌<◌, drop, get_or, set}
use Rattle.std.proofs.Math.Nat.{sub-zero, zero-add}
use Rattle.std.proofs.Common.{zero-mul, suc-mul, add-zero, add-one, ◌∙◌, subst, drop_of_length-le, take-add, drop-drop, pow-add, lt-ltb, le-ltb}
use native.Mathlib.Omega.{arith}
use Rattle.std.proofs.Math.Path.{◌≡◌, refl, sym, ap}
use mathlib.Core.List.{List, [], ◌∷◌, ◌++◌, append-nil}
use Rattle.std.proofs.Math.ListN.{length, take, replicate, length-drop}
use Rattle.std.proofs.lemmas.List.{length-replicate, get_or-replicate, drop-set-add}
use Rattle.std.proofs.Math.Seq.{take-suc-set}
use Rattle.std.proofs.Math.Pow.{pow_pos}
use Rattle.map_format.specs.Reading.{
  got,
  Code,
  one,
  two,
  direct,
  sum,
  photon,
  dark,
  read_field,
  read_pixel,
  read_pixels,
  read_code,
  read_body,
  read_group,
  read_groups,
}
use Rattle.map_format.specs.Reading.Laws.{sum_zeros, sum-append, length-photon, sum-photon}
use Rattle.map_format.specs.Calls.{map_groups}
use Rattle.mat_map.specs.Step.{Stepped, prefixed, StepReads, part, code_of, Around, Stored, Pixels, GroupReady, Dark, Groups}
use Rattle.mat_map.specs.Step.Laws.{refuses, gets, passes, follows, farther}
use Rattle.mat_map.specs.Step.Prefixed.{prefixed-none, prefixed-twice}
use Rattle.mat_map.specs.Step.Prefixed.{read_pixels-more, read_pixels-stop, read_groups-more, read_groups-stop}
use Rattle.mat_map.specs.Step.Memory.{photon-most, around-none, around-both, around-set, get_d_part, part-photon, take-zeros}
use Rattle.mat_map.specs.Step.Memory.{drop-zeros}

-- ---- photons at positions
module _ (b : List ℕ) (k at place : ℕ) (l : List ℕ) (ready : GroupReady k at place l) where
  none-at : (p : ℕ) → p < 2 ^ k → get_or l (place + p) 0 ≡ 0
  none-at p h =
      sym (get_d_part place (2 ^ k) l p h) ∙ ap (λ (q : List ℕ). get_or q p 0) ready.none ∙ get_or-replicate (2 ^ k) p 0 0 h

  -- the first count can take one
  pub first_fits : (p : ℕ) → p < 2 ^ k → get_or l (place + p) 0 + 1 < 65536
  first_fits p h = omega (arith, none-at p h)

  dark-long : length (dark k) ≡ 2 ^ k
  dark-long = length-replicate (2 ^ k) 0

  module _ (x : Stepped) (h : StepReads b (at + k) (2 ^ k) (read_field k (drop at b)) x.value x) where
    pub one-stop : (x.number ≡ 0 → ⊥) → Stored b (at + 22 * 2 ^ k) (read_body k one (drop at b)) place (2 ^ k) l l x
    unfolding read_body
    one-stop n = record { reads = passes _ _ h n; photons = λ z. absurd (n z); around = around-none place (2 ^ k) l }

    pub two-stop : (x.number ≡ 0 → ⊥) → Stored b (at + 22 * 2 ^ k) (read_body k two (drop at b)) place (2 ^ k) l l x
    unfolding read_body
    two-stop n = record { reads = passes _ _ h n; photons = λ z. absurd (n z); around = around-none place (2 ^ k) l }

    module _ (z : x.number ≡ 0) (l' : List ℕ) (is : l' ≡ set l (place + x.value) (get_or l (place + x.value) 0 + 1)) where
      first-is : part place (2 ^ k) l' ≡ photon x.value (dark k)
      first-is = ap (part place (2 ^ k)) is ∙ part-photon place (2 ^ k) l x.value (h.goes z).low (dark k) ready.none

      first-sum : sum (photon x.value (dark k)) ≡ 1
      first-sum =
          sum-photon x.value (dark k) (omega (arith, dark-long, (h.goes z).low)) ∙ ap suc (sum_zeros (2 ^ k))

      first-around : Around place (2 ^ k) l l'
      first-around =
          subst (Around place (2 ^ k) l) (sym is) (around-set place (2 ^ k) l x.value (h.goes z).low (get_or l (place + x.value) 0 + 1))

      pub one-put : let y : Stepped = record { number = 0; value = 1; next = x.next } in
          Stored b (at + 22 * 2 ^ k) (read_body k one (drop at b)) place (2 ^ k) l l' y
      unfolding read_body
      one-put = record {
        reads = follows _ _ h z (gets b _ _ _ _ _ refl record {
          read = ap (λ (q : List ℕ). got q (drop x.next b)) (sym first-is);
          inside = (h.goes z).inside;
          near = omega (arith, (h.goes z).near, ready.few, pow_pos k);
          low = omega (arith, pow_pos k);
        });
        photons = λ e. sym (ap sum first-is ∙ first-sum);
        around = first-around;
      }

      -- the second count can take one, even where it is the first
      pub second_fits : (q : ℕ) → q < 2 ^ k → get_or l' (place + q) 0 + 1 < 65536
      second_fits q small =
          let e : get_or l' (place + q) 0 ≡ get_or (photon x.value (dark k)) q 0 =
          sym (get_d_part place (2 ^ k) l' q small) ∙ ap (λ (xs : List ℕ). get_or xs q 0) first-is in
          let d : get_or (dark k) q 0 ≡ 0 = get_or-replicate (2 ^ k) q 0 0 small in
          omega (arith, photon-most x.value (dark k) q)

      module _ (w : Stepped) (g : StepReads b (x.next + k) (2 ^ k) (read_field k (drop x.next b)) w.value w) (y : w.number ≡ 0)
          (l'' : List ℕ) (put : l'' ≡ set l' (place + w.value) (get_or l' (place + w.value) 0 + 1)) where
        second_is : part place (2 ^ k) l'' ≡ photon w.value (photon x.value (dark k))
        second_is =
            ap (part place (2 ^ k)) put
            ∙ part-photon place (2 ^ k) l' w.value (g.goes y).low (photon x.value (dark k)) first-is

        second-sum : sum (photon w.value (photon x.value (dark k))) ≡ 2
        second-sum =
            sum-photon w.value (photon x.value (dark k))
            (omega (arith, dark-long, length-photon x.value (dark k), (g.goes y).low))
            ∙ ap suc first-sum

        pub two-put : let r : Stepped = record { number = 0; value = 2; next = w.next } in
            Stored b (at + 22 * 2 ^ k) (read_body k two (drop at b)) place (2 ^ k) l l'' r
        unfolding read_body
        two-put = record {
          reads = follows _ _ h z (follows _ _ g y (gets b _ _ _ _ _ refl record {
            read = ap (λ (q : List ℕ). got q (drop w.next b)) (sym second_is);
            inside = (g.goes y).inside;
            near = omega (arith, (h.goes z).near, (g.goes y).near, ready.few, pow_pos k);
            low = omega (arith, pow_pos k);
          }));
          photons = λ e. sym (ap sum second_is ∙ second-sum);
          around = around-both first-around
              (subst (Around place (2 ^ k) l') (sym put)
              (around-set place (2 ^ k) l' w.value (g.goes y).low (get_or l' (place + w.value) 0 + 1)));
        }

    -- the second position is refused
    pub second-stop : x.number ≡ 0 → (w : Stepped) → StepReads b (x.next + k) (2 ^ k) (read_field k (drop x.next b)) w.value w
        → (w.number ≡ 0 → ⊥) → Stored b (at + 22 * 2 ^ k) (read_body k two (drop at b)) place (2 ^ k) l l w
    unfolding read_body
    second-stop z w g n = record {
      reads = follows _ _ h z (passes _ _ g n);
      photons = λ y. absurd (n y);
      around = around-none place (2 ^ k) l;
    }

-- ---- pixels one after the other
module _ (b : List ℕ) (at n place : ℕ) (l : List ℕ) where
  at_first : Pixels b at n place l l at 0 0
  unfolding sum
  at_first = record {
    within = omega arith;
    around = around-none place n l;
    so_far_lem = rw (sub-zero n) (prefixed-none (read_pixels n (drop at b)));
    sums = refl;
    low = omega arith;
    near = omega arith;
    inside = λ h. absurd (omega arith);
  }

  pub pixels-none : (i : ℕ) → i ≡ 0 → Pixels b at n place l l at 0 i
  pixels-none i none = subst (Pixels b at n place l l at 0) (sym none) at_first

  no_more : (xs : List ℕ) (next : ℕ) → prefixed xs (read_pixels 0 (drop next b)) ≡ got xs (drop next b)
  unfolding read_pixels
  no_more xs next = ap (λ (ys : List ℕ). got ys (drop next b)) (append-nil xs)

  module _ (l' : List ℕ) (next photons i : ℕ) (q : Pixels b at n place l l' next photons i) where
    pub pixels-all : 0 < n → n ≤ i → let y : Stepped = record { number = 0; value = photons; next = next } in
        Stored b (at + 22 * n) (read_pixels n (drop at b)) place n l l' y
    pixels-all some h =
        let all : i ≡ n = omega (arith, q.within) in
        let none : n - i ≡ 0 = omega arith in
        record {
          reads = gets b _ _ _ _ _ refl record {
            read =
                q.so_far_lem
                ∙ ap (λ (m : ℕ). prefixed (part place i l') (read_pixels m (drop next b))) none
                ∙ no_more (part place i l') next
                ∙ ap (λ (m : ℕ). got (part place m l') (drop next b)) all;
            inside = q.inside (omega arith);
            near = omega (arith, q.near);
            low = omega (arith, q.low);
          };
          photons = λ e. q.sums ∙ ap (λ (m : ℕ). sum (part place m l')) all;
          around = q.around;
        }

    module _ (h : i < n) (x : Stepped) (r : StepReads b (next + 22) 65536 (read_pixel (drop next b)) x.value x) where
      left : n - i ≡ suc (n - (i + 1))
      left = omega arith

      by_next : read_pixels n (drop at b) ≡ prefixed (part place i l') (read_pixels (suc (n - (i + 1))) (drop next b))
      by_next = q.so_far_lem ∙ ap (λ (m : ℕ). prefixed (part place i l') (read_pixels m (drop next b))) left

      pub pixels-stop : (x.number ≡ 0 → ⊥) → Stored b (at + 22 * n) (read_pixels n (drop at b)) place n l l' x
      pixels-stop s = record {
        reads = record {
          stopped = λ m. by_next ∙ ap (prefixed (part place i l')) (read_pixels-stop (n - (i + 1)) (drop next b) x.number (r.stopped m));
          goes = λ z. absurd (s z);
        };
        photons = λ z. absurd (s z);
        around = q.around;
      }

      put_next : place + n ≤ length l → x.number ≡ 0 → (l'' : List ℕ) → l'' ≡ set l' (place + i) x.value
          → Pixels b at n place l l'' x.next (photons + x.value) (i + 1)
      unfolding sum
      put_next fits z l'' put =
          let there : i < length (drop place l') = omega (arith, length-drop place l', q.around.size) in
          let front : part place (i + 1) l'' ≡ part place i l' ++ (x.value ∷ []) =
          ap (part place (i + 1)) put
          ∙ ap (take (i + 1)) (drop-set-add place l' i x.value)
          ∙ ap (λ (m : ℕ). take m (set (drop place l') i x.value)) (add-one i)
          ∙ take-suc-set (drop place l') i x.value there in
          record {
            within = omega arith;
            around = around-both q.around (subst (Around place n l') (sym put) (around-set place n l' i h x.value));
            so_far_lem =
                by_next
                ∙ ap (prefixed (part place i l'))
                (read_pixels-more (n - (i + 1)) (drop next b) x.value (drop x.next b) (r.goes z).read)
                ∙ prefixed-twice (part place i l') (x.value ∷ []) (read_pixels (n - (i + 1)) (drop x.next b))
                ∙ ap (λ (xs : List ℕ). prefixed xs (read_pixels (n - (i + 1)) (drop x.next b))) (sym front);
            sums =
                ap (◌+ x.value) q.sums
                ∙ ap (sum (part place i l') +◌) (sym (add-zero x.value))
                ∙ sym (sum-append (part place i l') (x.value ∷ []))
                ∙ ap sum (sym front);
            low = omega (arith, q.low, (r.goes z).low);
            near = omega (arith, q.near, (r.goes z).near);
            inside = λ e. (r.goes z).inside;
          }

      pub pixels-more : place + n ≤ length l → x.number ≡ 0 → (l'' : List ℕ) → (w : ℕ) → w ≡ place + i → l'' ≡ set l' w x.value
          → (j : ℕ) → j ≡ i + 1 → Pixels b at n place l l'' x.next (photons + x.value) j
      pixels-more fits z l'' w here put j more =
          subst (Pixels b at n place l l'' x.next (photons + x.value)) (sym more)
          (put_next fits z l'' (put ∙ ap (λ (k : ℕ). set l' k x.value) here))

-- ---- after 000
module _ (b : List ℕ) (k at place n : ℕ) (l l' : List ℕ) (x : Stepped) (e : n ≡ 2 ^ k)
    (h : Stored b (at + 22 * n) (read_pixels n (drop at b)) place n l l' x) where
  each : Stored b (at + 22 * 2 ^ k) (read_pixels (2 ^ k) (drop at b)) place (2 ^ k) l l' x
  each = subst (λ (m : ℕ). Stored b (at + 22 * m) (read_pixels m (drop at b)) place m l l' x) e h

  pub each-stop : (x.number ≡ 0 → ⊥) → Stored b (at + 22 * 2 ^ k) (read_body k direct (drop at b)) place (2 ^ k) l l' x
  unfolding read_body
  each-stop s = record { reads = passes _ _ each.reads s; photons = λ z. absurd (s z); around = each.around }

  module _ (z : x.number ≡ 0) where
    pub each-few : x.value < 3 → (y : Stepped) → y.number ≡ 20
        → Stored b (at + 22 * 2 ^ k) (read_body k direct (drop at b)) place (2 ^ k) l l' y
    unfolding read_body
    each-few few y is =
        let less : sum (part place (2 ^ k) l') < 3 = omega (arith, each.photons z) in
        record {
          reads = follows _ _ each.reads z
              (rw (lt-ltb (sum (part place (2 ^ k) l')) 3 less) (refuses b _ _ _ _ y 19 is refl));
          photons = λ w. absurd (let o : ◌≡◌ {A = ℕ} 20 0 = sym is ∙ w in omega arith);
          around = each.around;
        }

    pub each-put : 3 ≤ x.value → Stored b (at + 22 * 2 ^ k) (read_body k direct (drop at b)) place (2 ^ k) l l' x
    unfolding read_body
    each-put many =
        let more : 3 ≤ sum (part place (2 ^ k) l') = omega (arith, each.photons z) in
        record {
          reads = follows _ _ each.reads z
              (rw (le-ltb (sum (part place (2 ^ k) l')) 3 more) (gets b _ _ _ _ x z record {
                read = refl;
                inside = (each.reads.goes z).inside;
                near = (each.reads.goes z).near;
                low = (each.reads.goes z).low;
              }));
          photons = each.photons;
          around = each.around;
        }

-- ---- a code, and what follows it
pub ready-later : {k at place next : ℕ} {l : List ℕ} → GroupReady k at place l → next ≤ at → GroupReady k next place l
ready-later r h = record { some = r.some; few = r.few; near = omega (arith, r.near); room = r.room; none = r.none }

module _ (b : List ℕ) (k at place : ℕ) (l : List ℕ) (x : Stepped)
    (h : StepReads b (at + 3) 4 (read_code (drop at b)) (code_of x.value) x) where
  pub group-stop : (x.number ≡ 0 → ⊥) → Stored b (at + 3 + 22 * 2 ^ k) (read_group k (drop at b)) place (2 ^ k) l l x
  unfolding read_group
  group-stop n = record { reads = passes _ _ h n; photons = λ z. absurd (n z); around = around-none place (2 ^ k) l }

  module _ (z : x.number ≡ 0) where
    pub group-dark : GroupReady k (at + 3) place l → x.value ≡ 0
        → Stored b (at + 3 + 22 * 2 ^ k) (read_group k (drop at b)) place (2 ^ k) l l x
    unfolding read_group read_body
    group-dark ready e = record {
      reads = follows _ _ h z (gets b _ _ _ _ x z record {
        read =
            ap (λ (v : ℕ). read_body k (code_of v) (drop x.next b)) e
            ∙ ap (λ (q : List ℕ). got q (drop x.next b)) (sym ready.none);
        inside = (h.goes z).inside;
        near = omega (arith, (h.goes z).near);
        low = omega (arith, pow_pos k);
      });
      photons = λ y. e ∙ sym (ap sum ready.none ∙ sum_zeros (2 ^ k));
      around = around-none place (2 ^ k) l;
    }

    pub group-body : (c : Code) → code_of x.value ≡ c → (l' : List ℕ) (y : Stepped)
        → Stored b (x.next + 22 * 2 ^ k) (read_body k c (drop x.next b)) place (2 ^ k) l l' y
        → Stored b (at + 3 + 22 * 2 ^ k) (read_group k (drop at b)) place (2 ^ k) l l' y
    unfolding read_group
    group-body c e l' y g = record {
      reads = follows _ _ h z (rw e (farther (omega (arith, (h.goes z).near)) (omega arith) g.reads));
      photons = g.photons;
      around = g.around;
    }

    -- no other code
    pub code-last : (x.value ≡ 0 → ⊥) → (x.value ≡ 1 → ⊥) → (x.value ≡ 2 → ⊥) → code_of x.value ≡ direct
    code-last a c d = let e : x.value ≡ 3 = omega (arith, (h.goes z).low) in ap code_of e

-- ---- groups one after the other
module _ (b : List ℕ) (k : ℕ) (few : k ≤ 4) where
  pub groups_none : (l : List ℕ) → Dark l → (left : ℕ) → left ≡ 2 ^ (14 - k) → Groups b k l left 0 0 0
  unfolding sum
  groups_none l none left e = record {
    size = none.size;
    room =
        zero-add (left * 2 ^ k)
        ∙ ap (◌* 2 ^ k) e
        ∙ sym (pow-add 2 (14 - k) k)
        ∙ (let s : 14 - k + k ≡ 14 = omega arith in ap (2 ^◌) s);
    so_far_lem = rw e (prefixed-none (read_groups k (map_groups k) b));
    none = none.none ∙ ap (λ (n : ℕ). replicate n 0) (sym (sub-zero (length l)));
    sums = refl;
    low = omega arith;
    near = omega arith;
    inside = λ h. absurd (omega arith);
  }

  module _ (l : List ℕ) (left place at photons : ℕ) (q : Groups b k l left place at photons) where
    no-group : read_groups k 0 (drop at b) ≡ got [] (drop at b)
    unfolding read_groups
    no-group = refl

    pub groups-all : left ≡ 0 → (l₀ : List ℕ) → Dark l₀ → let y : Stepped = record { number = 0; value = photons; next = at } in
        Stored b 409600 (read_groups k (map_groups k) b) 0 16384 l₀ l y
    groups-all e l₀ none =
        let all : place ≡ 16384 = sym (add-zero place) ∙ ap (place +◌) (sym (ap (◌* 2 ^ k) e ∙ zero-mul (2 ^ k))) ∙ q.room in
        let whole : take place l ≡ take 16384 l = ap (λ (n : ℕ). take n l) all in
        record {
          reads = gets b _ _ _ _ _ refl record {
            read =
                q.so_far_lem
                ∙ ap (λ (n : ℕ). prefixed (take place l) (read_groups k n (drop at b))) e
                ∙ ap (prefixed (take place l)) no-group
                ∙ ap (λ (xs : List ℕ). got xs (drop at b)) (append-nil (take place l) ∙ whole);
            inside = q.inside (omega arith);
            near = omega (arith, q.near);
            low = omega (arith, q.low);
          };
          photons = λ z. q.sums ∙ ap sum whole;
          around = record {
            size = q.size ∙ sym none.size;
            front = refl;
            back =
                drop_of_length-le l {i = 16384} (omega (arith, q.size))
                ∙ sym (drop_of_length-le l₀ {i = 16384} (omega (arith, none.size)));
          };
        }

    module _ (some : 0 < k) (h : 0 < left) where
      one_less : left * 2 ^ k ≡ (left - 1) * 2 ^ k + 2 ^ k
      one_less = let e : left ≡ suc (left - 1) = omega arith in ap (◌* 2 ^ k) e ∙ suc-mul (left - 1) (2 ^ k)

      pub groups-room : place + 2 ^ k ≤ 16384
      groups-room = omega (arith, q.room, one_less)

      pub groups-ready : GroupReady k (at + 3) place l
      groups-ready = record {
        some = some;
        few = few;
        near = omega (arith, q.near, groups-room);
        room = omega (arith, q.size, groups-room);
        none =
            ap (take (2 ^ k)) q.none ∙ take-zeros (2 ^ k) (length l - place) (omega (arith, q.size, groups-room));
      }

      module _ (l' : List ℕ) (x : Stepped)
          (g : Stored b (at + 3 + 22 * 2 ^ k) (read_group k (drop at b)) place (2 ^ k) l l' x) where
        by-group : read_groups k (map_groups k) b ≡ prefixed (take place l) (read_groups k (suc (left - 1)) (drop at b))
        by-group =
            let e : left ≡ suc (left - 1) = omega arith in
            q.so_far_lem ∙ ap (λ (n : ℕ). prefixed (take place l) (read_groups k n (drop at b))) e

        pub groups-stop : (x.number ≡ 0 → ⊥) → (l₀ : List ℕ) → Dark l₀
            → Stored b 409600 (read_groups k (map_groups k) b) 0 16384 l₀ l' x
        groups-stop n l₀ none = record {
          reads = record {
            stopped = λ m.
                by-group ∙ ap (prefixed (take place l)) (read_groups-stop k (left - 1) (drop at b) x.number (g.reads.stopped m));
            goes = λ z. absurd (n z);
          };
          photons = λ z. absurd (n z);
          around = record {
            size = g.around.size ∙ q.size ∙ sym none.size;
            front = refl;
            back =
                drop_of_length-le l' {i = 16384} (omega (arith, g.around.size, q.size))
                ∙ sym (drop_of_length-le l₀ {i = 16384} (omega (arith, none.size)));
          };
        }

        pub groups-more : (n : ℕ) → n ≡ 2 ^ k → x.number ≡ 0
            → Groups b k l' (left - 1) (place + n) x.next (photons + x.value)
        groups-more n is z =
            let xs : List ℕ = part place (2 ^ k) l' in
            let front : take (place + 2 ^ k) l' ≡ take place l ++ xs =
            take-add place (2 ^ k) l' ∙ ap (◌++ xs) g.around.front in
            subst (λ (w : ℕ). Groups b k l' (left - 1) (place + w) x.next (photons + x.value)) (sym is) record {
              size = g.around.size ∙ q.size;
              room = omega (arith, q.room, one_less);
              so_far_lem =
                  by-group
                  ∙ ap (prefixed (take place l)) (read_groups-more k (left - 1) (drop at b) xs (drop x.next b) (g.reads.goes z).read)
                  ∙ prefixed-twice (take place l) xs (read_groups k (left - 1) (drop x.next b))
                  ∙ ap (λ (ys : List ℕ). prefixed ys (read_groups k (left - 1) (drop x.next b))) (sym front);
              none =
                  g.around.back
                  ∙ sym (drop-drop (2 ^ k) place l)
                  ∙ ap (drop (2 ^ k)) q.none
                  ∙ drop-zeros (2 ^ k) (length l - place)
                  ∙ (let e : length l - place - 2 ^ k ≡ length l' - (place + 2 ^ k) = omega (arith, g.around.size) in
                  ap (λ (m : ℕ). replicate m 0) e);
              sums =
                  ap (◌+ x.value) q.sums
                  ∙ ap (sum (take place l) +◌) (g.photons z)
                  ∙ sym (sum-append (take place l) xs)
                  ∙ ap sum (sym front);
              low = omega (arith, q.low, (g.reads.goes z).low);
              near = omega (arith, q.near, (g.reads.goes z).near, pow_pos k);
              inside = λ e. (g.reads.goes z).inside;
            }
