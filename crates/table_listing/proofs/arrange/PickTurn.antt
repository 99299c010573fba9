-- What a turn of pick does: the places that go one way, put one after the other. Assumes nothing.
use Prim.Native.Nat.{ℕ, ◌+◌, ◌≤◌, ◌<◌}
use native.Mathlib.Numerals.{add-one}
use native.Mathlib.Omega.{arith}
use mathlib.Core.Path.{◌≡◌, refl, ap, ◌∙◌}
use mathlib.Core.List.{List, [], ◌∷◌, ◌++◌, append-nil}
use lib.ListN.{length, take, get_or, set, length-append, length-set}
use lib.Seq.{take-suc, take_all}
use Rattle.text.specs.Put.{Put}
use Rattle.text.specs.Put.Laws.{put-none, put-more}
use Rattle.table_listing.specs.Order.{picked, way}
use Rattle.table_listing.specs.Order.Laws.{picked-some, picked-other, picked-append, picked-take}

-- of the first i of the places ps those that go the way k are put at a place of the memory m; r is the place after them
pub record Picking (s : ℕ → List ℕ) (d k : ℕ) (ps m : List ℕ) (at i r : ℕ) (m' : List ℕ) : Type 0 where
  pub within : i ≤ length ps
  pub size : length m' ≡ length m
  pub put : Put m at (picked s d k (take i ps)) r m'

module _ {s : ℕ → List ℕ} {d k : ℕ} {ps m : List ℕ} {at : ℕ} where
  pub picking-none : Picking s d k ps m at 0 at m
  picking-none = record { within = omega arith; size = refl; put = unfold picked in put-none m at }

  -- one more place, which goes the way k or another
  module _ {i r : ℕ} {m' : List ℕ} (h : i < length ps) (c : Picking s d k ps m at i r m') where
    next : take (i + 1) ps ≡ take i ps ++ (get_or ps i 0 ∷ [])
    next = rw (add-one i) (take-suc ps i 0 h)

    picked_next : way d (s (get_or ps i 0)) ≡ k → picked s d k (take (i + 1) ps) ≡ picked s d k (take i ps) ++ (get_or ps i 0 ∷ [])
    picked_next e =
        rw (next, picked-append s d k (take i ps) (get_or ps i 0 ∷ []), picked-some s d k (get_or ps i 0) [] e) (unfold picked in refl)

    picked-kept : (way d (s (get_or ps i 0)) ≡ k → ⊥) → picked s d k (take (i + 1) ps) ≡ picked s d k (take i ps)
    picked-kept e =
        rw (next, picked-append s d k (take i ps) (get_or ps i 0 ∷ []), picked-other s d k (get_or ps i 0) [] e)
        (unfold picked in append-nil (picked s d k (take i ps)))

    pub picking-room : way d (s (get_or ps i 0)) ≡ k → at + length (picked s d k ps) ≤ length m → r < length m
    picking-room e room =
        let one_more = ap length (picked_next e) ∙ length-append (picked s d k (take i ps)) (get_or ps i 0 ∷ []) in
        omega (arith, c.put.next, one_more, picked-take s d k (i + 1) ps)

    pub picking-some : way d (s (get_or ps i 0)) ≡ k → at + length (picked s d k ps) ≤ length m
        → Picking s d k ps m at (i + 1) (r + 1) (set m' r (get_or ps i 0))
    picking-some e room =
        record {
          within = omega arith;
          size = length-set m' r (get_or ps i 0) ∙ c.size;
          put = rw (picked_next e) (put-more (get_or ps i 0) (picking-room e room) c.size c.put);
        }

    pub picking-other : (way d (s (get_or ps i 0)) ≡ k → ⊥) → Picking s d k ps m at (i + 1) r m'
    picking-other e = record { within = omega arith; size = c.size; put = rw (picked-kept e) c.put }

  pub picking-all : {i r : ℕ} {m' : List ℕ} → length ps ≤ i → Picking s d k ps m at i r m' → Put m at (picked s d k ps) r m'
  picking-all {i} h c = rw (take_all i ps h) at c.put
