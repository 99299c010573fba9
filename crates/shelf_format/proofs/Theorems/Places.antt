-- Whose a place is, by its number. Assumes nothing.
use Rattle.std.specs.Prelude.{ℕ, ◌+◌, ◌≤◌, ◌<◌, ◌≡◌, true, false, ◌||◌, ◌↔◌}
use Rattle.std.proofs.Common.{ltb-true, lt-ltb, le-ltb}
use Rattle.row_format.specs.Lists.Laws.{and-true-right}
use Rattle.shelf_format.specs.Shelf.{is_party, is_common, first_own, is_own, is_seen, may_use}
use Rattle.shelf_format.proofs.Shelf.Laws.{own, own_is}

pub common-exactly : (i : ℕ) → (is_common i ≡ true) ↔ (i < 4)
common-exactly i = (ltb-true i 4, lt-ltb i 4)

pub own-exactly : (p : ℕ) → is_party p ≡ true → (i : ℕ) → (is_own p i ≡ true) ↔ ((first_own p ≤ i) × (i < first_own p + 4))
own-exactly p party i = (
  λ mine. let o = own p i mine in (o.least, o.most),
  λ h. own_is p i (record { party = ltb-true p 2 party; least = h.0; most = h.1 }),
)

pub nobody : (p i : ℕ) → 2 ≤ p → (is_own p i ≡ false) × (may_use p i ≡ false)
unfolding is_own may_use
nobody p i unknown = (rw (le-ltb p 2 unknown), rw (le-ltb p 2 unknown))

pub may-exactly : (p i : ℕ) → is_party p ≡ true → (may_use p i ≡ true) ↔ (is_seen p i ≡ true)
unfolding may_use
may-exactly p i party = (and-true-right (is_party p) (is_common i || is_own p i), λ seen. rw (party, seen))
