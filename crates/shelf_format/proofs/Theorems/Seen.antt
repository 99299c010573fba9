-- What a call's answer depends on: of each place that the party sees, whether it is free, and its table. Assumes nothing.
use Rattle.std.specs.Prelude.{ℕ, ◌+◌, ◌≡◌, List}
use Rattle.std.proofs.Common.{sym, ◌∙◌}
use Rattle.std.proofs.Math.Path.{ap}
use Rattle.shelf_format.specs.Shelf.{is_free, table_in, first_own, view}
use Rattle.shelf_format.specs.Calls.{short_number, first_free, put_refusal, held_number, remove_refusal, use_refusal, shelf_packed, shelf_unpacked, shelf_room}
use Rattle.shelf_format.proofs.Calls.Laws.{least-alike, put-answer, remove-answer}
use Rattle.shelf_format.specs.Run.{Call, put, remove, pack, unpack, room, changing, reply}

-- as much of two shelves as a party's calls look at is the same
pub record SameSeen (p : ℕ) (s s' : List ℕ) : Type 0 where
  pub short : short_number s ≡ short_number s'
  pub free : (i : ℕ) → is_free (view p s i) ≡ is_free (view p s' i)
  pub table : (i : ℕ) → table_in (view p s i) ≡ table_in (view p s' i)

module _ (p : ℕ) (s s' : List ℕ) (same : SameSeen p s s') where
  pub first-same : first_free (view p s) p ≡ first_free (view p s') p
  unfolding first_free
  first-same =
      least-alike (λ k. is_free (view p s (first_own p + k))) (λ k. is_free (view p s' (first_own p + k))) 4
      (λ k h. same.free (first_own p + k))

  pub put_same : (tb : List ℕ) → put_refusal s p tb ≡ put_refusal s' p tb
  put_same tb = rw (same.short, first-same)

  pub remove-same : (i : ℕ) → remove_refusal s p i ≡ remove_refusal s' p i
  unfolding held_number
  remove-same i = rw (same.short, same.free i)

  pub use-same : (i : ℕ) → use_refusal s p i ≡ use_refusal s' p i
  unfolding held_number
  use-same i = rw (same.short, same.free i)

  pub reply-same : (c : Call) → reply s p c ≡ reply s' p c
  unfolding reply shelf_packed shelf_unpacked shelf_room
  reply-same (put tb) =
      ap changing (put-answer s p tb ∙ rw (put_same tb, first-same) (sym (put-answer s' p tb)))
  reply-same (remove i) = ap changing (remove-answer s p i ∙ rw (remove-same i) (sym (remove-answer s' p i)))
  reply-same (pack i pb m) = rw (use-same i, same.table i)
  reply-same (unpack i wb n m) = rw (use-same i, same.table i)
  reply-same (room i n) = rw (use-same i, same.table i)
