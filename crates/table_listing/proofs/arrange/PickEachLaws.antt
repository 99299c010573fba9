-- The three ways one after the other. Assumes nothing.
use Prim.Native.Nat.{ℕ, ◌+◌}
use native.Mathlib.Nat.{zero-add}
use native.Mathlib.Omega.{arith}
use mathlib.Core.Path.{◌≡◌, sym, ap, ◌∙◌}
use mathlib.Core.List.{List, ◌++◌, append-nil}
use lib.ListN.{length, length-append, drop_of_length-le}
use Rattle.bitstream.specs.Memory.{overwritten}
use Rattle.bitstream.specs.Bits.{Below}
use Rattle.text.specs.Put.{Put}
use Rattle.text.specs.Put.Laws.{put-put}
use Rattle.table_listing.specs.Order.{picked}
use Rattle.table_listing.specs.Order.Laws.{parted-perm}
use Rattle.table_listing.specs.Order.Once.{perm-length}
use Rattle.table_listing.specs.Parted.{Parted}

module _ (s : ℕ → List ℕ) (bits : (p : ℕ) → Below 2 (s p)) (d : ℕ) (ps : List ℕ) where
  pub picked-length : length (picked s d 0 ps) + length (picked s d 1 ps) + length (picked s d 2 ps) ≡ length ps
  picked-length =
      sym (ap (◌+ length (picked s d 2 ps)) (length-append (picked s d 0 ps) (picked s d 1 ps)))
      ∙ sym (length-append (picked s d 0 ps ++ picked s d 1 ps) (picked s d 2 ps))
      ∙ perm-length (parted-perm s bits d ps)

  whole : (m b : List ℕ) → length b ≡ length m → overwritten m 0 b ≡ b
  whole m b e = ap (b ++◌) (drop_of_length-le m {i = 0 + length b} (omega arith)) ∙ append-nil b

  pub parted-all : {m m₀ m₁ m₂ : List ℕ} {r₀ r₁ r₂ : ℕ} → length ps ≡ length m
      → Put m 0 (picked s d 0 ps) r₀ m₀ → Put m₀ r₀ (picked s d 1 ps) r₁ m₁ → Put m₁ r₁ (picked s d 2 ps) r₂ m₂
      → Parted s d ps (record { ends = r₀; zeros = r₁ }) m₂
  parted-all {m} e p q r =
      let all = put-put (omega arith) (put-put (omega arith) p q) r in
      record {
        ends = p.next ∙ zero-add (length (picked s d 0 ps));
        zeros = omega (arith, p.next, q.next);
        memory = all.memory ∙ whole m (picked s d 0 ps ++ picked s d 1 ps ++ picked s d 2 ps) (perm-length (parted-perm s bits d ps) ∙ e);
      }
