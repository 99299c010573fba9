-- `map_text::counts::keep_last` meets its contract. Assumes nothing.
use Prim.Native.Nat.{ℕ}
use mathlib.Core.Path.{◌≡◌, refl}
use mathlib.Core.List.{[], append-nil}
use Rattle.map_text.specs.declared.scan.Scan.{Scan}
use Rattle.map_text.specs.declared.scan.Scan.TheVariants.{Line, Gap, Count, D, Do, Don, Ended, Fault}
use Rattle.map_text.specs.Scan.{last_counts}
use Rattle.map_text.proofs.counts.keep_last.Goals as goal

no-count : (scan : Scan) → ((v : ℕ) → scan ≡ Count v → ⊥) → last_counts scan ≡ []
unfolding last_counts
no-count Line h = refl
no-count Gap h = refl
no-count (Count v) h = absurd (h v refl)
no-count D h = refl
no-count Do h = refl
no-count Don h = refl
no-count Ended h = refl
no-count Fault h = refl

pub returns-in_default : goal.returns-in_default
returns-in_default c = λ xs held. rw (no-count c.args.scan c.in_default.not-Count, append-nil xs) held

pub returns : goal.returns
unfolding last_counts
returns c = λ xs held. rw c.in-Count.is (c.keep.ensures xs held)
