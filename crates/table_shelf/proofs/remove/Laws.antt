-- A removal by its refusals. Assumes nothing.
use Prim.Native.Nat.{ℕ, ◌+◌, ◌*◌, ◌≤◌}
use native.Mathlib.Omega.{arith}
use mathlib.Core.Path.{◌≡◌, ap, ◌∙◌}
use mathlib.Core.List.{List, []}
use lib.ListN.{length}
use Rattle.answer.specs.Outcome.{outcome}
use Rattle.shelf_format.specs.Shelf.{placed, filled, is_own, view}
use Rattle.shelf_format.specs.Calls.{not_changed, changed, remove_refusal, shelf_removed}
use Rattle.shelf_format.proofs.Calls.Laws.{refuses, passes, held, own-few}

module _ (s : List ℕ) (p i : ℕ) where
  abbrev number : ℕ
  number = remove_refusal s p i

  pub remove-refused : {e : ℕ} → e ≡ number → (e ≡ 0 → ⊥) → outcome (not_changed e) s ≡ shelf_removed s p i
  unfolding shelf_removed
  remove-refused is some = refuses (λ k. outcome (not_changed k) s) (changed s i (filled [])) is some

  module _ (none : number ≡ 0) where
    pub inside : 32772 * i + 32772 ≤ length s
    inside =
        let h = held (is_own p i) s (view p s i) none in
        omega (arith, h.long, own-few p i h.allowed)

    pub remove-done : {x : List ℕ} → x ≡ placed s i (filled []) → outcome (record { number = 0; place = i }) x ≡ shelf_removed s p i
    unfolding shelf_removed
    remove-done left =
        ap (λ m. outcome (record { number = 0; place = i }) m) left ∙ passes (λ k. outcome (not_changed k) s) (changed s i (filled [])) none
