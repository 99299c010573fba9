-- The laws of one pixel of a row. Assumes nothing.
use Prim.Native.Nat.{ℕ, ◌≤◌}
use native.Mathlib.Omega.{arith}
use mathlib.Core.Path.{◌≡◌, sym, ap, ◌∙◌, subst}
use mathlib.Core.List.{List}
use Rattle.row_format.specs.Row as row
use Rattle.row_format.specs.Row.{State, previous, item_for, item_bits, after}
use Rattle.row_format.proofs.Theorems.Items.{Right, item_for-right, after-height}
use Rattle.row_item.specs.declared.Item.{Item}
use Rattle.row_item.specs.declared.Progress.{Progress}
use Rattle.row_item.specs.Coded.{progress, coded, Followed, row_state}
use Rattle.row_item.specs.Coded.Laws.{row_state-progress}
use Rattle.row_packer.specs.Header.{HeaderOf}
use Rattle.row_packer.specs.Item.{Chosen}
use Rattle.row_packer.proofs.item.Laws.{previous-progress}
use Rattle.row_packer.specs.Field.{Holds, plain, Codable}
use Rattle.row_packer.proofs.field.Laws.{plain-coded, codable}
use Rattle.row_packer.specs.Encode.{Sound, Encodes}
use Rattle.row_packer.specs.declared.header.Header.{Header}
use Rattle.row_packer.specs.declared.field.Field.{Field}

pub sound-progress : {p : Progress} (s : State) → p ≡ progress s → previous s ≤ 4093 → Sound p
sound-progress s e h = rw e (record { is = ap progress (sym (row_state-progress s)); height = rw (previous-progress s) h })

sound-height : {p : Progress} → Sound p → previous (row_state p) ≤ 4093
sound-height {p} h = omega (arith, h.height, ap (λ (x : Progress). x.previous) h.is, previous-progress (row_state p))

-- ---- one pixel
module _
    {t : List ℕ} {h : Header} {p : Progress} {pixel : ℕ} {i : Item} (hd : HeaderOf t h)
    (sound : Sound p) (most : pixel ≤ 4095) (chosen : Chosen h p pixel i) where
  abbrev item : row.Item
  item = item_for t (row_state p) pixel

  item-is : i ≡ coded item
  item-is = chosen.item t (row_state p) hd sound.is

  right : Right t (row_state p) pixel item
  right = item_for-right t (row_state p) pixel (sound-height sound) most

  pub chosen-codable : Codable t i
  chosen-codable = codable t (row_state p) item item-is right.fits

  pub encodes : {f : Field} {r : Progress} → Holds (item_bits t (plain i)) f → Followed p i pixel r
      → Encodes t p pixel (record { field = f; next = r })
  encodes {f} holds followed =
      let next = followed.next (row_state p) item sound.is item-is (sym right.pixel) in
      record {
        bits = subst (λ (j : row.Item). Holds (item_bits t j) f) (ap plain item-is ∙ plain-coded item) holds;
        next = ap row_state next ∙ row_state-progress (after (row_state p) item);
        sound = sound-progress (after (row_state p) item) next (after-height t (row_state p) item (sound-height sound) right.fits);
      }
