-- Demand 1 on a shelf: what a refused call leaves, and what a done one changes. Assumes nothing.
use Rattle.std.specs.Prelude.{ℕ, suc, ◌+◌, ◌*◌, ◌≤◌, ◌≡◌, List, [], ◌∷◌, ◌++◌, length}
use Rattle.std.proofs.Common.{arith, sym, ◌∙◌}
use Rattle.std.proofs.Math.Path.{refl, ap}
use Rattle.std.proofs.Math.ListN.{replicate}
use Rattle.answer.specs.declared.Answer.{Answer}
use Rattle.answer.specs.Outcome.{Outcome, outcome, answer_of, refusal, refused, wrote, ◌or_else◌, unless, Kept, Within}
use Rattle.answer.specs.Outcome.Laws.{unless-in, unless-kept, unless-part, unless-number, less_number-zero, or_else-zero-left, or_else-zero-right, writes-within}
use Rattle.bitstream.specs.Bits.{words_for}
use Rattle.row_format.specs.declared.RowUnpacked.{RowUnpacked}
use Rattle.row_format.specs.Calls.{packed, row_refusal, unpacked}
use Rattle.row_format.specs.Place.Laws.{place_shown-zero}
use Rattle.row_format.proofs.Theorems.{packed-refused-keeps, unpacked-refused-keeps, packed-writes-words, unpacked-writes-pixels}
use Rattle.shelf_format.specs.declared.PlaceChanged.{PlaceChanged}
use Rattle.shelf_format.specs.Shelf.{shelf_bytes, filled, table_in, is_own, view}
use Rattle.shelf_format.proofs.Shelf.Laws.{own, own-inside, length-filled, table-bytes, length-placed, place_same, before-placed, behind-placed}
use Rattle.shelf_format.specs.Calls.{short_number, tables_number, shelved, shelf_opened, not_changed, changed, PlaceWritten, first_free, put_place, put_refusal, shelf_put, remove_refusal, shelf_removed, use_refusal, shelf_packed, shelf_unpacked}
use Rattle.shelf_format.proofs.Calls.Laws.{put-granted, held, first-own, short_none, length-opened}

-- ---- the numbers that refuse
pub put-number : (s : List ℕ) (p : ℕ) (tb : List ℕ) → (shelf_put s p tb).answer.number ≡ put_refusal s p tb
unfolding shelf_put
put-number s p tb =
    unless-number (λ (o : Outcome PlaceChanged). o.answer.number) (λ e. outcome (not_changed e) s)
    (changed s (put_place (view p s) p) (filled tb)) (λ k. refl) (put_refusal s p tb) refl

pub remove-number : (s : List ℕ) (p i : ℕ) → (shelf_removed s p i).answer.number ≡ remove_refusal s p i
unfolding shelf_removed
remove-number s p i =
    unless-number (λ (o : Outcome PlaceChanged). o.answer.number) (λ e. outcome (not_changed e) s) (changed s i (filled []))
    (λ k. refl) (remove_refusal s p i) refl

module _ (t0 t1 t2 t3 s : List ℕ) where
  abbrev tables : List (List ℕ)
  tables = t0 ∷ t1 ∷ t2 ∷ t3 ∷ []

  pub open-number : (shelf_opened t0 t1 t2 t3 s).answer.number ≡ (tables_number tables or_else short_number s)
  unfolding shelf_opened
  open-number =
      unless-number (λ (o : Outcome Answer). o.answer.number) (λ e. refused e s)
      (wrote shelf_bytes (shelved (tables ++ replicate 8 [])) s) (λ k. refl) (tables_number tables or_else short_number s) refl

-- what an opening answers does not depend on what the shelf held
open-answer : (t0 t1 t2 t3 s : List ℕ)
    → (shelf_opened t0 t1 t2 t3 s).answer
    ≡ unless (tables_number (t0 ∷ t1 ∷ t2 ∷ t3 ∷ []) or_else short_number s) refusal (answer_of 0 shelf_bytes)
unfolding shelf_opened
open-answer t0 t1 t2 t3 s =
    unless-part (λ (o : Outcome Answer). o.answer) (tables_number (t0 ∷ t1 ∷ t2 ∷ t3 ∷ []) or_else short_number s) (λ e. refused e s)
    (wrote shelf_bytes (shelved ((t0 ∷ t1 ∷ t2 ∷ t3 ∷ []) ++ replicate 8 [])) s)

pub open-alike : (t0 t1 t2 t3 s s' : List ℕ) → shelf_bytes ≤ length s → shelf_bytes ≤ length s'
    → (shelf_opened t0 t1 t2 t3 s).answer ≡ (shelf_opened t0 t1 t2 t3 s').answer
open-alike t0 t1 t2 t3 s s' long long' =
    open-answer t0 t1 t2 t3 s
    ∙ ap (λ (e : ℕ). unless (tables_number (t0 ∷ t1 ∷ t2 ∷ t3 ∷ []) or_else e) refusal (answer_of 0 shelf_bytes))
    (short_none s long ∙ sym (short_none s' long'))
    ∙ sym (open-answer t0 t1 t2 t3 s')

-- ---- refused
pub put-kept : (s : List ℕ) (p : ℕ) (tb : List ℕ) → ((shelf_put s p tb).answer.number ≡ 0 → ⊥)
    → Kept (not_changed (shelf_put s p tb).answer.number) s (shelf_put s p tb)
unfolding shelf_put
put-kept s p tb =
    unless-kept not_changed s (changed s (put_place (view p s) p) (filled tb)) (λ (a : PlaceChanged). a.number) (λ k. refl)
    (put_refusal s p tb) (λ some. absurd (some refl))

pub remove-kept : (s : List ℕ) (p i : ℕ) → ((shelf_removed s p i).answer.number ≡ 0 → ⊥)
    → Kept (not_changed (shelf_removed s p i).answer.number) s (shelf_removed s p i)
unfolding shelf_removed
remove-kept s p i =
    unless-kept not_changed s (changed s i (filled [])) (λ (a : PlaceChanged). a.number) (λ k. refl)
    (remove_refusal s p i) (λ some. absurd (some refl))

pub open_kept : (t0 t1 t2 t3 s : List ℕ) → ((shelf_opened t0 t1 t2 t3 s).answer.number ≡ 0 → ⊥)
    → Kept (refusal (shelf_opened t0 t1 t2 t3 s).answer.number) s (shelf_opened t0 t1 t2 t3 s)
unfolding shelf_opened
open_kept t0 t1 t2 t3 s =
    unless-kept refusal s (wrote shelf_bytes (shelved (tables t0 t1 t2 t3 s ++ replicate 8 [])) s) (λ (a : Answer). a.number) (λ k. refl)
    (tables_number (tables t0 t1 t2 t3 s) or_else short_number s) (λ some. absurd (some refl))

-- ---- done: one place, written whole
wrote-place : (s : List ℕ) (i : ℕ) (b : List ℕ) → length b ≡ 32772 → 32772 * i + 32772 ≤ length s → PlaceWritten i b s (changed s i b)
wrote-place s i b whole inside = record {
  answer = refl;
  only = record {
    size = length-placed s i b whole inside;
    before = before-placed s i b whole inside;
    behind = behind-placed s i b whole inside;
  };
  here = place_same s i b whole inside;
}

pub put-wrote : (s : List ℕ) (p : ℕ) (tb : List ℕ) → (shelf_put s p tb).answer.number ≡ 0
    → PlaceWritten (put_place (view p s) p) (filled tb) s (shelf_put s p tb)
unfolding shelf_put
put-wrote s p tb done =
    let none = sym (put-number s p tb) ∙ done in
    let ok = put-granted s p tb none in
    let o = first-own p (first_free (view p s) p) ok.party ok.few in
    let j = put_place (view p s) p in
    rw none (wrote-place s j (filled tb) (length-filled tb (table-bytes tb ok.table).most) (own-inside p j s o ok.long))

pub remove-wrote : (s : List ℕ) (p i : ℕ) → (shelf_removed s p i).answer.number ≡ 0 → PlaceWritten i (filled []) s (shelf_removed s p i)
unfolding shelf_removed
remove-wrote s p i done =
    let none = sym (remove-number s p i) ∙ done in
    let h = held (is_own p i) s (view p s i) none in
    rw none (wrote-place s i (filled []) (length-filled [] (omega arith)) (own-inside p i s (own p i h.allowed) h.long))

-- ---- done or refused: the twelve places and nothing else
pub open-within : (t0 t1 t2 t3 s : List ℕ) → Within shelf_bytes s (shelf_opened t0 t1 t2 t3 s)
unfolding shelf_opened
open-within t0 t1 t2 t3 s =
    let b = shelved (tables t0 t1 t2 t3 s ++ replicate 8 []) in
    let number = tables_number (tables t0 t1 t2 t3 s) in
    unless-in (Within shelf_bytes s) (number or_else short_number s) (λ e. refused e s) (wrote shelf_bytes b s)
    (λ k e. record { size = refl; rest = refl })
    (λ none. writes-within (answer_of 0 shelf_bytes) shelf_bytes b s (length-opened t0 t1 t2 t3 (or_else-zero-left number (short_number s) none))
    (less_number-zero (length s) shelf_bytes 4 (or_else-zero-right number (short_number s) none)))

-- ---- uses: the words or pixels of the row's own call, and the shelf is lent for reading only
module _ (s : List ℕ) (p i : ℕ) where
  pub pack-kept : (pb m : List ℕ) → ((shelf_packed s p i pb m).answer.number ≡ 0 → ⊥)
      → Kept (refusal (shelf_packed s p i pb m).answer.number) m (shelf_packed s p i pb m)
  unfolding shelf_packed
  pack-kept pb m =
      unless-kept refusal m (packed (table_in (view p s i)) pb m) (λ (a : Answer). a.number) (λ k. refl)
      (use_refusal s p i) (packed-refused-keeps (table_in (view p s i)) pb m)

  pub pack-within : (pb m : List ℕ) → Within (4 * words_for (shelf_packed s p i pb m).answer.count) m (shelf_packed s p i pb m)
  unfolding shelf_packed
  pack-within pb m =
      unless-in (λ (o : Outcome Answer). Within (4 * words_for o.answer.count) m o) (use_refusal s p i)
      (λ e. refused e m) (packed (table_in (view p s i)) pb m) (λ k e. record { size = refl; rest = refl })
      (λ none. packed-writes-words (table_in (view p s i)) pb m)

  pub unpack-kept : (wb : List ℕ) (n : ℕ) (m : List ℕ) → ((shelf_unpacked s p i wb n m).answer.number ≡ 0 → ⊥)
      → let a = (shelf_unpacked s p i wb n m).answer in
      Kept (row_refusal a.at a.number) m (shelf_unpacked s p i wb n m)
  unfolding shelf_unpacked
  unpack-kept wb n m =
      unless-in (λ (o : Outcome RowUnpacked). (o.answer.number ≡ 0 → ⊥) → Kept (row_refusal o.answer.at o.answer.number) m o)
      (use_refusal s p i) (λ e. outcome (row_refusal 0 e) m) (unpacked (table_in (view p s i)) wb n m)
      (λ k e some. record {
        answer = ap (λ (at : ℕ). row_refusal at (suc k)) (sym (place_shown-zero (suc k)));
        memory = refl;
      })
      (λ none. unpacked-refused-keeps (table_in (view p s i)) wb n m)

  pub unpack-within : (wb : List ℕ) (n : ℕ) (m : List ℕ) → Within (2 * n) m (shelf_unpacked s p i wb n m)
  unfolding shelf_unpacked
  unpack-within wb n m =
      unless-in (λ (o : Outcome RowUnpacked). Within (2 * n) m o) (use_refusal s p i)
      (λ e. outcome (row_refusal 0 e) m) (unpacked (table_in (view p s i)) wb n m) (λ k e. record { size = refl; rest = refl })
      (λ none. unpacked-writes-pixels (table_in (view p s i)) wb n m)
