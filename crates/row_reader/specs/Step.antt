-- Document 01, end of "A row": a reader that "keeps the lent words and its bit place between pixels and gives one item, with its
-- pixel, a call". Assumes nothing.
use Rattle.std.specs.Prelude.{ℕ, ◌+◌, ◌*◌, Bool, cond, not, ◌&&◌, ◌||◌, List, drop, ltb, Result, Ok, Err}
use Rattle.bitstream.specs.Bits.{words_of, stream}
use Rattle.answer.specs.declared.refusal.Refusal.{Refusal}
use Rattle.answer.specs.Refusal.{refusal_number}
use Rattle.answer.specs.Outcome.{◌or_else◌, refuse_if, unless}
use Rattle.row_format.specs.Table.{table_number}
use Rattle.row_format.specs.Row as row
use Rattle.row_format.specs.Reading.{Reading, item, fault, read_item}
use Rattle.row_item.specs.declared.Item.{Item}
use Rattle.row_item.specs.declared.Item.TheVariants.{Escape}
use Rattle.row_item.specs.declared.Progress.{Progress}
use Rattle.row_item.specs.Coded.{coded, progress, row_state}
use Rattle.row_reader.specs.declared.step.Place.{Place}
use Rattle.row_reader.specs.declared.step.GivenItem.{GivenItem}
pub mod Laws

-- ---- a reader's place
-- before its first item: "Opening it refuses 1, 2, 3"
abbrev pub start_place : List ℕ → Place
start_place tb = record { at = 0; count = 0; progress = progress row.fresh; opening = table_number tb }

-- more items than a row has: "at most 4096 a row"
abbrev many_given : Place → Bool
many_given pl = ltb 4096 pl.count

-- more bits than so many items use: each has at most 27, the longest string's, and a raw one at most 15 and 12
abbrev far_on : Place → Bool
far_on pl = ltb (27 * pl.count) pl.at

-- what is previous is no height: one is 0 to 4093
abbrev no_height : Progress → Bool
no_height p = ltb 4093 p.previous

-- no pixel has become previous, and yet it is not 0: "previous being 0 at the row's start"
abbrev unbegun : Progress → Bool
unbegun p = not p.begun && ltb 0 p.previous

-- a field of this place is none that a reading has; any other place is read as it stands
unfoldable pub impossible : Place → Bool
impossible pl = many_given pl || (far_on pl || (no_height pl.progress || unbegun pl.progress))

-- what was answered at the opening, every later call answers too; no opening comes to a number above 3
abbrev pub opening_number : ℕ → ℕ
opening_number o = cond (ltb 3 o) 11 o

-- what refuses before an item is read: opening's number; an impossible place; "after 4096 items it answers 11"
unfoldable pub place_number : Place → ℕ
place_number pl = opening_number pl.opening or_else refuse_if (impossible pl) 11 or_else row.too_many (pl.count + 1)

-- ---- a step
-- what a step comes to: document 01's number; where it is 0 the item, its pixel and the place after it. A refusal has the place as
-- it was, the pixel 0 and an item that stands for nothing
pub record ItemRead : Type 0 where
  pub number : ℕ
  pub item : Item
  pub pixel : ℕ
  pub place : Place

-- "A refusal moves nothing"
abbrev pub refused_at : ℕ → Place → ItemRead
refused_at e pl = record { number = e; item = Escape 0; pixel = 0; place = pl }

-- what the code answers at a place
abbrev pub as_read : Place → Result GivenItem Refusal → ItemRead
as_read pl (Ok g) = record { number = 0; item = g.item; pixel = g.pixel; place = g.place }
as_read pl (Err e) = refused_at (refusal_number e) pl

-- the place after an item i of u bits
abbrev pub place_after : Place → row.State → row.Item → ℕ → Place
place_after pl s i u =
    record { at = pl.at + u; count = pl.count + 1; progress = progress (row.after s i); opening = pl.opening }

-- what a reading at a place gives: the item, its pixel, and the place after it
abbrev pub given : Place → row.State → Reading → ItemRead
given pl s (item i u) = record { number = 0; item = coded i; pixel = row.pixel_of s i; place = place_after pl s i u }
given pl s (fault e u) = refused_at e pl

-- the reading at a place
abbrev pub reading_at : List ℕ → List ℕ → Place → Reading
reading_at tb wb pl = read_item (words_of tb) (row_state pl.progress) (drop pl.at (stream wb))

unfoldable pub item_read : List ℕ → List ℕ → Place → ItemRead
item_read tb wb pl =
    unless (place_number pl) (λ e. refused_at e pl) (given pl (row_state pl.progress) (reading_at tb wb pl))
