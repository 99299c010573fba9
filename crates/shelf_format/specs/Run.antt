-- Document 02's ticket 6: runs of calls on one shelf, by any parties, and what one party gets in them. Definitions only. Assumes
-- nothing.
use Rattle.std.specs.Prelude.{ℕ, Bool, false, cond, ◌||◌, List, [], ◌∷◌, eqb}
use Rattle.answer.specs.declared.Answer.{Answer}
use Rattle.answer.specs.Outcome.{Outcome}
use Rattle.row_format.specs.declared.RowUnpacked.{RowUnpacked}
use Rattle.shelf_format.specs.declared.PlaceChanged.{PlaceChanged}
use Rattle.shelf_format.specs.Calls.{tables_number, shelf_opened, shelf_put, shelf_removed, shelf_packed, shelf_unpacked, shelf_room}

-- ---- a call of a party, with any arguments: a table; a place; place, pixels and lent memory; place, words, count and lent memory;
-- place and count
pub data Call : Type 0 where
  put : List ℕ → Call
  remove : ℕ → Call
  pack : ℕ → List ℕ → List ℕ → Call
  unpack : ℕ → List ℕ → ℕ → List ℕ → Call
  room : ℕ → ℕ → Call

-- what the party gets: the answer, and its lent memory as the call leaves it
pub data Reply : Type 0 where
  changing : PlaceChanged → Reply
  packing : Outcome Answer → Reply
  unpacking : Outcome RowUnpacked → Reply
  asking : Answer → Reply

unfoldable pub reply : List ℕ → ℕ → Call → Reply
reply s p (put tb) = changing (shelf_put s p tb).answer
reply s p (remove i) = changing (shelf_removed s p i).answer
reply s p (pack i pb m) = packing (shelf_packed s p i pb m)
reply s p (unpack i wb n m) = unpacking (shelf_unpacked s p i wb n m)
reply s p (room i n) = asking (shelf_room s p i n)

-- the shelf after it: a use is lent the shelf for reading only
unfoldable pub after_call : List ℕ → ℕ → Call → List ℕ
after_call s p (put tb) = (shelf_put s p tb).memory
after_call s p (remove i) = (shelf_removed s p i).memory
after_call s p (pack i pb m) = s
after_call s p (unpack i wb n m) = s
after_call s p (room i n) = s

-- ---- a run: calls of parties, and openings, one after another
pub data Turn : Type 0 where
  by : ℕ → Call → Turn
  opens : List ℕ → List ℕ → List ℕ → List ℕ → Turn

unfoldable pub shelf_after : List ℕ → List Turn → List ℕ
shelf_after s [] = s
shelf_after s (by q c ∷ ts) = shelf_after (after_call s q c) ts
shelf_after s (opens t0 t1 t2 t3 ∷ ts) = shelf_after (shelf_opened t0 t1 t2 t3 s).memory ts

-- what party p gets in it, call for call
unfoldable pub replies_to : ℕ → List ℕ → List Turn → List Reply
replies_to p s [] = []
replies_to p s (by q c ∷ ts) = cond (eqb q p) (reply s q c ∷ replies_to p (after_call s q c) ts) (replies_to p (after_call s q c) ts)
replies_to p s (opens t0 t1 t2 t3 ∷ ts) = replies_to p (shelf_opened t0 t1 t2 t3 s).memory ts

-- the calls of p in it
unfoldable pub calls_of : ℕ → List Turn → List Call
calls_of p [] = []
calls_of p (by q c ∷ ts) = cond (eqb q p) (c ∷ calls_of p ts) (calls_of p ts)
calls_of p (opens t0 t1 t2 t3 ∷ ts) = calls_of p ts

-- "Opening the shelf anew ends the comparison": whether some opening is done. On a shelf that is long enough those are the openings
-- with four good tables; any other is refused and ends nothing
unfoldable pub opened_in : List Turn → Bool
opened_in [] = false
opened_in (by q c ∷ ts) = opened_in ts
opened_in (opens t0 t1 t2 t3 ∷ ts) = eqb (tables_number (t0 ∷ t1 ∷ t2 ∷ t3 ∷ [])) 0 || opened_in ts

-- ---- what p gets where it makes the calls alone
unfoldable pub replies_alone : ℕ → List ℕ → List Call → List Reply
replies_alone p s [] = []
replies_alone p s (c ∷ cs) = reply s p c ∷ replies_alone p (after_call s p c) cs
