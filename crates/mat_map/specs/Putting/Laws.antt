-- The laws of putting bits: nothing is put yet, some more are, all are. Assumes nothing.
use Rattle.std.specs.Prelude.{ℕ, ◌+◌, ◌<◌, ◌≡◌, refl, List, [], ◌++◌, length}
use Rattle.std.proofs.Common.{arith, sym, ap, ◌∙◌, append_assoc, append-nil, length-append}
use Rattle.bitstream.specs.Msb.{msb_digits}
use Rattle.bitstream.specs.Msb.Laws.{length-msb_digits}
use Rattle.bitstream.specs.MsbWriter.{MsbGood, MsbReady, MsbPut, msb_held}
use Rattle.bitstream.specs.declared.msb_writer.MsbWriter.{MsbWriter}
use Rattle.mat_map.specs.Putting.{Room, Puts, Putting}

pub putting-none : (o : List ℕ) (w : MsbWriter) (b : List ℕ) → MsbGood w → Putting o w b o w b
putting-none o w b good = record { whole = refl; good = good; size = refl; kept = refl }

module _ {o : List ℕ} {w : MsbWriter} {b o' : List ℕ} {w' : MsbWriter} where
  -- of what is left the bits a are next
  module _ (a rest : List ℕ) {left : List ℕ} (e : left ≡ a ++ rest) (p : Putting o w b o' w' left) where
    long : length left ≡ length a + length rest
    long = ap length e ∙ length-append a rest

    pub putting-room : Room o w b → Room o' w' a
    putting-room room = record { good = p.good; fits = omega (arith, long, p.size, p.kept, room.fits) }

    pub putting-more : {o'' : List ℕ} {w'' : MsbWriter} → Puts o' w' a o'' w'' → length o'' ≡ length o' → Putting o w b o'' w'' rest
    putting-more {o''} {w''} q same =
        record {
          whole = ap (◌++ rest) q.bits ∙ append_assoc (msb_held o' w') a rest ∙ ap (msb_held o' w' ++◌) (sym e) ∙ p.whole;
          good = q.good;
          size = omega (arith, long, p.size, q.size);
          kept = same ∙ p.kept;
        }

  -- nothing is left
  pub putting-all : {left : List ℕ} → left ≡ [] → Putting o w b o' w' left → Puts o w b o' w'
  putting-all {left} e p =
      record {
        bits = sym (append-nil (msb_held o' w')) ∙ ap (msb_held o' w' ++◌) (sym e) ∙ p.whole;
        good = p.good;
        size = omega (arith, p.size, ap length e);
      }

-- ---- a field
module _ {o : List ℕ} {w : MsbWriter} {b : List ℕ} (n v : ℕ) (e : b ≡ msb_digits n v) where
  pub room-ready : n < 32 → Room o w b → MsbReady o w n
  room-ready most room =
      record { good = room.good; most = most; fits = omega (arith, ap length e ∙ length-msb_digits n v, room.fits) }

  pub puts-field : {o' : List ℕ} {w' : MsbWriter} → MsbPut o w v n o' w' → Puts o w b o' w'
  puts-field {o'} {w'} p =
      record {
        bits = p.bits ∙ ap (msb_held o w ++◌) (sym e);
        good = p.good;
        size = omega (arith, ap length e ∙ length-msb_digits n v, p.size);
      }

-- ---- the bits in two parts, one put after the other
module _ {o : List ℕ} {w : MsbWriter} {b : List ℕ} (a rest : List ℕ) (e : b ≡ a ++ rest) (room : Room o w b) where
  begun : Putting o w b o w b
  begun = putting-none o w b room.good

  pub first-room : Room o w a
  first-room = putting-room a rest e begun room

  module _ {o' : List ℕ} {w' : MsbWriter} (p : Puts o w a o' w') (kept : length o' ≡ length o) where
    after_first : Putting o w b o' w' rest
    after_first = putting-more a rest e begun p kept

    pub second-room : Room o' w' rest
    second-room = putting-room rest [] (sym (append-nil rest)) after_first room

    pub both-put : {o'' : List ℕ} {w'' : MsbWriter} → Puts o' w' rest o'' w'' → length o'' ≡ length o' → Puts o w b o'' w''
    both-put q same = putting-all refl (putting-more rest [] (sym (append-nil rest)) after_first q same)
