-- The reader's steps beside the whole_row call: done or refused, and where. Assumes nothing.
use Rattle.std.specs.Prelude.{ℕ, ◌+◌, ◌*◌, ◌/◌, ◌≤◌, ◌<◌, refl, ◌⊎◌, List, length}
use Rattle.std.proofs.Math.Nat.{zero-add}
use Rattle.std.proofs.Common.{arith, ◌∙◌, subst}
use Rattle.std.proofs.Math.Path.{◌≡◌, sym, ap}
use Rattle.std.proofs.Math.Logic.{inl, inr, ⊎_elim}
use Rattle.bitstream.specs.Bits.{words_of, stream}
use Rattle.answer.specs.Outcome.{Outcome, lent}
use Rattle.row_format.specs.declared.RowUnpacked.{RowUnpacked}
use Rattle.row_format.specs.Lists.Laws.{by-test}
use Rattle.row_format.specs.Table.{table_number}
use Rattle.row_format.specs.Row as row
use Rattle.row_format.specs.Row.{pixel_bytes}
use Rattle.row_format.specs.Reading.{Run, done, stop, run_number, run_place, read_items, stray, without_stray, row_reading, Readable, StoppedAt}
use Rattle.row_format.proofs.Reading.Laws.{first_number-readable, lent-room, room-lent}
use Rattle.row_format.specs.Calls.{row_refused, row_wrote, row_outcome, unpacked, Accepts}
use Rattle.row_format.proofs.Theorems.Shown.{read_items-shown}
use Rattle.row_format.proofs.Theorems.Stops.{stopped-read_items}
use Rattle.row_reader.specs.declared.step.Place.{Place}
use Rattle.row_reader.specs.Step.{start_place}
use Rattle.row_reader.specs.Walk.{Walk, gave, ended, walk, Handed, RefusedWithin}
use Rattle.row_reader.specs.Walk.Laws.{At, Whole, Stops, Agrees, walk-agrees}
use Rattle.row_reader.specs.Walk.Ends.{ended-ends}

module _ (tb wb : List ℕ) (ok : table_number tb ≡ 0) where
  start : At (start_place tb) row.fresh
  start = record { is = refl; near = omega arith; height = omega arith; opened = ok }

  abbrev AgreesFromStart : ℕ → Walk → Type 0
  AgreesFromStart n w = Agrees tb wb (start_place tb) row.fresh n w

  agrees : (n : ℕ) → n ≤ 4096 → AgreesFromStart n (walk tb wb n (start_place tb))
  agrees n h = walk-agrees tb wb ok n (start_place tb) row.fresh start (omega arith)

  -- ---- from the walk to the row
  module _ (n : ℕ) (m : List ℕ) (rm : n ≤ length m / 2) (lim : n ≤ 4096) where
    passes : Readable (lent (length m)) tb n
    passes = record { table = ok; few = lim; room = lent-room (length m) n (omega arith) }

    row_is : (x : Run) → read_items (words_of tb) n (stream wb) ≡ x → unpacked tb wb n m ≡ row_outcome m (without_stray (stream wb) x)
    unfolding unpacked row_reading
    row_is x e = rw (first_number-readable (lent (length m)) tb n passes, e)

    -- where it gives n items, a row call of n with room for them gives those pixels or refuses 10
    whole_row : (ps : List ℕ) (pl : Place) → Whole tb wb (start_place tb) row.fresh n ps pl
        → (unpacked tb wb n m ≡ row_wrote pl.at (pixel_bytes ps) m) ⊎ (unpacked tb wb n m ≡ row_refused pl.at 10 m)
    whole_row ps pl w =
        let is = row_is (done w.items w.used) (unfold read_items in w.read) in
        by-test (stray w.used (stream wb)) (λ e. inr (is ∙ rw (e, w.place, zero-add w.used)))
        (λ e. inl (is ∙ rw (e, w.pixels, w.place, zero-add w.used)))

    stopped-row : (e at : ℕ) → Stops tb wb (start_place tb) row.fresh n e at
        → (unpacked tb wb n m ≡ row_refused at e m) × ((unpacked tb wb n m).answer.at ≡ at)
    stopped-row e at s =
        let read : read_items (words_of tb) n (stream wb) ≡ stop e s.fault_at s.used = unfold read_items in s.read in
        let place : at ≡ s.fault_at = s.place ∙ zero-add s.fault_at in
        let left : unpacked tb wb n m ≡ row_refused at e m = rw place (row_is (stop e s.fault_at s.used) read) in
        (left, rw (left, place) (read_items-shown (words_of tb) n (stream wb) e s.fault_at s.used read))

    -- by a walk's own answer
    pub gives : (ps : List ℕ) (pl : Place) → walk tb wb n (start_place tb) ≡ gave ps pl
        → (unpacked tb wb n m ≡ row_wrote pl.at (pixel_bytes ps) m) ⊎ (unpacked tb wb n m ≡ row_refused pl.at 10 m)
    gives ps pl e = whole_row ps pl (subst (AgreesFromStart n) e (agrees n lim))

    pub refuses : (k e i : ℕ) (pl : Place) → k ≤ 4096 → walk tb wb k (start_place tb) ≡ ended e i pl → i < n
        → (unpacked tb wb n m ≡ row_refused pl.at e m) × ((unpacked tb wb n m).answer.at ≡ pl.at)
    refuses k e i pl h w reaches = stopped-row e pl.at ((subst (AgreesFromStart k) w (agrees k h)).1 n reaches)

  -- ---- and back: where a row call of n is done, the reader gives those n items
  module _ (n : ℕ) (m : List ℕ) (a : Accepts tb wb n m) where
    within : 2 * n ≤ length m
    within = room-lent (length m) n a.reads.given.room

    -- 10 is not the number of a done call
    not-ten : (at : ℕ) → unpacked tb wb n m ≡ row_refused at 10 m → ⊥
    not-ten at e =
        let z : ◌≡◌ {A = ℕ} 0 10 = ap (λ (o : Outcome RowUnpacked). o.answer.number) (sym a.left ∙ e) in
        omega arith

    back_by : (w : Walk) → walk tb wb n (start_place tb) ≡ w → AgreesFromStart n w → Handed tb wb n m
    unfolding read_items
    back_by (gave ps pl) e x =
        let row = gives n m (omega (arith, within)) a.reads.given.few ps pl e in
        record { pixels = ps; place = pl; walked = e; row = ⊎_elim (λ h. h) (λ h. absurd (not-ten pl.at h)) row }
    back_by (ended k i pl) e x =
        let stopped = (x.1 n x.0).read in
        absurd (let z : ◌≡◌ {A = ℕ} 0 1 = cc (stopped, a.reads.read) in omega arith)

    pub hands : Handed tb wb n m
    hands = back_by (walk tb wb n (start_place tb)) refl (agrees n a.reads.given.few)

  -- where a row call of n is refused at an item, the reader gives those before it, and is refused there
  module _ (n : ℕ) (m : List ℕ) (e at : ℕ) (got : StoppedAt (lent (length m)) tb n wb e at) where
    row_read : read_items (words_of tb) n (stream wb) ≡ stop e at (at + got.used)
    row_read = stopped-read_items (lent (length m)) tb n wb e at got

    refused-by : (w : Walk) → walk tb wb n (start_place tb) ≡ w → AgreesFromStart n w → RefusedWithin tb wb n e at
    unfolding read_items
    refused-by (gave ps pl) w x = absurd (let z : ◌≡◌ {A = ℕ} 0 1 = cc (x.read, row_read) in omega arith)
    refused-by (ended k i pl) w x =
        let ends = ended-ends tb wb n (start_place tb) k i pl w in
        let stops = x.1 n x.0 in
        let same = sym stops.read ∙ row_read in
        let number : k ≡ e = ap run_number same in
        record {
          items = i;
          fewer = x.0;
          pixels = ends.pixels;
          place = pl;
          walked = ends.walked;
          refused = rw (← number) ends.refused;
          there = stops.place ∙ zero-add stops.fault_at ∙ ap run_place same;
        }

    pub refused-within : RefusedWithin tb wb n e at
    refused-within = refused-by (walk tb wb n (start_place tb)) refl (agrees n got.given.few)
