-- What is known of a sheet's rows while it is read: at the start, behind each record and at the end; and row n, once it is known.
-- Assumes nothing.
use Rattle.std.specs.Prelude.{ℕ, ◌+◌, ◌-◌, ◌*◌, ◌≤◌, ◌<◌, ◌≡◌, refl, Bool, true, false, List, [], ◌++◌, take, eqb}
use Rattle.std.proofs.Math.Decide.{dec_lt}
use Rattle.std.proofs.Common.{arith, ap, ◌∙◌, append_assoc, ne_eqb, eqb-true, le-ltb, lt-ltb, ltb-true, ltb-false}
use Rattle.std.proofs.Math.Logic.{by_cases}
use Rattle.std.proofs.lemmas.Bool.{eqb-false}
use Rattle.bitstream.specs.Bits.{halves_of}
use Rattle.row_format.specs.Lists.Laws.{by-test, true-false}
use Rattle.sheet_format.specs.Kind.{Payload, a_table, a_row, a_line, no_payload, is_row}
use Rattle.sheet_format.specs.Sheet.{SheetRead, stored_rows, absent, present, heights_of}
use Rattle.sheet_format.specs.Stream.{holds_of, Carried, Carries}
use Rattle.sheet_format.proofs.Stream.Settled.{heights-none}
use Rattle.sheet_format.proofs.Stream.Taken.{carries-none, carries-ended}
use Rattle.sheet_stream.specs.declared.progress.SheetProgress.{SheetProgress}
use Rattle.sheet_stream.specs.declared.step.SheetStep.{SheetStep}
use Rattle.sheet_stream.specs.Progress.{carried_by}
use Rattle.sheet_stream.specs.Progress.Laws.{progress_first}
use Rattle.sheet_stream.specs.Step.{StepMade}
use Rattle.sheet_stream.specs.Step.Laws.{step-ended, step-carries}
use Rattle.sheet_stream.specs.Step.Rows.{rowless-next, row_next, row_count, row-there, gap-absent}
use Rattle.sheet_picture.specs.View.{heights_by}
use Rattle.draw_sheet.specs.declared.advance.Ahead.{Ahead}
use Rattle.draw_sheet.specs.Ahead.{rows_in, height_bytes, least_in, is_known, BeginsSheet, MayBe, SheetOver}
use Rattle.draw_sheet.specs.Ahead.{HeldLast, HeldBy, ReadTo, Onward}

-- ---- the bytes of a row's heights
pub height-row : (s : Payload) (k : ℕ) → is_row s ≡ true → height_bytes s k ≡ 2 * k
height-row a_table k is = true-false is refl
height-row a_row k is = refl
height-row a_line k is = true-false is refl
height-row no_payload k is = true-false is refl

pub height-rowless : (s : Payload) (k : ℕ) → is_row s ≡ false → height_bytes s k ≡ 0
height-rowless a_table k other = refl
height-rowless a_row k other = true-false refl other
height-rowless a_line k other = refl
height-rowless no_payload k other = refl

-- at most 4096 heights
pub heights-few : {b : List ℕ} {p : SheetProgress} {table : List ℕ} {s : SheetStep} {table' content' : List ℕ}
    → StepMade b p table s table' content' → s.last ≡ false → height_bytes (holds_of s.read) s.read.count ≤ 8192
heights-few {s = s} step on =
    by-test (is_row (holds_of s.read))
    (λ is. rw (height-row (holds_of s.read) s.read.count is) (omega (arith, row_count step on is)))
    (λ other. rw (height-rowless (holds_of s.read) s.read.count other) (omega arith))

-- ---- what may be the sheet
begins : (e : Bool) (t l s : List ℕ) → MayBe e t l s → BeginsSheet t s
begins false t l s h = h
begins true t l s h = record { rest = l; is = h }

begins-more : (t b : List ℕ) {s : List ℕ} → BeginsSheet (t ++ b) s → BeginsSheet t s
begins-more t b h = record { rest = b ++ h.rest; is = h.is ∙ append_assoc t b h.rest }

-- of one that is over, no row from the least number on is there
over_none : {t : List ℕ} {p : Carried} {e : List ℕ} → Carries t p → SheetOver p e → (n : ℕ) → p.state.least_row ≤ n
    → heights_of n (rows_in (t ++ e)) ≡ absent
over_none {e = e} at over n least =
    ap (λ (x : SheetRead). heights_of n (stored_rows x.records)) (carries-ended at e over.ends) ∙ heights-none at n least

-- ---- row n, once it is known
open-known : (a : Ahead) (n : ℕ) → is_known a n ≡ true → least_in a ≤ n → a.ended ≡ true
open-known a n known least =
    by-test a.ended (λ e. e) (λ e. true-false (rw e at known) (le-ltb n (least_in a) least))

-- where a later row is known, row n is
known-before : (a : Ahead) {n m : ℕ} → n ≤ m → is_known a m ≡ true → is_known a n ≡ true
known-before a {n} {m} later known =
    by-test a.ended (λ e. rw e) (λ e.
    let less : m < least_in a = ltb-true m (least_in a) (rw e at known) in
    rw e (lt-ltb n (least_in a) (omega arith)))

-- where row n could still come, a later one could
held-later : {held : List ℕ} {n m : ℕ} {end : Bool} {t e : List ℕ} → n ≤ m → HeldBy held n end t e → HeldBy held m end t e
held-later later h =
    record {
      before = h.before;
      carried = h.carried;
      carries = h.carries;
      whole = h.whole;
      later = omega (arith, h.later);
      last = h.last;
    }

module _ {a : Ahead} {bytes table content : List ℕ} {n : ℕ} (w : ReadTo a bytes table content n) where
  below : n < least_in a → (rest : List ℕ)
      → heights_of n (rows_in (w.taken ++ rest)) ≡ heights_by (eqb (least_in a) (n + 1)) (halves_of (take a.count content))
  below less rest =
      by-test (eqb (least_in a) (n + 1))
      (λ e. let last : least_in a - 1 ≡ n = omega (arith, eqb-true (least_in a) (n + 1) e) in rw e (rw last at (w.row less rest)))
      (λ e. let other = eqb-false (least_in a) (n + 1) e in rw e (w.between n (omega arith) (below_next other) rest))
    where
      below_next : (least_in a ≡ n + 1 → ⊥) → n + 1 < least_in a
      below_next other = by_cases (dec_lt (n + 1) (least_in a)) (λ h. h) (λ h. absurd (other (omega arith)))

  pub row-known : is_known a n ≡ true → (s : List ℕ) → MayBe a.ended w.taken w.last s
      → heights_of n (rows_in s) ≡ heights_by (eqb (least_in a) (n + 1)) (halves_of (take a.count content))
  row-known known s may =
      by_cases (dec_lt n (least_in a))
      (λ less. let start = begins a.ended w.taken w.last s may in rw start.is (below less start.rest))
      (λ h.
      let least : least_in a ≤ n = omega arith in
      let ended = open-known a n known least in
      let is : s ≡ w.taken ++ w.last = rw ended at may in
      rw (is, ne_eqb (least_in a) (n + 1) (λ e. omega arith)) (over_none w.carries (w.over ended) n least))

  -- ---- later rows
  pub onward-later : {m : ℕ} → n ≤ m → Onward w a bytes table content m
  onward-later later =
      record {
        now = record {
          taken = w.taken;
          last = w.last;
          carries = w.carries;
          over = w.over;
          row = λ less rest. w.row (omega arith) rest;
          between = λ k least less rest. w.between k (omega arith) less rest;
          known = λ k. held-later later (w.known (known-before a later k));
        };
        narrows = λ s h. h;
      }

  -- ---- reading on
  pub onward-none : Onward w a bytes table content n
  onward-none = record { now = w; narrows = λ s h. h }

  pub onward-more : {a' a'' : Ahead} {bytes' table' content' bytes'' table'' content'' : List ℕ} {m k : ℕ}
      (o : Onward w a' bytes' table' content' m) → Onward o.now a'' bytes'' table'' content'' k → Onward w a'' bytes'' table'' content'' k
  onward-more o next = record { now = next.now; narrows = λ s h. o.narrows s (next.narrows s h) }

  -- a record more, where row n is not known yet
  module _ (unknown : is_known a n ≡ false) {b : List ℕ} {s : SheetStep} {table' content' : List ℕ}
      (step : StepMade b a.at table s table' content') where
    unended : a.ended ≡ false
    unended = by-test a.ended (λ e. true-false refl (rw e at unknown)) (λ e. e)

    least : least_in a ≤ n
    least = ltb-false n (least_in a) (rw unended at unknown)

    held_next : (e : Bool) {held t l : List ℕ} → held ≡ b → HeldLast e w.taken b t l → HeldBy held n e t l
    held_next e same last =
        rw same (record {
          before = w.taken;
          carried = carried_by a.at table;
          carries = w.carries;
          whole = step.held;
          later = least;
          last = last;
        })

    narrower : {t : List ℕ} → BeginsSheet w.taken t → MayBe a.ended w.taken w.last t
    narrower h = rw unended h

    pub onward-ended : s.last ≡ true → {bytes' : List ℕ} {h k : ℕ} {a' : Ahead} → take h bytes' ≡ b
        → a' ≡ record { ended = true; held = h; count = k; at = s.next } → Onward w a' bytes' table' content' n
    onward-ended last same is =
        rw (is, (step.still last).0, (step.still last).1) (record {
          now = record {
            taken = w.taken;
            last = b;
            carries = w.carries;
            over = λ e. record { held = step.held; number = _; place = _; ends = step-ended step last };
            row = λ less rest. absurd (omega (arith, least));
            between = λ m h less rest. absurd (omega (arith, least));
            known = λ k. held_next true same (refl, refl);
          };
          narrows = λ t h. narrower (record { rest = b; is = h });
        })

    module _ (on : s.last ≡ false) where
      abbrev after : Ahead
      after =
          record {
            ended = false;
            held = s.taken;
            count = height_bytes (holds_of s.read) s.read.count;
            at = s.next;
          }

      row-after : n < least_in after → (rest : List ℕ)
          → heights_of (least_in after - 1) (rows_in (w.taken ++ b ++ rest)) ≡ present (halves_of (take after.count content'))
      row-after less rest =
          by-test (is_row (holds_of s.read))
          (λ is.
          let number : least_in after - 1 ≡ s.read.row = omega (arith, row_next step on is) in
          rw (number, height-row (holds_of s.read) s.read.count is) (row-there step on is w.carries rest))
          (λ other. absurd (omega (arith, least, rowless-next step on other w.carries)))

      between-after : (m : ℕ) → n ≤ m → m + 1 < least_in after → (rest : List ℕ) → heights_of m (rows_in (w.taken ++ b ++ rest)) ≡ absent
      between-after m from less rest =
          by-test (is_row (holds_of s.read))
          (λ is. gap-absent step on is w.carries rest m (omega (arith, least)) (omega (arith, row_next step on is)))
          (λ other. absurd (omega (arith, least, rowless-next step on other w.carries)))

      pub onward-on : {bytes' : List ℕ} {a' : Ahead} → take s.taken bytes' ≡ b → a' ≡ after → Onward w a' bytes' table' content' n
      onward-on same is =
          rw is (record {
            now = record {
              taken = w.taken ++ b;
              last = [];
              carries = step-carries step on w.carries;
              over = λ e. true-false e refl;
              row = row-after;
              between = between-after;
              known = λ k. held_next false same refl;
            };
            narrows = λ t h. narrower (begins-more w.taken b h);
          })

-- ---- at the start nothing is read
pub read_first : (bytes table content : List ℕ) (n : ℕ) {h k : ℕ} {a : Ahead}
    → a ≡ record { ended = false; held = h; count = k; at = progress_first } → ReadTo a bytes table content n
read_first bytes table content n is =
    rw is (record {
      taken = [];
      last = [];
      carries = carries-none;
      over = λ e. true-false e refl;
      row = λ less rest. absurd (omega arith);
      between = λ m from less rest. absurd (omega arith);
      known = λ k. true-false k (le-ltb n 0 (omega arith));
    })
