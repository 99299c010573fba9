-- How a record stands in the lent memory, and the ways out of a write, for every kind: refused before room is asked for, 5,
-- and done. Assumes nothing.
use Prim.Native.Nat.{ℕ, zero, suc, ◌+◌, ◌≤◌, ◌<◌}
use native.Mathlib.Omega.{arith}
use mathlib.Core.Path.{◌≡◌, refl, sym, ap, ◌∙◌}
use mathlib.Core.List.{List, ◌++◌, append_assoc}
use lib.ListN.{length, take, drop, length-append}
use lib.Seq.{take-length, drop_at, drop-drop, length-take-le}
use lib.Dec.{ltb}
use Rattle.bitstream.specs.Memory.Part.{part_from, with_part, part-is, part-back}
use Rattle.answer.specs.Outcome.{outcome, ◌or_else◌, refuse_if}
use Rattle.answer.specs.Outcome.Laws.{less_number-none, less_number-given, or_else-assoc, given-first}
use Rattle.sheet_format.specs.declared.SheetState.{SheetState}
use Rattle.sheet_format.specs.declared.RecordWritten.{RecordWritten}
use Rattle.sheet_format.specs.Context.{Heading, Context, state_of}
use Rattle.sheet_format.specs.Kind.{after_record}
use Rattle.sheet_format.specs.Kinds.{kind_of}
use Rattle.sheet_format.specs.Writing.{record_for, write_number, not_written, record_written}
use Rattle.sheet_format.specs.Writing.Laws.{record_written-done, record_written-refused}
use Rattle.std.specs.Prelude.{Result}
use Rattle.std.specs.Result.{IsErrAnd}
use Rattle.std.proofs.lemmas.Result.{err_from_is_err_and}
use Rattle.sheet_writer.specs.declared.done.Written.{Written}
use Rattle.sheet_writer.specs.declared.done.NotWritten.{NotWritten}
use Rattle.sheet_writer.specs.BeforeRoom.{before_room}
use Rattle.sheet_writer.specs.Done.{record_answer}

-- k bytes of fields, f, and behind them the content b
pub record Frame (code : ℕ) (h : Heading) (c : Context) (x f b : List ℕ) (k : ℕ) : Type 0 where
  pub known : (kind_of code).writable ≡ 0
  pub bytes : record_for code h c x ≡ f ++ b
  pub fields : length f ≡ k

-- what copying all of b leaves
pub all-copied : (b m y : List ℕ) → y ≡ take (length b) b ++ drop (length b) m → y ≡ b ++ drop (length b) m
all-copied b m y e = rw (take-length b) at e

-- what a refusal with the number n answers
pub err-answer : (r : Result Written NotWritten) {n : ℕ} → IsErrAnd r (λ y. y.number ≡ n) → record_answer r ≡ not_written n
err-answer r is = let p = err_from_is_err_and r is in rw (p.1, p.2)

-- ---- any record
pub refused-number : (code : ℕ) (h : Heading) (c : Context) (x m : List ℕ)
    → {a : RecordWritten} (e : ℕ) → e ≡ write_number code h c x (length m) → (e ≡ 0 → ⊥) → a ≡ not_written e
    → outcome a m ≡ record_written code h c x m
refused-number code h c x m zero number some answer = absurd (some refl)
refused-number code h c x m (suc e) number some answer =
    ap (λ (a : RecordWritten). outcome a m) answer
    ∙ sym (record_written-refused code h c x m e (sym number))

-- ---- a record that stands so
module _ {code : ℕ} {h : Heading} {c : Context} {x f b : List ℕ} {k : ℕ} (r : Frame code h c x f b k) where
  size : length (record_for code h c x) ≡ k + length b
  size = ap length r.bytes ∙ length-append f b ∙ ap (◌+ length b) r.fields

  -- first what is judged, then room
  pub frame-number : (room : ℕ)
      → write_number code h c x room ≡ before_room (kind_of code) h c x or_else refuse_if (ltb room (k + length b)) 5
  unfolding write_number
  frame-number room =
      rw (r.known, size)
      (sym (or_else-assoc ((kind_of code).place c h) ((kind_of code).given h c x) (refuse_if (ltb room (k + length b)) 5)))

  module _ (m : List ℕ) where
    pub frame-passed : before_room (kind_of code) h c x ≡ 0 → k + length b ≤ length m → write_number code h c x (length m) ≡ 0
    frame-passed passed fits = frame-number (length m) ∙ rw passed (less_number-none (length m) (k + length b) 5 fits)

    module _ {a : RecordWritten} where
      pub frame_refused : (e : ℕ) → e ≡ before_room (kind_of code) h c x → (e ≡ 0 → ⊥) → a ≡ not_written e
          → outcome a m ≡ record_written code h c x m
      frame_refused e number some =
          refused-number code h c x m e
          (given-first (before_room (kind_of code) h c x) _ number some ∙ sym (frame-number (length m))) some

      pub frame-full : before_room (kind_of code) h c x ≡ 0 → length m < k + length b → a ≡ not_written 5
          → outcome a m ≡ record_written code h c x m
      frame-full passed less =
          refused-number code h c x m 5
          (sym (frame-number (length m) ∙ rw passed (less_number-given (length m) (k + length b) 5 less))) (λ e. omega arith)

    -- the content y is put into the memory from k on, then the fields in front
    pub frame-done : write_number code h c x (length m) ≡ 0 → k ≤ length m
        → {st : SheetState} → st ≡ state_of (after_record (kind_of code).holds h x c)
        → {a : RecordWritten} → a ≡ record { number = 0; count = k + length b; state = st }
        → (y o : List ℕ) → y ≡ b ++ drop (length b) (part_from k m) → o ≡ f ++ drop k (with_part k m y)
        → outcome a o ≡ record_written code h c x m
    frame-done done fits after answer y o content fields =
        let behind : drop k (with_part k m y) ≡ y =
        ap (drop k) (part-back k m y) ∙ drop_at (take k m) y k (length-take-le k m fits) in
        let rest : drop (length b) (part_from k m) ≡ drop (k + length b) m =
        ap (drop (length b)) (part-is k m) ∙ drop-drop (length b) k m in
        let whole : o ≡ f ++ b ++ drop (k + length b) m =
        fields ∙ rw (behind, content, rest) (sym (append_assoc f b (drop (k + length b) m))) in
        rw (answer, whole, after) (sym (record_written-done code h c x m done ∙ rw (size, r.bytes)))
