-- The laws of the listing calls' answers. Assumes nothing.
use Rattle.std.specs.Prelude.{ℕ, zero, suc, ◌-◌, ◌≤◌, ◌<◌, ◌≡◌, refl, List, ◌++◌, take, ltb}
use Rattle.std.proofs.Math.Nat.{zero-add}
use Rattle.std.proofs.Common.{arith, sym, ◌∙◌, lt-ltb, le-ltb}
use Rattle.std.proofs.Math.Path.{ap}
use Rattle.std.proofs.Math.ListN.{length, drop}
use Rattle.answer.specs.declared.Answer.{Answer}
use Rattle.answer.specs.Outcome.{Outcome, answer_of, outcome, refused, ◌or_else◌}
use Rattle.row_format.specs.Lists.Laws.{by-test, drop-take}
use Rattle.row_format.specs.Table.{table_number}
use Rattle.sheet_format.specs.declared.SheetState.{SheetState}
use Rattle.sheet_format.specs.declared.RecordRead.{RecordRead}
use Rattle.sheet_format.specs.Context.{Context, context_of}
use Rattle.sheet_format.specs.Reading.{refused_record, record_judged}
use Rattle.sheet_format.specs.Sheet.{record_here}
use Rattle.sheet_format.proofs.Theorems.{record-length, kept_table, judged-refused-keeps}
use Rattle.text.specs.Put.{Put}
use Rattle.sheet_listing.specs.Line.{answer_line, record_line}
use Rattle.sheet_listing.specs.Listed.{no_room, line_given, judged_listed, line_listed, record_listed}

refused-any : (a : RecordRead) (l m : List ℕ) → (a.number ≡ 0 → ⊥) → a ≡ refused_record a.at a.number
    → outcome (record { read = a; count = 0 }) m ≡ judged_listed (a.number or_else no_room l m) a l m
refused-any a l m h e = go a.number refl
  where
    go : (n : ℕ) → a.number ≡ n → outcome (record { read = a; count = 0 }) m ≡ judged_listed (n or_else no_room l m) a l m
    go zero z = absurd (h z)
    go (suc n) z = ap (λ (x : RecordRead). outcome (record { read = x; count = 0 }) m) (e ∙ ap (refused_record a.at) z)

-- ---- a line
module _ (l m : List ℕ) where
  pub given-not : length m < length l → refused 5 m ≡ line_given l m
  unfolding line_given
  given-not h = rw (lt-ltb (length m) (length l) h)

  pub given-put : length l ≤ length m → {r : ℕ} {m' : List ℕ} → Put m 0 l r m' → outcome (answer_of 0 r) m' ≡ line_given l m
  unfolding line_given
  given-put h {r} {m'} p =
      let next : r ≡ length l = p.next ∙ zero-add (length l) in
      let memory : m' ≡ l ++ drop (length l) m = p.memory ∙ ap (λ (k : ℕ). l ++ drop k m) (zero-add (length l)) in
      rw (le-ltb (length m) (length l) h, next, memory)

-- what was given of a line, as what was listed
module _ (l : List ℕ) (a : RecordRead) (m : List ℕ) {g : Answer} {m' : List ℕ} (given : outcome g m' ≡ line_given l m) where
  pub listed-line : g.number ≡ 0 → outcome (record { read = a; count = g.count }) m' ≡ line_listed l a m
  unfolding line_given
  listed-line e = by-test (ltb (length m) (length l))
      (λ t. let n : g.number ≡ 5 = ap (λ (o : Outcome Answer). o.answer.number) (rw t at given) in absurd (omega arith))
      (λ t. let same = rw t at given in
      rw t (λ i. outcome (record { read = a; count = (same i).answer.count }) (same i).memory))

  pub listed-full : (g.number ≡ 0 → ⊥) → outcome (record { read = refused_record 0 g.number; count = g.count }) m' ≡ line_listed l a m
  unfolding line_given
  listed-full h = by-test (ltb (length m) (length l))
      (λ t. let same = rw t at given in
      rw t (λ i. outcome (record { read = refused_record 0 (same i).answer.number; count = (same i).answer.count }) (same i).memory))
      (λ t. absurd (h (ap (λ (o : Outcome Answer). o.answer.number) (rw t at given))))

-- ---- a record
module _ (tb r : List ℕ) (st : SheetState) (m : List ℕ) (a : RecordRead) (judged : a ≡ record_judged (context_of tb st) r) where
  pub listed-refused : (a.number ≡ 0 → ⊥) → outcome (record { read = a; count = 0 }) m ≡ record_listed (context_of tb st) r m
  unfolding record_listed
  listed-refused h =
      let still : (record_judged (context_of tb st) r).number ≡ 0 → ⊥ = λ e. h (ap (λ (x : RecordRead). x.number) judged ∙ e) in
      rw judged
      (refused-any (record_judged (context_of tb st) r) (record_line (record_here (context_of tb st) r)) m still
      (judged-refused-keeps (context_of tb st) r still))

  module _ (ok : a.number ≡ 0) where
    same_number : (record_judged (context_of tb st) r).number ≡ 0
    same_number = sym (ap (λ (x : RecordRead). x.number) judged) ∙ ok

    size : (6 ≤ a.length) × (a.length ≤ 32778) × (a.length ≤ length r)
    size = rw judged (record-length (context_of tb st) r same_number)

    pub body-start : 6 ≤ a.length
    body-start = size.0

    pub body-there : a.length ≤ length r
    body-there = size.2

    pub body-table : a.kind ≡ 1 → table_number (take (a.length - 6) (drop 6 r)) ≡ 0
    body-table e =
        let kind = sym (ap (λ (x : RecordRead). x.kind) judged) ∙ e in
        rw (← drop-take 6 a.length r, judged) (kept_table (context_of tb st) r same_number kind)

    -- the line of the answer is the record's
    pub line-is : answer_line a (take (a.length - 6) (drop 6 r)) ≡ record_line (record_here (context_of tb st) r)
    line-is = rw (← drop-take 6 a.length r, judged)

    pub listed-accepted : line_listed (answer_line a (take (a.length - 6) (drop 6 r))) a m ≡ record_listed (context_of tb st) r m
    unfolding record_listed
    listed-accepted = rw (← drop-take 6 a.length r, judged, same_number)

-- ---- what a caller learns of a listed record
unless-fits : (n : ℕ) (a : RecordRead) (l m : List ℕ) → n ≡ 0 → length l ≤ length m
    → judged_listed (n or_else no_room l m) a l m ≡ outcome (record { read = a; count = length l }) (l ++ drop (length l) m)
unless-fits n a l m ok fits = rw (ok, le-ltb (length m) (length l) fits)

-- where its line fits, an accepted record is listed
pub record_listed-fits : (c : Context) (r m : List ℕ) → (record_judged c r).number ≡ 0 → length (record_line (record_here c r)) ≤ length m
    → record_listed c r m
    ≡ (let l = record_line (record_here c r) in outcome (record { read = record_judged c r; count = length l }) (l ++ drop (length l) m))
unfolding record_listed
record_listed-fits c r m = unless-fits (record_judged c r).number (record_judged c r) (record_line (record_here c r)) m
