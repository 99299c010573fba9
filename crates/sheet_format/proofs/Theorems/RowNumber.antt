-- A row number that no record can hold is refused in writing, and a kind without a row looks at none. Assumes nothing.
use Rattle.std.specs.Prelude.{ℕ, ◌<◌, ◌≡◌, refl, List, length}
use Rattle.std.proofs.Common.{arith}
use Rattle.answer.specs.Outcome.{outcome}
use Rattle.sheet_format.specs.Context.{Heading, Context}
use Rattle.sheet_format.specs.Kind.{Payload, a_table, a_row, a_line, no_payload, after_record}
use Rattle.sheet_format.specs.Kinds.{kind_of}
use Rattle.sheet_format.specs.Kinds.Laws.{lawful}
use Rattle.sheet_format.specs.Writing.{write_number, not_written, record_written}
use Rattle.sheet_format.specs.Writing.Laws.{record_written-refused}

module _ (code : ℕ) (h : Heading) (c : Context) (x m : List ℕ) (row : (kind_of code).holds ≡ a_row) (above : 65535 < h.row) where
  place-above : (kind_of code).place c h ≡ 16
  place-above =
      (lawful code).place_in (λ e. (e ≡ 0 → ⊥) → e ≡ 16) (record { p0 = λ some. absurd (some refl); p16 = λ some. refl }) c h
      (λ placed. let small = (lawful code).row_small row c h placed in absurd (omega arith))

  number-above : (kind_of code).writable ≡ 0 → write_number code h c x (length m) ≡ 16
  unfolding write_number
  number-above known = rw (known, place-above)

  pub record_written-above : (kind_of code).writable ≡ 0 → record_written code h c x m ≡ outcome (not_written 16) m
  record_written-above known = record_written-refused code h c x m 15 (number-above known)

after_record-rowless : (s : Payload) (h g : Heading) (x : List ℕ) (c : Context) → (s ≡ a_row → ⊥)
    → after_record s h x c ≡ after_record s g x c
after_record-rowless a_table h g x c other = refl
after_record-rowless a_row h g x c other = absurd (other refl)
after_record-rowless a_line h g x c other = refl
after_record-rowless no_payload h g x c other = refl

pub record_written-rowless : (code : ℕ) (h g : Heading) (c : Context) (x m : List ℕ) → ((kind_of code).holds ≡ a_row → ⊥)
    → record_written code h c x m ≡ record_written code g c x m
unfolding record_written write_number
record_written-rowless code h g c x m other =
    let same = (lawful code).rowless other h g c x in
    rw (same.place, same.given, same.body, after_record-rowless (kind_of code).holds h g x c other)
