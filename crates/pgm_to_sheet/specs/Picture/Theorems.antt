-- What a picture that ended so was: the number is the table's or the header's own, and behind a header that is accepted a row is refused
-- by what is held of it, or all rows were taken. Assumes nothing.
use Rattle.std.specs.Prelude.{ℕ, ◌*◌, ◌<◌, ◌≡◌, refl, List, [], ◌∷◌, ◌++◌, length, eqb}
use Rattle.std.proofs.Common.{mul-zero, arith, sym, ap, ◌∙◌, append-nil, drop_at, eqb-true}
use Rattle.std.proofs.lemmas.Bool.{eqb-false}
use Rattle.answer.specs.Outcome.{◌or_else◌}
use Rattle.answer.specs.Outcome.Laws.{or_else-zero-left, or_else-zero-right, unless-number}
use Rattle.row_format.specs.Lists.Laws.{by-test}
use Rattle.row_format.specs.Table.{table_number}
use Rattle.fits_format.specs.Heights.{table_bytes}
use Rattle.fits_format.specs.Conversion.{RowsWritten, Conversion, header_refused, after_header, row_at, FirstFault}
use Rattle.pgm_format.specs.Header.{PgmRead, pgm_header}
use Rattle.pgm_format.specs.Conversion.{line_refusal, line_records, pgm_conversion}
use Rattle.pgm_to_sheet.specs.Picture.{header_bytes, PictureEnded}
use Rattle.pgm_to_sheet.specs.Picture.Laws.{header-whole, no_rows, header-same, converted, up_to}

conversion-header : (tb s : List ℕ) → (pgm_conversion tb s).header ≡ table_number tb or_else (pgm_header s).number
unfolding pgm_conversion
conversion-header tb s =
    unless-number (λ (c : Conversion). c.header) header_refused _ (λ k. refl) (table_number tb or_else (pgm_header s).number) refl

no_bytes : (l : List ℕ) → length l ≡ 0 → l ≡ []
no_bytes [] e = refl
no_bytes (b ∷ l) e = absurd (omega (arith, e))

module _ {tb front held : List ℕ} {number fault rows : ℕ} (ended : PictureEnded tb front held number fault rows) where
  abbrev behind : List ℕ
  behind = ended.image ++ held

  -- where the header is refused nothing is taken behind it
  nothing-behind : ((pgm_header front).number ≡ 0 → ⊥) → header_bytes front ++ behind ≡ front
  nothing-behind bad =
      let none : rows ≡ 0 = omega (arith, ended.taken.within, no_rows front bad) in
      let image : ended.image ≡ [] = no_bytes ended.image (ended.taken.size ∙ rw none (mul-zero (2 * (pgm_header front).width))) in
      rw (image, ended.last (none ∙ sym (no_rows front bad)), append-nil (header_bytes front)) (header-whole front bad)

  header_read_lem : pgm_header (header_bytes front ++ behind) ≡ pgm_header front
  header_read_lem =
      by-test (eqb (pgm_header front).number 0)
      (λ t. header-same front (eqb-true (pgm_header front).number 0 t) behind)
      (λ t. ap pgm_header (nothing-behind (eqb-false (pgm_header front).number 0 t)))

  -- no number is said of a table and a header but their own
  pub ended-number : number ≡ table_number tb or_else (pgm_header front).number
  ended-number =
      sym (ap (λ (c : Conversion). c.header) ended.ends)
      ∙ conversion-header tb (header_bytes front ++ behind)
      ∙ ap (λ (h : PgmRead). table_number tb or_else h.number) header_read_lem

  module _ (none : number ≡ 0) where
    table : table_number tb ≡ 0
    table = or_else-zero-left (table_number tb) _ (sym ended-number ∙ none)

    ok : (pgm_header front).number ≡ 0
    ok = or_else-zero-right (table_number tb) _ (sym ended-number ∙ none)

    -- what converting comes to
    abbrev w : ℕ
    w = (pgm_header front).width

    abbrev written : RowsWritten
    written = line_records tb w (pgm_header front).rows 0 behind

    made : after_header (table_bytes tb) written
        ≡ record { header = number; fault = fault; rows = rows; bytes = (pgm_conversion tb (header_bytes front ++ ended.image)).bytes }
    made = sym (converted tb front table ok behind) ∙ ended.ends

    rows_made : written.rows ≡ rows
    rows_made = ap (λ (c : Conversion). c.rows) made

    fault-made : written.number ≡ fault
    fault-made = ap (λ (c : Conversion). c.fault) made

    first : FirstFault (λ i. line_refusal w (row_at w behind i)) (pgm_header front).rows written.rows written.number
    first = (up_to tb front table ok behind).fault

    -- while rows are left, the next is refused, by the bytes that are held of it
    pub ended-row : rows < (pgm_header front).rows → (fault ≡ line_refusal (pgm_header front).width held) × (fault ≡ 0 → ⊥)
    ended-row less =
        let refused = first.faulty (omega (arith, less, rows_made)) in
        let here : row_at w behind written.rows ≡ held =
        ap (row_at w behind) rows_made ∙ drop_at ended.image held (2 * w * rows) ended.taken.size in
        (sym fault-made ∙ refused.0 ∙ ap (line_refusal w) here, λ z. refused.1 (fault-made ∙ z))

    -- and where none is left, none is
    pub ended-whole : rows ≡ (pgm_header front).rows → fault ≡ 0
    ended-whole all = sym fault-made ∙ first.whole (rows_made ∙ all)
