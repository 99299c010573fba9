-- The kinds of records by their codes: the one place where a code becomes a kind. Assumes nothing.
use Rattle.std.specs.Prelude.{ℕ, zero, suc, ◌≡◌, Result, MatchResult}
use Rattle.answer.specs.declared.refusal.Refusal.{Refusal}
use Rattle.sheet_format.specs.declared.kind.RecordKind.{RecordKind}
use Rattle.sheet_format.specs.declared.kind.RecordKind.TheVariants.{Table, PackedRow, PlainRow, ContourLine}
use Rattle.sheet_format.specs.Kind.{Kind, unknown}
use Rattle.sheet_format.specs.Kind.Table.{table_kind}
use Rattle.sheet_format.specs.Kind.PackedRow.{packed_kind}
use Rattle.sheet_format.specs.Kind.PlainRow.{plain_kind}
use Rattle.sheet_format.specs.Kind.ContourLine.{line_kind}
pub mod Laws

abbrev pub kind_of : ℕ → Kind
kind_of zero = unknown
kind_of (suc zero) = table_kind
kind_of (suc (suc zero)) = packed_kind
kind_of (suc (suc (suc zero))) = plain_kind
kind_of (suc (suc (suc (suc zero)))) = line_kind
kind_of (suc (suc (suc (suc (suc k))))) = unknown

-- ---- the kinds by name
abbrev pub kind_code : RecordKind → ℕ
kind_code Table = 1
kind_code PackedRow = 2
kind_code PlainRow = 3
kind_code ContourLine = 4

-- the kind of this code, or the refusal of a code that no kind has
abbrev pub CodeKnown : ℕ → Result RecordKind Refusal → Type 0
CodeKnown code r = MatchResult r (λ k. kind_code k ≡ code) (λ e. (e ≡ Refusal.Kind) × (kind_of code ≡ unknown))
