-- The fields of a record are its first bytes. Assumes nothing.
use Rattle.std.specs.Prelude.{ℕ, ◌+◌, ◌-◌, ◌≡◌, List, ◌++◌, length}
use Rattle.std.proofs.Common.{arith, ◌∙◌, append_assoc, length-append}
use Rattle.sheet_format.specs.Fields.{two_bytes, four_bytes}
use Rattle.sheet_format.specs.Fields.Laws.{length-two_bytes, length-four_bytes}
use Rattle.sheet_format.specs.Writing.{record_bytes}
use Rattle.sheet_writer.specs.Fields.{record_fields, row_fields, line_fields}

-- ---- how many there are
pub length-two-more : (h : List ℕ) (k v : ℕ) → length h ≡ k → length (h ++ two_bytes v) ≡ k + 2
length-two-more h k v e = length-append h (two_bytes v) ∙ rw (e, length-two_bytes v)

pub length-record_fields : (code n : ℕ) → length (record_fields code n) ≡ 6
unfolding record_fields
length-record_fields code n = length-two-more (four_bytes (n - 4)) 4 code (length-four_bytes (n - 4))

pub length-row_fields : (code row pixels n : ℕ) → length (row_fields code row pixels n) ≡ 10
unfolding row_fields
length-row_fields code row pixels n =
    length-two-more (record_fields code n ++ two_bytes row) 8 pixels
    (length-two-more (record_fields code n) 6 row (length-record_fields code n))

pub length-line_fields : (code numbers n : ℕ) → length (line_fields code numbers n) ≡ 8
unfolding line_fields
length-line_fields code numbers n = length-two-more (record_fields code n) 6 numbers (length-record_fields code n)

-- ---- a record's bytes are its fields and then its content
pub record-fields : (code : ℕ) (b : List ℕ) → record_bytes code b ≡ record_fields code (6 + length b) ++ b
unfolding record_bytes record_fields
record-fields code b =
    let after : 6 + length b - 4 ≡ 2 + length b = omega arith in
    rw (after, append_assoc (four_bytes (2 + length b)) (two_bytes code) b)

pub row-fields : (code row pixels : ℕ) (w : List ℕ)
    → record_bytes code (two_bytes row ++ (two_bytes pixels ++ w)) ≡ row_fields code row pixels (10 + length w) ++ w
unfolding row_fields
row-fields code row pixels w =
    let size : 6 + length (two_bytes row ++ (two_bytes pixels ++ w)) ≡ 10 + length w =
    rw (length-append (two_bytes row) (two_bytes pixels ++ w), length-append (two_bytes pixels) w)
    (omega (arith, length-two_bytes row, length-two_bytes pixels)) in
    record-fields code (two_bytes row ++ (two_bytes pixels ++ w)) ∙ rw size (simp append_assoc)

pub line-fields : (code numbers : ℕ) (w : List ℕ)
    → record_bytes code (two_bytes numbers ++ w) ≡ line_fields code numbers (8 + length w) ++ w
unfolding line_fields
line-fields code numbers w =
    let size : 6 + length (two_bytes numbers ++ w) ≡ 8 + length w =
    rw (length-append (two_bytes numbers) w, length-two_bytes numbers) (omega arith) in
    record-fields code (two_bytes numbers ++ w) ∙ rw size (simp append_assoc)
