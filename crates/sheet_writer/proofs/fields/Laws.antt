-- How the fields of a record are put one after another. Assumes nothing.
use Prim.Native.Nat.{ℕ, ◌+◌, ◌-◌}
use mathlib.Core.Path.{◌≡◌, refl, sym, ap, ◌∙◌}
use mathlib.Core.List.{List, [], ◌++◌}
use lib.ListN.{length, take, drop}
use lib.Seq.{take_at, drop_at, drop-drop}
use Rattle.bitstream.specs.Memory.{overwritten}
use Rattle.sheet_format.specs.Fields.{two_bytes, four_bytes}
use Rattle.sheet_format.specs.Fields.Laws.{length-two_bytes, length-four_bytes}
use Rattle.sheet_writer.specs.Fields.{record_fields, row_fields, line_fields}
use Rattle.sheet_writer.specs.Fields.Laws.{length-two-more, length-record_fields}

-- ---- one field after another: h is put already, at the front of what was m
put_next : (h b m o : List ℕ) (k : ℕ) → length h ≡ k → o ≡ h ++ drop k m → overwritten o k b ≡ h ++ b ++ drop (k + length b) m
put_next h b m o k size e =
    let front : take k o ≡ h = ap (take k) e ∙ take_at h (drop k m) k size in
    let rest : drop (k + length b) o ≡ drop (k + length b) m =
    sym (drop-drop (length b) k o) ∙ ap (drop (length b)) (ap (drop k) e ∙ drop_at h (drop k m) k size) ∙ drop-drop (length b) k m in
    rw (front, rest)

put-two-next : (h m o o' : List ℕ) (k v : ℕ) → length h ≡ k → o ≡ h ++ drop k m → o' ≡ overwritten o k (two_bytes v)
    → o' ≡ h ++ two_bytes v ++ drop (k + 2) m
put-two-next h m o o' k v size e q =
    q ∙ put_next h (two_bytes v) m o k size e ∙ ap (λ (n : ℕ). h ++ two_bytes v ++ drop (k + n) m) (length-two_bytes v)

module _ (m o o' : List ℕ) where
  pub put-record-done : (code n : ℕ) → o ≡ overwritten m 0 (four_bytes (n - 4)) → o' ≡ overwritten o 4 (two_bytes code)
      → o' ≡ record_fields code n ++ drop 6 m
  unfolding record_fields
  put-record-done code n first second =
      let first' : o ≡ four_bytes (n - 4) ++ drop 4 m =
      first ∙ put_next [] (four_bytes (n - 4)) m m 0 refl refl
      ∙ ap (λ (k : ℕ). four_bytes (n - 4) ++ drop k m) (ap (0 +◌) (length-four_bytes (n - 4))) in
      put-two-next (four_bytes (n - 4)) m o o' 4 code (length-four_bytes (n - 4)) first' second

  pub put-line-done : (code numbers n : ℕ) → o ≡ record_fields code n ++ drop 6 m → o' ≡ overwritten o 6 (two_bytes numbers)
      → o' ≡ line_fields code numbers n ++ drop 8 m
  unfolding line_fields
  put-line-done code numbers n first second =
      put-two-next (record_fields code n) m o o' 6 numbers (length-record_fields code n) first second

  pub put-row-done : (o'' : List ℕ) (code row pixels n : ℕ) → o ≡ record_fields code n ++ drop 6 m
      → o' ≡ overwritten o 6 (two_bytes row) → o'' ≡ overwritten o' 8 (two_bytes pixels)
      → o'' ≡ row_fields code row pixels n ++ drop 10 m
  unfolding row_fields
  put-row-done o'' code row pixels n first second third =
      let h = record_fields code n in
      put-two-next (h ++ two_bytes row) m o' o'' 8 pixels (length-two-more h 6 row (length-record_fields code n))
      (put-two-next h m o o' 6 row (length-record_fields code n) first second) third
