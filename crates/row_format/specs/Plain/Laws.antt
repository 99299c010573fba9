-- The laws of the plain table. Assumes nothing.
use Rattle.std.specs.Prelude.{ℕ, zero, suc, ◌+◌, ◌*◌, ◌<◌, ◌≡◌, get_or}
use Rattle.std.proofs.Common.{not-suc-le-zero, le_of_suc-le-suc, add-zero, suc-add, add-suc, arith, sym, ap, ◌∙◌}
use Rattle.row_format.specs.Plain.{plain_entries, plain_table}

entries_at : (i n k : ℕ) → k < n → get_or (plain_entries i n) k 0 ≡ 64 * (i + k) + 10
unfolding plain_entries
entries_at i zero k h = absurd (not-suc-le-zero h)
entries_at i (suc n) zero h = ap (λ (m : ℕ). 64 * m + 10) (sym (add-zero i))
entries_at i (suc n) (suc k) h = entries_at (suc i) n k (le_of_suc-le-suc h) ∙ ap (λ (m : ℕ). 64 * m + 10) (suc-add i k ∙ sym (add-suc i k))

-- the rule at each entry
pub plain_entry : (i : ℕ) → i < 512 → get_or plain_table (6 + i) 0 ≡ 64 * i + 10
unfolding plain_table
plain_entry i h =
    let six : 6 + i ≡ suc (suc (suc (suc (suc (suc i))))) = omega arith in
    let here : 64 * (0 + i) + 10 ≡ 64 * i + 10 = omega arith in
    rw six (entries_at 0 512 i h ∙ here)
