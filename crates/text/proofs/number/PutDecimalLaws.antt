-- A number put digit by digit. Assumes nothing.
use Prim.Native.Nat.{ℕ, ◌+◌, ◌/◌, ◌%◌, ◌≤◌, ◌<◌}
use native.Mathlib.Nat.{mod-eq_of_lt}
use mathlib.Core.Path.{◌≡◌}
use mathlib.Core.List.{List}
use lib.ListN.{length, set}
use Rattle.text.specs.Put.{Put}
use Rattle.text.specs.Put.Laws.{put_one, put-more}
use Rattle.text.specs.Text.{digit, decimal}
use Rattle.text.specs.Text.Laws.{decimal_digit, decimal-more}

pub put-digit : {m : List ℕ} {at : ℕ} (n : ℕ) → n < 10 → at < length m → Put m at (decimal n) (at + 1) (set m at (digit (n % 10)))
put-digit {m} {at} n h room = rw (decimal_digit n h, mod-eq_of_lt h) (put_one m at (digit n) room)

pub put-digits : {m m' : List ℕ} {at r : ℕ} (n : ℕ) → 10 ≤ n → r < length m → length m' ≡ length m → Put m at (decimal (n / 10)) r m'
    → Put m at (decimal n) (r + 1) (set m' r (digit (n % 10)))
put-digits n h room e p = rw (decimal-more n h) (put-more (digit (n % 10)) room e p)
