-- The laws of rows as lines: rows under their numbers from 0 on, all of one length, are the lines they are. Assumes nothing.
use Rattle.std.specs.Prelude.{ℕ, suc, ◌+◌, ◌<◌, ◌≡◌, length, get_or, replicate}
use Rattle.std.proofs.Common.{add-zero, arith}
use Rattle.std.proofs.Math.Path.{refl}
use mathlib.Core.List.{List, [], ◌∷◌}
use Rattle.std.proofs.Math.Seq.{take_at}
use borrow.Author.Tests.{eq-eqb}
use Rattle.sheet_format.specs.Sheet.{StoredRow, present, heights_of}
use Rattle.pgm_format.specs.Samples.Laws.{AllLong}
use Rattle.pgm_format.specs.Shape.{no_fault, fault_from, padded_lines}

-- ---- rows that stand under the numbers from n on
-- the lines ls are the rows of ys under the numbers from n on
abbrev pub StandFrom : ℕ → List (List ℕ) → List StoredRow → Type 0
StandFrom n ls ys = (i : ℕ) → i < length ls → heights_of (n + i) ys ≡ present (get_or ls i [])

module _ (w : ℕ) (ys : List StoredRow) where
  stand-first : (n : ℕ) (l : List ℕ) (ls : List (List ℕ)) → StandFrom n (l ∷ ls) ys → heights_of n ys ≡ present l
  stand-first n l ls stand = rw (add-zero n) at (stand 0 (omega arith))

  stand-rest : (n : ℕ) (l : List ℕ) (ls : List (List ℕ)) → StandFrom n (l ∷ ls) ys → StandFrom (suc n) ls ys
  stand-rest n l ls stand i h =
      let e : n + suc i ≡ suc n + i = omega arith in
      rw e at (stand (suc i) (omega arith))

  pub fault_from-none : (n : ℕ) (ls : List (List ℕ)) → AllLong w ls → StandFrom n ls ys → fault_from w n (length ls) ys ≡ no_fault
  unfolding fault_from
  fault_from-none n [] long stand = refl
  fault_from-none n (l ∷ ls) long stand =
      rw (stand-first n l ls stand, eq-eqb (length l) w long.0) (fault_from-none (suc n) ls long.1 (stand-rest n l ls stand))

  pub padded_lines-same : (h n : ℕ) (ls : List (List ℕ)) → AllLong w ls → StandFrom n ls ys → padded_lines h w n (length ls) ys ≡ ls
  unfolding padded_lines
  padded_lines-same h n [] long stand = refl
  padded_lines-same h n (l ∷ ls) long stand =
      let more = padded_lines-same h (suc n) ls long.1 (stand-rest n l ls stand) in
      rw (stand-first n l ls stand, take_at l (replicate w h) w long.0, more)
