-- What a turn of put_numbers puts. Assumes nothing.
use Prim.Native.Nat.{ℕ, ◌+◌, ◌≤◌, ◌<◌}
use native.Mathlib.Omega.{arith}
use mathlib.Core.Path.{◌≡◌, refl, sym, ap, ◌∙◌}
use mathlib.Core.List.{List, ◌++◌, append_assoc}
use lib.ListN.{length, take, drop, get_or, length-drop}
use lib.Seq.{take_all, take_at, drop-drop, drop_at}
use lib.IntN.{ℤ, pos}
use Rattle.bitstream.specs.Memory.Part.{part_from, with_part, part-is, part-back}
use Rattle.answer.specs.declared.Answer.{Answer}
use Rattle.sheet_format.specs.Line.{line_bytes}
use Rattle.sheet_writer.proofs.number.Laws.{Wrote}
use Rattle.sheet_writer.proofs.numbers.Laws.{bytes_at, line_bytes-next, NumbersReached, reached-none, reached-more, reached-room, reached-all}

-- the first i of the numbers vs are put: m was the memory, o it is now
pub record PuttingNumbers (vs : List ℤ) (m o : List ℕ) (at i : ℕ) : Type 0 where
  pub reached : NumbersReached vs at i
  pub memory : o ≡ line_bytes (take i vs) ++ drop at m
  pub size : length o ≡ length m
  pub inside : at ≤ length o

module _ (vs : List ℤ) (m : List ℕ) where
  pub putting-none : PuttingNumbers vs m m 0 0
  unfolding line_bytes
  putting-none = record { reached = reached-none vs; memory = refl; size = refl; inside = omega arith }

  module _ (o : List ℕ) (at i : ℕ) (p : PuttingNumbers vs m o at i) where
    module _ (room : length (line_bytes vs) ≤ length m) (h : i < length vs) where
      pub putting-room : length (bytes_at vs i) ≤ length (part_from at o)
      putting-room = rw (part-is at o) (omega (arith, length-drop at o, p.size, reached-room vs i h at p.reached))

      pub putting-more : (y : List ℕ) (r : Answer) → Wrote (get_or vs i (pos 0)) (part_from at o) r y
          → length (with_part at o y) ≡ length o
          → PuttingNumbers vs m (with_part at o y) (at + r.count) (i + 1)
      putting-more y r w same =
          let b = bytes_at vs i in
          let front = line_bytes (take i vs) in
          let before : take at o ≡ front =
          ap (take at) p.memory ∙ take_at front (drop at m) at (sym p.reached.sum) in
          let behind : drop at o ≡ drop at m =
          ap (drop at) p.memory ∙ drop_at front (drop at m) at (sym p.reached.sum) in
          let rest : drop (length b) (part_from at o) ≡ drop (at + r.count) m =
          ap (drop (length b)) (part-is at o ∙ behind) ∙ drop-drop (length b) at m ∙ ap (λ (n : ℕ). drop (at + n) m) (sym w.count) in
          record {
            reached = reached-more vs i h at p.reached r.count w.count;
            memory =
                part-back at o y
                ∙ rw (before, w.memory, rest) (rw (line_bytes-next vs i h) (sym (append_assoc front b (drop (at + r.count) m))));
            size = same ∙ p.size;
            inside = omega (arith, same, p.size, w.count, reached-room vs i h at p.reached);
          }

    pub putting-all : length vs ≤ i → o ≡ line_bytes vs ++ drop (length (line_bytes vs)) m
    putting-all g =
        p.memory ∙ rw (take_all i vs g, reached-all vs at i p.reached g)
