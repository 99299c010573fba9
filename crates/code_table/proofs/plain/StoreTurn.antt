-- What a turn of store does, and its end. Assumes nothing.
use Prim.Native.Nat.{ℕ, suc, ◌+◌, ◌*◌, ◌≤◌, ◌<◌}
use native.Mathlib.Nat.{mul_assoc}
use native.Mathlib.Numerals.{add-one}
use native.Mathlib.Omega.{arith}
use mathlib.Core.Path.{◌≡◌, refl, sym, ap, ◌∙◌}
use mathlib.Core.List.{List, [], ◌∷◌, ◌++◌, append-nil}
use lib.ListN.{length, take, drop, get_or, length-append}
use lib.Seq.{take-suc, take_all, length-take-le, take_at, drop-append-add, drop-drop}
use Rattle.bitstream.specs.Bits.{digits, flat, cut, bytes_of}
use Rattle.bitstream.specs.Bits.Laws.{flat_append, length-flat, length_cut, cut-append}
use Rattle.bitstream.specs.Memory.{overwritten}
use Rattle.bitstream.specs.Memory.Laws.{length-overwritten}
use Rattle.code_table.specs.Plain.{word_bytes}

-- after i words were stored
pub record Storing (ws out₀ out : List ℕ) (i : ℕ) : Type 0 where
  pub within : i ≤ length ws
  pub size : length out ≡ length out₀
  pub memory : out ≡ word_bytes (take i ws) ++ drop (4 * i) out₀

length-word_bytes : (ws : List ℕ) → length (word_bytes ws) ≡ 4 * length ws
unfolding word_bytes
length-word_bytes ws = length_cut 8 (4 * length ws) (flat 32 ws)

word_bytes-snoc : (ws : List ℕ) (w : ℕ) → word_bytes (ws ++ (w ∷ [])) ≡ word_bytes ws ++ bytes_of 4 (digits 32 w)
unfolding word_bytes
word_bytes-snoc ws w =
    let size : 4 * length (ws ++ (w ∷ [])) ≡ 4 * length ws + 4 = rw (length-append ws (w ∷ [])) (omega arith) in
    let last : flat 32 (w ∷ []) ≡ digits 32 w = unfold flat in append-nil (digits 32 w) in
    let bits : length (flat 32 ws) ≡ 8 * (4 * length ws) = length-flat 32 ws ∙ mul_assoc 8 4 (length ws) in
    rw (size, flat_append 32 ws (w ∷ []), last) (cut-append 8 (4 * length ws) 4 (flat 32 ws) (digits 32 w) bits)

module _ (ws out₀ : List ℕ) (fits : 4 * length ws ≤ length out₀) where
  pub storing-none : Storing ws out₀ out₀ 0
  unfolding word_bytes cut
  storing-none = record { within = omega arith; size = refl; memory = refl }

  pub storing-more : (out : List ℕ) (i : ℕ) → Storing ws out₀ out i → i < length ws
      → Storing ws out₀ (overwritten out (4 * i) (bytes_of 4 (digits 32 (get_or ws i 0)))) (i + 1)
  storing-more out i s h =
      record {
        within = omega arith;
        size = length-overwritten out (4 * i) word (omega (arith, word_size, s.size)) ∙ s.size;
        memory = front ∙ sym (rw (add-one i, take-suc ws i 0 h, word_bytes-snoc (take i ws) (get_or ws i 0)) rest);
      }
    where
      word : List ℕ
      word = bytes_of 4 (digits 32 (get_or ws i 0))

      word_size : length word ≡ 4
      word_size = length_cut 8 4 (digits 32 (get_or ws i 0))

      done-size : length (word_bytes (take i ws)) ≡ 4 * i
      done-size = length-word_bytes (take i ws) ∙ ap (4 *◌) (length-take-le i ws (omega arith))

      front : overwritten out (4 * i) word ≡ word_bytes (take i ws) ++ word ++ drop (4 * i + length word) out
      front =
          ap (λ (l : List ℕ). l ++ word ++ drop (4 * i + length word) out)
          (ap (take (4 * i)) s.memory ∙ take_at (word_bytes (take i ws)) (drop (4 * i) out₀) (4 * i) done-size)

      next : 4 * i + 4 ≡ 4 * suc i
      next = omega arith

      past : drop (4 * i + 4) (word_bytes (take i ws) ++ drop (4 * i) out₀) ≡ drop (4 * suc i) out₀
      past =
          ap (λ (k : ℕ). drop (k + 4) (word_bytes (take i ws) ++ drop (4 * i) out₀)) (sym done-size)
          ∙ drop-append-add (word_bytes (take i ws)) (drop (4 * i) out₀) 4
          ∙ drop-drop 4 (4 * i) out₀
          ∙ ap (λ (k : ℕ). drop k out₀) next

      rest : word_bytes (take i ws) ++ word ++ drop (4 * suc i) out₀ ≡ word_bytes (take i ws) ++ word ++ drop (4 * i + length word) out
      rest = ap (word_bytes (take i ws) ++ word ++◌) (sym (rw word_size (ap (drop (4 * i + 4)) s.memory ∙ past)))

  pub storing-all : (out : List ℕ) (i : ℕ) → Storing ws out₀ out i → length ws ≤ i → out ≡ word_bytes ws ++ drop (4 * length ws) out₀
  storing-all out i s h =
      let e : i ≡ length ws = omega (arith, s.within) in
      s.memory ∙ ap (λ (k : ℕ). word_bytes (take k ws) ++ drop (4 * k) out₀) e
      ∙ ap (λ (l : List ℕ). word_bytes l ++ drop (4 * length ws) out₀) (take_all (length ws) ws (omega arith))
