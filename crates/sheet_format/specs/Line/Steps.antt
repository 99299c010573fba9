-- A line read and written one number after another: for loops. Assumes nothing.
use Rattle.std.specs.Prelude.{ℕ, suc, ◌+◌, ◌*◌, ◌≡◌, refl, List, [], ◌∷◌, ◌++◌, map, drop, ℤ}
use Rattle.std.proofs.Common.{add_assoc, add-zero, zero-add, arith, sym, ◌∙◌, append_assoc, append-nil, length-append, drop-drop}
use Rattle.std.proofs.Math.Path.{ap, ap₂}
use Rattle.std.proofs.lemmas.List.{map-append, length-map}
use Rattle.std.proofs.Math.ListN.{length}
use Rattle.bitstream.specs.Bits.{digits, flat, bytes_of}
use Rattle.bitstream.specs.Bits.Laws.{length-flat, flat_append, cut-append}
use Rattle.adaptive.specs.Number.{NumberReading, accepted, rejected, signed_type, read_as, shortest}
use Rattle.adaptive.specs.Calls.{signed_read, signed_answer}
use Rattle.adaptive.specs.Number.Read.{read_as-rejected}
use Rattle.sheet_format.specs.Line.{word_of, line_bytes, Line, numbers, faulty, prepend, read_line}

-- ---- reading
-- a line after the numbers vs, of u bytes
abbrev pub after_numbers : List ℤ → ℕ → Line → Line
after_numbers vs u (numbers ws w) = numbers (vs ++ ws) (u + w)
after_numbers vs u (faulty e) = faulty e

-- by the call that reads one number
read_line-one : (n : ℕ) (s : List ℕ) (x : NumberReading ℤ) → read_as signed_type s ≡ x → (signed_answer x).number ≡ 0
    → read_line (suc n) s ≡ prepend (signed_answer x).value (signed_answer x).used (read_line n (drop (signed_answer x).used s))
unfolding read_line
read_line-one n s (accepted v u) e ok = rw e
read_line-one n s (rejected k) e ok = absurd (omega (arith, read_as-rejected signed_type s k e))

pub read_line-suc : (n : ℕ) (s : List ℕ) → (signed_read s).number ≡ 0
    → read_line (suc n) s ≡ prepend (signed_read s).value (signed_read s).used (read_line n (drop (signed_read s).used s))
unfolding signed_read
read_line-suc n s ok = read_line-one n s (read_as signed_type s) refl ok

read_line-none : (n : ℕ) (s : List ℕ) (x : NumberReading ℤ) → read_as signed_type s ≡ x → ((signed_answer x).number ≡ 0 → ⊥)
    → read_line (suc n) s ≡ faulty (signed_answer x).number
unfolding read_line
read_line-none n s (accepted v u) e wrong = absurd (wrong refl)
read_line-none n s (rejected k) e wrong = rw e

pub read_line-fault : (n : ℕ) (s : List ℕ) → ((signed_read s).number ≡ 0 → ⊥)
    → read_line (suc n) s ≡ faulty (signed_read s).number
unfolding signed_read
read_line-fault n s wrong = read_line-none n s (read_as signed_type s) refl wrong

after_numbers-prepend : (vs : List ℤ) (u : ℕ) (v : ℤ) (w : ℕ) (x : Line)
    → after_numbers vs u (prepend v w x) ≡ after_numbers (vs ++ (v ∷ [])) (u + w) x
after_numbers-prepend vs u v w (numbers ws k) = ap₂ numbers (sym (append_assoc vs (v ∷ []) ws)) (sym (add_assoc u w k))
after_numbers-prepend vs u v w (faulty e) = refl

after_numbers-nil : (x : Line) → after_numbers [] 0 x ≡ x
after_numbers-nil (numbers ws w) = ap (numbers ws) (zero-add w)
after_numbers-nil (faulty e) = refl

-- n numbers of s are the numbers vs, which take u bytes, and then k more
pub record LineSoFar (n : ℕ) (s : List ℕ) (vs : List ℤ) (u k : ℕ) : Type 0 where
  pub line : read_line n s ≡ after_numbers vs u (read_line k (drop u s))

pub line-start : (n : ℕ) (s : List ℕ) → LineSoFar n s [] 0 n
line-start n s = record { line = sym (after_numbers-nil (read_line n s)) }

module _ {n : ℕ} {s : List ℕ} {vs : List ℤ} {u : ℕ} where
  pub line-more : {k : ℕ} → LineSoFar n s vs u (suc k) → (signed_read (drop u s)).number ≡ 0
      → LineSoFar n s (vs ++ ((signed_read (drop u s)).value ∷ [])) (u + (signed_read (drop u s)).used) k
  line-more {k} h ok =
      let a = signed_read (drop u s) in
      record {
        line =
            h.line
            ∙ ap (after_numbers vs u) (read_line-suc k (drop u s) ok)
            ∙ after_numbers-prepend vs u a.value a.used (read_line k (drop a.used (drop u s)))
            ∙ ap (λ (l : List ℕ). after_numbers (vs ++ (a.value ∷ [])) (u + a.used) (read_line k l)) (drop-drop a.used u s);
      }

  pub line-fault : {k : ℕ} → LineSoFar n s vs u (suc k) → ((signed_read (drop u s)).number ≡ 0 → ⊥)
      → read_line n s ≡ faulty (signed_read (drop u s)).number
  line-fault {k} h wrong = h.line ∙ ap (after_numbers vs u) (read_line-fault k (drop u s) wrong)

  pub line-all : LineSoFar n s vs u 0 → read_line n s ≡ numbers vs u
  unfolding read_line
  line-all h = h.line ∙ ap₂ numbers (append-nil vs) (add-zero u)

-- ---- the numbers as 4 bytes each
pub bytes_of-more : (vs : List ℤ) (v : ℤ)
    → bytes_of (4 * length (vs ++ (v ∷ []))) (flat 32 (map word_of (vs ++ (v ∷ []))))
    ≡ bytes_of (4 * length vs) (flat 32 (map word_of vs)) ++ bytes_of 4 (digits 32 (word_of v))
bytes_of-more vs v =
    let front = flat 32 (map word_of vs) in
    let size : 4 * length (vs ++ (v ∷ [])) ≡ 4 * length vs + 4 = ap (4 *◌) (length-append vs (v ∷ [])) ∙ (omega arith) in
    let last : flat 32 (word_of v ∷ []) ≡ digits 32 (word_of v) = unfold flat in (append-nil (digits 32 (word_of v))) in
    let words : flat 32 (map word_of (vs ++ (v ∷ []))) ≡ front ++ digits 32 (word_of v) =
    ap (flat 32) (map-append word_of vs (v ∷ [])) ∙ flat_append 32 (map word_of vs) (word_of v ∷ []) ∙ ap (front ++◌) last in
    let long : length front ≡ 8 * (4 * length vs) =
    length-flat 32 (map word_of vs) ∙ ap (32 *◌) (length-map vs word_of) ∙ (omega arith) in
    rw (size, words) (cut-append 8 (4 * length vs) 4 front (digits 32 (word_of v)) long)

-- ---- writing
pub line_bytes-append : (vs ws : List ℤ) → line_bytes (vs ++ ws) ≡ line_bytes vs ++ line_bytes ws
unfolding line_bytes
line_bytes-append [] ws = refl
line_bytes-append (v ∷ vs) ws =
    rw (line_bytes-append vs ws) (sym (append_assoc (shortest signed_type v) (line_bytes vs) (line_bytes ws)))
