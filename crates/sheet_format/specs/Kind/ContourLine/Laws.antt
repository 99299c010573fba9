-- The contour line's kind is lawful. Assumes nothing.
use Prim.Native.Nat.{ℕ, zero, suc, ◌+◌, ◌*◌, ◌/◌, ◌≤◌, ◌<◌}
use Rattle.std.proofs.Common.{le_refl, arith, sym, ap, ◌∙◌, length-append}
use Rattle.std.specs.Prelude.{◌≡◌, refl, length, drop, ltb, ℤ}
use mathlib.Core.List.{List, [], ◌++◌, append-nil, map}
use Rattle.std.proofs.lemmas.List.{length-map}
use Rattle.bitstream.specs.Bits.{flat, bits_of, words_of, Below}
use Rattle.bitstream.specs.Bits.Laws.{below-flat, below-cut, length_cut}
use Rattle.answer.specs.Outcome.{◌or_else◌, refuse_if, Lent, nothing, room_number}
use Rattle.answer.specs.Outcome.Laws.{less_number-none, refuse_if-in, or_else-in, or_else-none, or_else-zero-left, or_else-zero-right}
use Rattle.row_format.specs.Row.{too_many}
use Rattle.row_format.specs.Row.Laws.{too_many-zero}
use Rattle.adaptive.specs.Number.{NumberReading, accepted, rejected, signed_type, read_as}
use Rattle.adaptive.specs.Number.Read.{RejectedIn, read_as-in}
use Rattle.sheet_format.specs.Context.{Heading, Context}
use Rattle.sheet_format.specs.Fields.{two_bytes}
use Rattle.sheet_format.specs.Fields.Laws.{number_of-two_bytes, length-two_bytes, take-two_bytes, drop-two_bytes}
use Rattle.sheet_format.specs.Line.{Line, numbers, faulty, prepend, follow, word_of, read_line, line_bytes}
use Rattle.sheet_format.specs.Line.Laws.{GivesLine, read_line-gives, in-range-signed_of, read_line-line_bytes, length-line_bytes, map-word_of-signed_of, bytes_of-words_of}
use Rattle.sheet_format.specs.Kind.Lawful.{ListedBody, Back, Lawful}
use Rattle.sheet_format.specs.Kind.Row.Laws.{no_table-zero, no_table-in}
use Rattle.sheet_format.specs.Kind.ContourLine.{number_count, line_content, line_of, fault_number, bytes_of_line, line_number, line_own, number_bytes, read_numbers, line_place, given_numbers, line_given_number, line_body, line_kind}

-- ---- room is asked last
line-parts : (m : Lent) (c : Context) (b : List ℕ)
    → line_own m c b ≡ line_number b or_else (room_number m (4 * number_count b) or_else 0)
unfolding line_own
line-parts m c b = rw (or_else-none (room_number m (4 * number_count b)))

line-most : (c : Context) (b : List ℕ) → line_number b ≡ 0 → 4 * number_count b ≤ 16384
unfolding line_number
line-most c b e = omega (arith, too_many-zero (number_count b) (or_else-zero-left (too_many (number_count b)) _ e))

line-content : (n : ℕ) (s : List ℕ) (x : Line) → GivesLine n s x → fault_number x ≡ 0 → length (number_bytes x) ≡ 4 * n
line-content n s (numbers vs u) g e = length_cut 8 (4 * length vs) (flat 32 (map word_of vs)) ∙ ap (4 *◌) g.count
line-content n s (faulty k) g e = absurd (omega arith)

line-size : (c : Context) (b : List ℕ) → line_own nothing c b ≡ 0 → length (read_numbers c b) ≡ 4 * number_count b
unfolding line_own line_number read_numbers
line-size c b e =
    let n = number_count b in
    let left = refuse_if (ltb (bytes_of_line (line_of b)) (length (line_content b))) 14 in
    let number = or_else-zero-left (too_many n or_else fault_number (line_of b) or_else left) 0 e in
    let rest = or_else-zero-right (too_many n) (fault_number (line_of b) or_else left) number in
    line-content n (line_content b) (line_of b) (read_line-gives n (line_content b)) (or_else-zero-left (fault_number (line_of b)) left rest)

-- ---- a line that was written
record LineFields (b : List ℕ) (n : ℕ) (w : List ℕ) : Type 0 where
  pub count : number_count b ≡ n
  pub content : line_content b ≡ w
  pub size : length b ≡ 2 + length w

line-fields : (n : ℕ) (w : List ℕ) → n < 65536 → LineFields (two_bytes n ++ w) n w
line-fields n w few = record {
  count = rw (take-two_bytes n w) (number_of-two_bytes n few);
  content = drop-two_bytes n w;
  size = length-append (two_bytes n) w ∙ ap (◌+ length w) (length-two_bytes n);
}

given-count : (x : List ℕ) → length (given_numbers x) ≡ length (words_of x)
given-count x = length-map (words_of x) _

given-numbers : (x : List ℕ) → 4 * length (given_numbers x) ≤ length x
given-numbers x = omega (arith, given-count x, length_cut 32 (length x / 4) (bits_of x))

module _ (h : Heading) (c : Context) (x : List ℕ) (bytes : Below 256 x) (few : length (given_numbers x) ≤ 4096) where
  words-low : Below 4294967296 (words_of x)
  words-low = below-cut 32 (length x / 4) (bits_of x) (below-flat 8 x)

  line-body : (b : List ℕ) → LineFields b (length (given_numbers x)) (line_bytes (given_numbers x)) → Back line_kind h c x b
  unfolding line_own line_number read_numbers line_place
  line-body b f = record {
    fixed = less_number-none (length b) 2 14 (omega (arith, f.size));
    heading = refl;
    place = refl;
    own = λ m room. rw (
      reads,
      f.count,
      f.content,
      less_number-none 4096 (length (given_numbers x)) 11 few,
      less_number-none (length (line_bytes (given_numbers x))) (length (line_bytes (given_numbers x))) 14 (le_refl _),
    ) room;
    count = f.count;
    bits = refl;
    content = rw (reads, map-word_of-signed_of (words_of x) words-low, given-count x) (bytes_of-words_of x bytes);
    after = refl;
    short = omega (arith, f.size, length-line_bytes (given_numbers x));
  }
    where
      reads : line_of b ≡ numbers (given_numbers x) (length (line_bytes (given_numbers x)))
      reads =
          rw (f.count, f.content)
          (ap (read_line (length (given_numbers x))) (sym (append-nil (line_bytes (given_numbers x))))
          ∙ read_line-line_bytes (given_numbers x) [] (in-range-signed_of (words_of x) words-low))

  line-written : Back line_kind h c x (line_body h c x)
  unfolding line_body
  line-written = line-body (line_body h c x) (line-fields (length (given_numbers x)) (line_bytes (given_numbers x)) (omega arith))

line-back : (h : Heading) (c : Context) (x : List ℕ) → Below 256 x → line_given_number h c x ≡ 0 → Back line_kind h c x (line_body h c x)
unfolding line_given_number
line-back h c x bytes given = line-written h c x bytes (too_many-zero (length (given_numbers x)) given)

-- ---- numbers: 12 or 13 at a number
module _ (P : ℕ → Type 0) (p0 : P 0) (p12 : P 12) (p13 : P 13) where
  prepend-in : (v : ℤ) (u : ℕ) (x : Line) → P (fault_number x) → P (fault_number (prepend v u x))
  prepend-in v u (numbers vs w) h = p0
  prepend-in v u (faulty e) h = h

  follow-in : (x : NumberReading ℤ) (f : ℕ → Line) → RejectedIn P x → ((u : ℕ) → P (fault_number (f u))) → P (fault_number (follow x f))
  follow-in (accepted v u) f h rest = prepend-in v u (f u) (rest u)
  follow-in (rejected e) f h rest = h

  read_line-in : (n : ℕ) (s : List ℕ) → P (fault_number (read_line n s))
  unfolding read_line
  read_line-in zero s = p0
  read_line-in (suc n) s = follow-in (read_as signed_type s) _ (read_as-in signed_type P p12 p13 s) (λ u. read_line-in n (drop u s))

pub line_own-in : (P : ℕ → Type 0) → ListedBody P → (m : Lent) → ((n : ℕ) → P (room_number m n)) → (c : Context) (b : List ℕ)
    → P (line_own m c b)
unfolding line_own line_number
line_own-in P l m room c b =
    let n = number_count b in
    or_else-in P (line_number b) _
    (or_else-in P (too_many n) _ (refuse_if-in P (ltb 4096 n) 11 l.p0 l.p11)
    (or_else-in P (fault_number (line_of b)) _ (read_line-in P l.p0 l.p12 l.p13 n (line_content b))
    (refuse_if-in P (ltb (bytes_of_line (line_of b)) (length (line_content b))) 14 l.p0 l.p14)))
    (room (4 * n))

pub line-lawful : Lawful line_kind
unfolding line_place line_given_number line_body
line-lawful = record {
  first = λ c b. line_number b;
  last = λ c b. 0;
  own-parts = line-parts;
  most = line-most;
  size = line-size;
  given-size = given-numbers;
  table-placed = λ e c h place. absurd (let z : ◌≡◌ {A = ℕ} 0 1 = cc in omega arith);
  table_before = λ other readable c h place. no_table-zero c place;
  row-risen = λ e c h place. absurd (let z : ◌≡◌ {A = ℕ} 0 1 = cc in omega arith);
  row_small = λ e c h place. absurd (let z : ◌≡◌ {A = ℕ} 0 1 = cc in omega arith);
  rowless = λ other h g c x. record { place = refl; given = refl; body = refl };
  readable-in = λ P l. l.p0;
  writable-in = λ P l. l.p0;
  fixed_in = λ P l b. refuse_if-in P (ltb (length b) 2) 14 l.p0 l.p14;
  place_in = λ P l c h. no_table-in P l.p0 l.p16 c;
  own_in = λ P l bits. line_own-in P l;
  given-in = λ P l h c x. refuse_if-in P (ltb 4096 (length (given_numbers x))) 11 l.p0 l.p11;
  readable-back = λ e. refl;
  back = λ h c x bytes writable place given. line-back h c x bytes given;
}
