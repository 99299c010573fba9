-- Demand 3: runs of words that are alike in their first n times M bits, rounded up to whole words, are unpacked alike. This
-- holds under every table, accepted or not. Assumes nothing.
use Prim.Native.Nat.{ℕ, zero, suc, ◌+◌, ◌-◌, ◌*◌, ◌≤◌}
use Rattle.std.proofs.Common.{suc-mul, arith, sym, ap, ◌∙◌, length-take-le, take-take, le-ltb}
use Rattle.std.specs.Prelude.{◌≡◌, Bool, true, false, not, List, length, take, drop}
use Rattle.std.proofs.Math.Path.{refl}
use Rattle.std.proofs.Math.ListN.{length-drop}
use Rattle.bitstream.specs.Bits.{flat, begins, words_of, stream, words_for}
use Rattle.row_format.specs.Lists.{any}
use Rattle.row_format.specs.Lists.Laws.{least-same, field-take, drop-take}
use Rattle.row_format.specs.BitLaws.{stream-take, length-stream}
use Rattle.row_format.specs.Table.{codewords, codeword_at, longest, max_item_bits}
use Rattle.row_format.specs.Table.Laws.{length-codeword_at, longest-max_item_bits, escape_length-most}
use Rattle.row_format.specs.Row.{Item, State, fresh, after}
use Rattle.row_format.specs.Reading.{Match, none, found, find, Reading, item, fault, bits_of_reading, unmatched, raw_height, matched, taken, read_item, Run, done, stop, bits_of_run, follow, read_by, read_items, stray, without_stray, first_number, row_reading}
use Rattle.answer.specs.Outcome.{unless, Lent, lent}
use Rattle.row_format.specs.Calls.{row_outcome, unpacked}
use Rattle.row_format.proofs.Theorems.Search.{Found, find-found, find-take, any-begins-none, any-begins-none-take}
use Rattle.row_format.proofs.Theorems.Bounds.{read_item-uses, read_items-uses}

-- ---- one item
unmatched-take : (ss : List (List ℕ)) (r : List ℕ) (k : ℕ) → longest ss ≤ k → k ≤ length r → any (λ s. begins s r) ss ≡ false
    → unmatched ss (take k r) ≡ unmatched ss r
unfolding unmatched
unmatched-take ss r k h within e =
    let short : ℕ → Bool = λ j. not (any (begins (take j (take k r))) ss) in
    let long : ℕ → Bool = λ j. not (any (begins (take j r)) ss) in
    let same : (j : ℕ) → j ≤ longest ss → short j ≡ long j = λ j low. rw (take-take j k r (omega arith)) in
    let none-longer = ap not (any-begins-none-take ss r (longest ss) (omega arith) (omega arith) e) in
    let passes : short (longest ss) ≡ true = same (longest ss) (omega arith) ∙ none-longer in
    rw (any-begins-none-take ss r k h within e, any-begins-none ss r (omega arith) e, length-take-le k r within)
    (ap (fault 7) (least-same short long k (length r) (longest ss) h (omega arith) same passes))

raw_height-take : (n : ℕ) (r : List ℕ) (k : ℕ) → n + 12 ≤ k → k ≤ length r → raw_height n (take k r) ≡ raw_height n r
unfolding raw_height
raw_height-take n r k h within =
    rw (length-take-le k r within, le-ltb k (n + 12) h, le-ltb (length r) (n + 12) (omega arith), field-take n 12 k r h)

-- past the raw string's nothing is read but the string
matched-take : (t : List ℕ) (s : State) (r r' : List ℕ) (j n : ℕ) → matched t s r (suc j) n ≡ matched t s r' (suc j) n
unfolding matched
matched-take t s r r' zero n = refl
matched-take t s r r' (suc zero) n = refl
matched-take t s r r' (suc (suc i)) n = refl

module _ (t : List ℕ) (s : State) (r : List ℕ) (k : ℕ) (enough : max_item_bits t ≤ k) (within : k ≤ length r) where
  taken-take : (m : Match) → Found (codewords t) r m → taken t s (take k r) m ≡ taken t s r m
  unfolding matched
  taken-take none e = unmatched-take (codewords t) r k (omega (arith, longest-max_item_bits t)) within e
  taken-take (found zero) q =
      raw_height-take (length (codeword_at t 0)) r k (omega (arith, escape_length-most t, length-codeword_at t 0)) within
  taken-take (found (suc j)) q = matched-take t s (take k r) r j (length (codeword_at t (suc j)))

  pub read_item-take : read_item t s (take k r) ≡ read_item t s r
  unfolding read_item
  read_item-take =
      rw (find-take (codewords t) r k (omega (arith, longest-max_item_bits t)))
      (taken-take (find (codewords t) r) (find-found (codewords t) r))

-- ---- a run of items, by any way of reading one that looks at no more than m bits
follow-same : (x : Reading) (f g : Item → ℕ → Run) (m : ℕ) → bits_of_reading x ≤ m
    → ((i : Item) (u : ℕ) → u ≤ m → f i u ≡ g i u) → follow x f ≡ follow x g
follow-same (item i u) f g m h same = rw (same i u h)
follow-same (fault e u) f g m h same = refl

module _ (f : State → List ℕ → Reading) (m : ℕ) (uses : (s : State) (r : List ℕ) → bits_of_reading (f s r) ≤ m)
    (local : (s : State) (r : List ℕ) (k : ℕ) → m ≤ k → k ≤ length r → f s (take k r) ≡ f s r) where
  pub read_by-take : (s : State) (n : ℕ) (r : List ℕ) (k : ℕ) → n * m ≤ k → k ≤ length r
      → read_by f s n (take k r) ≡ read_by f s n r
  unfolding read_by
  read_by-take s zero r k enough within = refl
  read_by-take s (suc n) r k enough within =
      let room : n * m + m ≤ k = rw (suc-mul n m) at enough in
      let short : Item → ℕ → Run = λ i u. read_by f (after s i) n (drop u (take k r)) in
      let long : Item → ℕ → Run = λ i u. read_by f (after s i) n (drop u r) in
      let same : (i : Item) (u : ℕ) → u ≤ m → short i u ≡ long i u = λ i u h.
      rw (drop-take u k r) (read_by-take (after s i) n (drop u r) (k - u) (omega arith) (omega (arith, length-drop u r))) in
      rw (local s r k (omega arith) within) (follow-same (f s r) short long m (uses s r) same)

pub read_items-take : (t : List ℕ) (n : ℕ) (r : List ℕ) (k : ℕ) → n * max_item_bits t ≤ k → k ≤ length r
    → read_items t n (take k r) ≡ read_items t n r
unfolding read_items
read_items-take t n = read_by-take (read_item t) (max_item_bits t) (read_item-uses t) (read_item-take t) fresh n

-- ---- the call
-- only here it matters that the bits are rounded up to whole words
stray-take : (u : ℕ) (r : List ℕ) (k : ℕ) → 32 * words_for u ≤ k → stray u (take k r) ≡ stray u r
unfolding stray
stray-take u r k h = rw (field-take u (32 * words_for u - u) k r (omega arith))

without_stray-take : (r : List ℕ) (x : Run) (k : ℕ) → 32 * words_for (bits_of_run x) ≤ k
    → without_stray (take k r) x ≡ without_stray r x
without_stray-take r (done is u) k h = rw (stray-take u r k h)
without_stray-take r (stop e at u) k h = refl

-- a reading looks at no more than the words that n times M bits fill
front : (t : List ℕ) (n : ℕ) (r : List ℕ) (w : ℕ) → n * max_item_bits t ≤ 32 * w → 32 * w ≤ length r
    → without_stray (take (32 * w) r) (read_items t n (take (32 * w) r)) ≡ without_stray r (read_items t n r)
front t n r w enough within =
    rw (read_items-take t n r (32 * w) enough within)
    (without_stray-take r (read_items t n r) (32 * w) (omega (arith, read_items-uses t n r)))

pub row_reading-alike : (m : Lent) (tb : List ℕ) (n : ℕ) (wb wb' : List ℕ)
    → let k = words_for (n * max_item_bits (words_of tb)) in
    4 * k ≤ length wb → 4 * k ≤ length wb' → take (4 * k) wb ≡ take (4 * k) wb'
    → row_reading m tb n wb ≡ row_reading m tb n wb'
unfolding row_reading
row_reading-alike m tb n wb wb' h h' e =
    let t = words_of tb in
    let k = words_for (n * max_item_bits t) in
    let read : List ℕ → Run = λ r. without_stray r (read_items t n r) in
    let same : take (32 * k) (stream wb) ≡ take (32 * k) (stream wb') =
    stream-take wb k h ∙ ap (flat 8) e ∙ sym (stream-take wb' k h') in
    let alike : read (stream wb) ≡ read (stream wb') =
    sym (front t n (stream wb) k (omega arith) (omega (arith, length-stream wb)))
    ∙ ap read same
    ∙ front t n (stream wb') k (omega arith) (omega (arith, length-stream wb')) in
    ap (unless (first_number m tb n) (λ e. stop e 0 0)) alike

pub unpacked-alike : (tb wb wb' : List ℕ) (n : ℕ) (m : List ℕ)
    → let k = words_for (n * max_item_bits (words_of tb)) in
    4 * k ≤ length wb → 4 * k ≤ length wb' → take (4 * k) wb ≡ take (4 * k) wb' → unpacked tb wb n m ≡ unpacked tb wb' n m
unfolding unpacked
unpacked-alike tb wb wb' n m h h' e = ap (row_outcome m) (row_reading-alike (lent (length m)) tb n wb wb' h h' e)
