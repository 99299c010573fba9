-- Laws of a whole map: memory that begins with 0, and the call's ways out. Assumes nothing.
use Prim.Native.Nat.{ℕ, zero, suc, ◌-◌, ◌*◌, ◌/◌, ◌≤◌, ◌<◌}
use Rattle.std.proofs.Common.{add_comm, mul-suc, arith, ◌∙◌}
use Rattle.std.specs.Prelude.{◌≡◌, not, List, ◌∷◌, ◌++◌, take, drop, replicate}
use Rattle.std.proofs.Math.Path.{refl, sym, ap}
use Rattle.std.proofs.Math.Bool.{true, false}
use Rattle.std.proofs.Math.ListN.{length, length-drop}
use Rattle.std.proofs.lemmas.List.{length-replicate, replicate-append-replicate}
use Rattle.std.proofs.Math.Seq.{take_all}
use Rattle.std.proofs.Math.Dec.{eqb}
use borrow.Author.Tests.{lt-ltb, le-ltb, eq-eqb, ne_eqb}
use Rattle.answer.specs.Outcome.{Outcome, outcome, ◌or_else◌, refuse_if, answer_of}
use Rattle.answer.specs.Outcome.Laws.{or_else-zero-left, or_else-zero-right, unequal_number-zero, unequal_number-none, unequal_number-given}
use Rattle.answer.specs.declared.Answer.{Answer}
use Rattle.bitstream.specs.Bits.{digits, num_of, flat, cut, bits_of, halves_of, Below}
use Rattle.bitstream.specs.Bits.Laws.{length_cut}
use Rattle.bitstream.specs.Msb.{msb_bits_of}
use Rattle.bitstream.specs.Msb.Laws.{length-msb_bits_of}
use Rattle.row_format.specs.Row.{pixel_bytes}
use Rattle.row_format.proofs.Theorems.Words.{bytes_of-halves_of}
use Rattle.row_pixels.specs.Laws.{length-halves}
use Rattle.map_format.specs.Reading.{stops, sum, read_groups}
use Rattle.map_format.specs.Calls.{map_groups, read_map, map_left, map_read}
use Rattle.mat_map.specs.Size.{bits_or_none}
use Rattle.mat_map.specs.Size.Laws.{size-refused, size-passes, size-bits, size-most}
use Rattle.mat_map.specs.Step.{Stepped, Stored, Dark, part, judged_number}
use Rattle.mat_map.specs.Step.Memory.{drop-zeros}

-- ---- bytes that are 0 hold counts that are 0
bits-zeros : (m : ℕ) → bits_of (replicate m 0) ≡ replicate (8 * m) 0
unfolding flat digits
bits-zeros zero = refl
bits-zeros (suc m) =
    ap (replicate 8 0 ++◌) (bits-zeros m)
    ∙ replicate-append-replicate 8 (8 * m) 0
    ∙ ap (λ (k : ℕ). replicate k 0) (add_comm 8 (8 * m) ∙ sym (mul-suc 8 m))

number-zeros : (i j : ℕ) → num_of (take i (replicate j 0)) ≡ 0
unfolding num_of
number-zeros zero j = refl
number-zeros (suc i) zero = refl
number-zeros (suc i) (suc j) = let e : num_of (take i (replicate j 0)) ≡ 0 = number-zeros i j in omega (arith, e)

cut-zeros : (n j : ℕ) → cut 16 n (replicate j 0) ≡ replicate n 0
unfolding cut
cut-zeros zero j = refl
cut-zeros (suc n) j = rw (number-zeros 16 j, drop-zeros 16 j) (ap (0 ∷◌) (cut-zeros n (j - 16)))

pub dark-map : (m : ℕ) → m ≡ 32768 → Dark (halves_of (replicate m 0))
dark-map m e =
    let n : ℕ = length (replicate {A = ℕ} m 0) / 2 in
    let size : length (halves_of (replicate m 0)) ≡ n = length-halves (replicate m 0) in
    record {
      size = size ∙ (omega (arith, length-replicate {A = ℕ} m 0));
      none = ap (cut 16 n) (bits-zeros m) ∙ cut-zeros n (8 * m) ∙ ap (λ (k : ℕ). replicate k 0) (sym size);
    }

-- ---- the groups were read, to bytes `own` of this call, and r is their number
module _ (k total : ℕ) (s m l own : List ℕ) (x : Stepped)
    (h : Stored (msb_bits_of s) 409600 (read_groups k (map_groups k) (msb_bits_of s)) 0 16384 l (halves_of own) x)
    (r : ℕ) (is : r ≡ judged_number total x) where
  counted : x.number ≡ 0 → sum (part 0 16384 (halves_of own)) ≡ x.value
  counted z = sym (h.photons z)

  -- refused within the groups, or at the total
  stops-by : (r ≡ 0 → ⊥) → read_map k total (msb_bits_of s) ≡ stops r
  unfolding read_map
  stops-by n = go x.number refl
    where
      go : (e : ℕ) → x.number ≡ e → read_map k total (msb_bits_of s) ≡ stops r
      go (suc e) some =
          let number : r ≡ suc e = is ∙ ap (◌or_else refuse_if (not (eqb x.value total)) 21) some in
          rw (h.reads.stopped (λ z. absurd (let w : suc e ≡ 0 = sym some ∙ z in omega arith))) (ap stops (some ∙ sym number))
      go zero none =
          let number : r ≡ refuse_if (not (eqb x.value total)) 21 = is ∙ ap (◌or_else refuse_if (not (eqb x.value total)) 21) none in
          let other : x.value ≡ total → ⊥ = λ e. n (number ∙ unequal_number-none x.value total 21 e) in
          let differs : eqb (sum (part 0 16384 (halves_of own))) total ≡ false =
          ne_eqb (sum (part 0 16384 (halves_of own))) total (λ e. other (sym (counted none) ∙ e)) in
          rw ((h.reads.goes none).read, differs) (ap stops (sym (number ∙ unequal_number-given x.value total 21 other)))

  pub map-refused : 0 < r → (a : Answer) → a ≡ record { number = r; count = 0 }
      → outcome a m ≡ map_left (8 * length s) m (read_map k total (msb_bits_of s))
  map-refused some a e = ap (λ (y : Answer). outcome y m) e ∙ rw (stops-by (λ z. absurd (omega arith)))

  module _ (none : r ≡ 0) where
    pub all_read : x.number ≡ 0
    all_read = or_else-zero-left x.number (refuse_if (not (eqb x.value total)) 21) (sym is ∙ none)

    agrees : x.value ≡ total
    agrees =
        unequal_number-zero x.value total 20
        (or_else-zero-right x.number (refuse_if (not (eqb x.value total)) 21) (sym is ∙ none))

    pub map-done : Dark l → (m' : List ℕ) → m' ≡ pixel_bytes (halves_of own) ++ drop 32768 m
        → outcome (answer_of r x.next) m' ≡ map_left (8 * length s) m (read_map k total (msb_bits_of s))
    unfolding read_map
    map-done dark m' copied =
        let same : eqb (sum (part 0 16384 (halves_of own))) total ≡ true =
        eq-eqb (sum (part 0 16384 (halves_of own))) total (counted all_read ∙ agrees) in
        let long : length (halves_of own) ≡ 16384 = h.around.size ∙ dark.size in
        let all : part 0 16384 (halves_of own) ≡ halves_of own = take_all 16384 (halves_of own) (omega (arith, long)) in
        let many : length (pixel_bytes (halves_of own)) ≡ 32768 =
        length_cut 8 (2 * length (halves_of own)) (flat 16 (halves_of own)) ∙ (omega (arith, long)) in
        let used : 8 * length s - length (drop x.next (msb_bits_of s)) ≡ x.next =
        omega (arith, length-drop x.next (msb_bits_of s), length-msb_bits_of s, (h.reads.goes all_read).inside) in
        rw ((h.reads.goes all_read).read, same, none) (rw (all, used) (rw (many, copied)))

-- all counts of a map's bytes are those bytes
pub bytes_back : (own : List ℕ) → Below 256 own → length own ≡ 32768 → take 32768 own ≡ pixel_bytes (halves_of own)
bytes_back own bytes size =
    let e : 2 * length (halves_of own) ≡ 32768 = omega (arith, length-halves own, size) in
    ap (λ (n : ℕ). take n own) (sym e) ∙ sym (bytes_of-halves_of own bytes)

-- ---- the whole call: k is what the code takes the position bits for
module _ (g total : ℕ) (s m : List ℕ) (k : ℕ) (is : k ≡ bits_or_none g) where
  pub bits-few : k ≤ 4
  bits-few = rw is (size-most g)

  pub call-size : k ≡ 0 → (a : Answer) → a ≡ record { number = 14; count = 0 } → outcome a m ≡ map_read g s total m
  unfolding map_read
  call-size z a e = ap (λ (y : Answer). outcome y m) e ∙ rw (size-refused g (sym is ∙ z))

  module _ (some : k ≡ 0 → ⊥) where
    known : bits_or_none g ≡ 0 → ⊥
    known e = some (is ∙ e)

    pub call-room : length m < 32768 → (a : Answer) → a ≡ record { number = 5; count = 0 } → outcome a m ≡ map_read g s total m
    unfolding map_read
    call-room h a e = ap (λ (y : Answer). outcome y m) e ∙ rw (size-passes g known, lt-ltb (length m) 32768 h)

    pub call-read : 32768 ≤ length m → (o : Outcome Answer) → o ≡ map_left (8 * length s) m (read_map k total (msb_bits_of s))
        → o ≡ map_read g s total m
    unfolding map_read
    call-read h o e = e ∙ rw (is, size-bits g known, size-passes g known, le-ltb (length m) 32768 h)
