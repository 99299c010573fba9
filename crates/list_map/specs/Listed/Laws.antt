-- A map's listing, by what reading it leaves. Assumes nothing.
use Prim.Native.Nat.{ℕ, zero, suc, ◌*◌, ◌≤◌}
use Rattle.std.proofs.Common.{arith, sym, ap, ◌∙◌, append-nil, drop_of_length-le}
use Rattle.std.specs.Prelude.{◌≡◌, refl, List, [], ◌++◌, length, drop}
use Rattle.answer.specs.declared.Answer.{Answer}
use Rattle.answer.specs.Outcome.{Outcome, outcome}
use Rattle.bitstream.specs.Bits.{flat, halves_of, Below}
use Rattle.bitstream.specs.Bits.Laws.{length_cut}
use Rattle.bitstream.specs.Msb.{msb_bits_of}
use Rattle.bitstream.specs.Msb.Laws.{below-msb_bits_of}
use Rattle.row_format.specs.Row.{pixel_bytes}
use Rattle.row_format.proofs.Theorems.Words.{halves_of-bytes_of}
use Rattle.text.specs.Lines.{refused_line}
use Rattle.map_format.specs.Reading.{Parse, stops, got}
use Rattle.map_format.specs.Reading.Laws.{stops-got}
use Rattle.map_format.specs.Calls.{position_bits, size_number, read_map, map_read, map_left}
use Rattle.map_format.specs.Calls.Laws.{position_bits-most}
use Rattle.map_format.proofs.Verdict.Laws.{size_number-zero, map_read-readable, map_read-got}
use Rattle.map_format.proofs.Theorems.Again.{read_map-got}
use Rattle.map_text.specs.MapText.{listing_text}
use Rattle.map_text.specs.MapText.Laws.{listing-refused}
use Rattle.list_map.specs.Listed.{reading_text, map_listing}

-- of what a call of `read_map` leaves
abbrev pub listed : Outcome Answer → List ℕ
listed o = listing_text o.answer.number o.answer.count (halves_of o.memory)

-- 16384 counts fill the memory that is lent, and are read back from it
counts_whole : (xs m : List ℕ) → length xs ≡ 16384 → Below 65536 xs → length m ≡ 32768
    → halves_of (pixel_bytes xs ++ drop (length (pixel_bytes xs)) m) ≡ xs
counts_whole xs m size low room =
    let bytes : length (pixel_bytes xs) ≡ 2 * length xs = length_cut 8 (2 * length xs) (flat 16 xs) in
    let short : length m ≤ length (pixel_bytes xs) = omega arith in
    let none : drop (length (pixel_bytes xs)) m ≡ [] = drop_of_length-le m short in
    rw (none, append-nil (pixel_bytes xs)) (halves_of-bytes_of (length xs) xs refl low)

module _ (g : ℕ) (s : List ℕ) (total : ℕ) (m : List ℕ) (room : length m ≡ 32768) where
  abbrev reading : Parse (List ℕ)
  reading = read_map (position_bits g) total (msb_bits_of s)

  module _ (group : size_number g ≡ 0) where
    asked : map_read g s total m ≡ map_left (8 * length s) m reading
    asked = map_read-readable g s total m (record { size = size_number-zero g group; room = omega arith })

    -- a reading that stops has a number
    stopped : (e : ℕ) → reading ≡ stops e → e ≡ 0 → ⊥
    stopped e is none =
        let number : (map_read g s total m).answer.number ≡ 0 =
        ap (λ (o : Outcome Answer). o.answer.number) (asked ∙ ap (map_left (8 * length s) m) is) ∙ none in
        stops-got (sym is ∙ (map_read-got g s total m number).3)

    listed-reading : (x : Parse (List ℕ)) → reading ≡ x → listed (map_left (8 * length s) m x) ≡ reading_text (8 * length s) x
    unfolding listing_text
    listed-reading (stops e) is = listing-refused e 0 (halves_of m) (stopped e is)
    listed-reading (got xs r) is =
        let back = read_map-got (position_bits g) total (msb_bits_of s) is (position_bits-most g) (below-msb_bits_of s) in
        rw (counts_whole xs m back.size back.counts room)

  refused-size : (n : ℕ) → size_number g ≡ suc n → listed (map_read g s total m) ≡ refused_line (suc n)
  unfolding map_read listing_text
  refused-size n e = rw e

  listed_by : (n : ℕ) → size_number g ≡ n → listed (map_read g s total m) ≡ map_listing g s total
  unfolding map_listing
  listed_by zero e = rw (asked e, e) (listed-reading e reading refl)
  listed_by (suc n) e = rw e (refused-size n e)

-- what it leaves, as text, is the listing
pub listed-read : (g : ℕ) (s : List ℕ) (total : ℕ) (m : List ℕ) → length m ≡ 32768 → listed (map_read g s total m) ≡ map_listing g s total
listed-read g s total m room = listed_by g s total m room (size_number g) refl

pub listed-map : (g : ℕ) (s : List ℕ) (total : ℕ) (m : List ℕ) {m' l : List ℕ} (a : Answer) → length m ≡ 32768
    → outcome a m' ≡ map_read g s total m → l ≡ listing_text a.number a.count (halves_of m') → l ≡ map_listing g s total
listed-map g s total m a room read is = is ∙ ap listed read ∙ listed-read g s total m room
