-- What the map lister holds of a file is enough, and what it prints of a map gives the counts back. Assumes nothing.
use Rattle.std.specs.Prelude.{ℕ, ◌-◌, ◌*◌, ◌≤◌, ◌≡◌, List, ◌++◌, length, take, drop, replicate, ltb, eqb}
use Rattle.std.proofs.Common.{arith, sym, ap, ◌∙◌, take-append-drop, take_all, length-take-le, ltb-true, ltb-false}
use Rattle.std.proofs.lemmas.List.{length-replicate}
use Rattle.bitstream.specs.Msb.{msb_bits_of}
use Rattle.bitstream.specs.Msb.Laws.{below-msb_bits_of}
use Rattle.row_format.specs.Lists.Laws.{by-test}
use Rattle.map_format.specs.Reading.{got}
use Rattle.map_format.specs.Calls.{position_bits, size_number, max_map_bytes, read_map}
use Rattle.map_format.specs.Calls.Laws.{position_bits-most}
use Rattle.map_format.proofs.Theorems.Again.{read_map-got}
use Rattle.map_format.proofs.Theorems.Ample.{read-enough}
use Rattle.map_format.proofs.Theorems.Unread.{read_more}
use Rattle.map_text.specs.Scan.{counts, text_counts}
use Rattle.map_text.specs.Theorems.{listing-text-back}
use Rattle.map_text.specs.MapText.{listing_text}
use Rattle.list_map.specs.Listed.{map_listing}
use Rattle.list_map.specs.Listed.Laws.{listed, listed-read}

-- ---- 46592 bytes of a file are enough: what follows them is not looked at
listing-front : (g : ℕ) (s t : List ℕ) (total : ℕ) → 46592 ≤ length s → map_listing g (s ++ t) total ≡ map_listing g s total
listing-front g s t total long =
    let m : List ℕ = replicate 32768 0 in
    let room : length m ≡ 32768 = length-replicate {A = ℕ} 32768 0 in
    let enough : max_map_bytes g ≤ length s = by-test (eqb g 4) (λ e. rw e long) (λ e. rw e (omega (arith, long))) in
    sym (listed-read g (s ++ t) total m room)
    ∙ ap listed (read_more g s total m t (read-enough g s total m enough))
    ∙ listed-read g s total m room

pub listing-enough : (g : ℕ) (file : List ℕ) (total : ℕ) → map_listing g (take 46592 file) total ≡ map_listing g file total
listing-enough g file total =
    by-test (ltb (length file) 46592)
    (λ t.
    let short : length file ≤ 46592 = omega (arith, ltb-true (length file) 46592 t) in
    ap (λ (s : List ℕ). map_listing g s total) (take_all 46592 file short))
    (λ t.
    let long = length-take-le 46592 file (ltb-false (length file) 46592 t) in
    sym (listing-front g (take 46592 file) (drop 46592 file) total (omega (arith, long)))
    ∙ ap (λ (s : List ℕ). map_listing g s total) (take-append-drop 46592 file))

-- ---- of a map that is read, the text is read as its counts
pub listing-back : (g : ℕ) (s : List ℕ) (total : ℕ) (xs r : List ℕ) → size_number g ≡ 0
    → read_map (position_bits g) total (msb_bits_of s) ≡ got xs r → text_counts (map_listing g s total) ≡ counts xs
unfolding map_listing listing_text
listing-back g s total xs r group is =
    let back = read_map-got (position_bits g) total (msb_bits_of s) is (position_bits-most g) (below-msb_bits_of s) in
    rw (group, is) (listing-text-back xs (8 * length s - length r) back.size back.counts)
