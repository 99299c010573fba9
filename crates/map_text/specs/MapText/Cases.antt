-- Lines of a map's text. Assumes nothing.
use Rattle.std.specs.Prelude.{◌≡◌, refl, [], ◌∷◌}
use Rattle.text.specs.Text.{ascii, decimal, spelled}
use Rattle.map_text.specs.MapText.{spaced, row_text, done_bits_line, done_bytes_line, listing_text}

pub row-case : row_text (3 ∷ 0 ∷ 65535 ∷ []) ≡ ascii "3 0 65535\n"
unfolding row_text spaced decimal spelled
row-case = refl

pub done-bits-case : done_bits_line 4096 ≡ ascii "done bits 4096\n"
unfolding decimal spelled
done-bits-case = refl

pub done-bytes-case : done_bytes_line 512 0 ≡ ascii "done bytes 512 photons 0\n"
unfolding decimal spelled
done-bytes-case = refl

pub refused-case : listing_text 21 0 [] ≡ ascii "refused 21\n"
unfolding listing_text decimal spelled
refused-case = refl
