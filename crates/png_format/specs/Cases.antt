-- Checksums that others publish: those of "123456789" and of "Wikipedia", and the last bytes of every PNG file. Assumes nothing.
use Rattle.std.specs.Prelude.{ℕ, ◌≡◌, refl, [], ◌∷◌}
use Rattle.text.specs.Text.{ascii}
use Rattle.bitstream.specs.Bits.{digits, flat}
use Rattle.png_format.specs.Crc.{exclusive, crc_bit, crc_bits, crc}
use Rattle.png_format.specs.Adler.{sum_from, sums_from, adler}
use Rattle.png_format.specs.Chunk.{chunk}

crc-case : ◌≡◌ {A = ℕ} (crc (ascii "123456789")) 0xCBF43926
unfolding crc crc_bits crc_bit exclusive digits flat
crc-case = refl

end-case : chunk (ascii "IEND") [] ≡ 0 ∷ 0 ∷ 0 ∷ 0 ∷ 0x49 ∷ 0x45 ∷ 0x4E ∷ 0x44 ∷ 0xAE ∷ 0x42 ∷ 0x60 ∷ 0x82 ∷ []
unfolding chunk crc crc_bits crc_bit exclusive digits flat
end-case = refl

adler-case : ◌≡◌ {A = ℕ} (adler (ascii "Wikipedia")) 0x11E60398
unfolding adler sum_from sums_from
adler-case = refl
