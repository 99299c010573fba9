-- Document 01's own lines, the row's as ticket 5 makes it, and one of ticket 2. Assumes nothing.
use Rattle.std.specs.Prelude.{◌≡◌, refl, negsuc}
use Rattle.text.specs.Text.{ascii, decimal, spelled, integer}
use Rattle.text.specs.Lines.{table_line, packed_line, done_line, refused_at_line, refused_bit_line}

table-case : table_line 1 3837 512 14 ≡ ascii "table 1 low 3837 size 512 worst 14\n"
unfolding decimal spelled
table-case = refl

packed-case : packed_line 0 2 17 1 ≡ ascii "row 0 pixels 2 bits 17 words 1\n"
unfolding decimal spelled
packed-case = refl

done-case : done_line 2 ≡ ascii "done rows 2\n"
unfolding decimal spelled
done-case = refl

refused-case : refused_at_line 14 0 ≡ ascii "refused 14 at record 0\n"
unfolding decimal spelled
refused-case = refl

refused-bit-case : refused_bit_line 10 2 177 ≡ ascii "refused 10 at record 2 bit 177\n"
unfolding decimal spelled
refused-bit-case = refl

integer-case : integer (negsuc 4092) ≡ ascii "-4093"
unfolding integer decimal spelled
integer-case = refl
