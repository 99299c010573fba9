-- `table_listing::line::put_line`: its parts one after the other. Assumes nothing.
use native.Mathlib.Omega.{arith}
use Rattle.bitstream.specs.Bits.{words_of}
use Rattle.table_listing.proofs.line.Laws.{put-parts}
use borrow.Author.Rules.{rules}
use Rattle.table_listing.proofs.line.put_line.Goals as goal

pub returns : goal.returns
returns c = record {
  put = put-parts (words_of c.args.table.now) c.args.place c.string_word.result (omega arith) c.string_word.ensures
      c.put_name-named.ensures.put c.put_bytes-spaced.ensures c.put_bits-spelled.ensures.put c.put_bytes.ensures;
  most = search rules;
}
