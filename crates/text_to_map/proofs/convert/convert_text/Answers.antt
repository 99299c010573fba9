-- `text_to_map::convert::convert_text` is safe: the counts that are kept are those of the text. Assumes nothing.
use native.Mathlib.Omega.{arith}
use Rattle.text_to_map.specs.Made.Laws.{count_most, counts_of}
use Rattle.text_to_map.proofs.convert.convert_text.Goals as goal

pub overflow_mul-count : goal.overflow_mul-count
overflow_mul-count c = let most = count_most c.requires.text_underway c.keep_last-count.ensures in omega (arith, most)

pub shared_ref_as_front-convert_counts : goal.shared_ref_as_front-convert_counts
shared_ref_as_front-convert_counts c = let most = count_most c.requires.text_underway c.keep_last-count.ensures in omega (arith, most)

pub convert_counts-requires : goal.convert_counts-requires
convert_counts-requires c = counts_of c.requires.text_underway c.requires.scan_value c.keep_last-count.ensures
