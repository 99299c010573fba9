-- The plain table is accepted. Assumes nothing.
use Rattle.std.specs.Prelude.{ℕ, zero, suc, ◌+◌, ◌-◌, ◌*◌, ◌/◌, ◌%◌, ◌^◌, ◌≤◌, ◌≡◌, refl, Bool, true, cond, not, ◌&&◌, List, [], ◌++◌, length, replicate, eqb}
use Rattle.std.proofs.Common.{arith, sym, ap, ◌∙◌, append-nil}
use Rattle.std.proofs.lemmas.Bool.{not-true}
use Rattle.bitstream.specs.Bits.{digits, flat, cut, words_of, bits_of, Below}
use Rattle.bitstream.specs.Bits.Laws.{below-nil, below-cons, below-flat, pad-all, length-flat, length_cut, cut-flat, flat-cut}
use Rattle.answer.specs.Outcome.{answer_of}
use Rattle.row_format.specs.Lists.{any}
use Rattle.row_format.specs.Lists.Laws.{and-true-all}
use Rattle.row_format.specs.Table.{codeword, codewords, wrong_size, wrong_word, wrong_codeword, verdict, table_number}
use Rattle.row_format.specs.Table.{longest, max_item_bits}
use Rattle.row_format.specs.Plain.{plain_entries, plain_table, plain_bytes}
use Rattle.row_format.specs.Calls.{checked}
use Rattle.prefix_free.specs.Branch.Fork.{apart, few, ended, branch, apart-clash}

-- ---- acceptance, by one test over all 518 words
passes : List ℕ → Bool
passes t = not (wrong_size t) && (not (wrong_codeword t) && apart 27 (codewords t))

plain_passes : passes plain_table ≡ true
unfolding passes plain_table plain_entries wrong_size wrong_codeword wrong_word codewords codeword digits apart few ended branch any
plain_passes = refl

pub plain-verdict : verdict plain_table ≡ 0
unfolding verdict passes
plain-verdict =
    let parts = and-true-all (not (wrong_size plain_table)) (not (wrong_codeword plain_table)) (apart 27 (codewords plain_table)) plain_passes in
    rw (not-true (wrong_size plain_table) parts.0, not-true (wrong_codeword plain_table) parts.1)
    (rw (apart-clash 27 (codewords plain_table) parts.2))

pub length-plain_table : length plain_table ≡ 518
unfolding plain_table plain_entries
length-plain_table = refl

-- ---- the bytes that are lent are a table of document 01: the plain words, accepted
entries_below : (i n : ℕ) → i + n ≤ 512 → Below (2 ^ 32) (plain_entries i n)
unfolding plain_entries
entries_below i zero h = below-nil (omega arith)
entries_below i (suc n) h = below-cons (omega arith) (entries_below (suc i) n (omega arith))

plain-below : Below (2 ^ 32) plain_table
unfolding plain_table
plain-below =
    below-cons (omega arith) (below-cons (omega arith) (below-cons (omega arith)
    (below-cons (omega arith) (below-cons (omega arith) (below-cons (omega arith) (entries_below 0 512 (omega arith)))))))

pub length-plain_bytes : length plain_bytes ≡ 2072
unfolding plain_bytes
length-plain_bytes = length_cut 8 2072 (flat 32 plain_table)

plain-bits : bits_of plain_bytes ≡ flat 32 plain_table
unfolding plain_bytes
plain-bits =
    let size : length (flat 32 plain_table) ≡ 16576 = length-flat 32 plain_table ∙ ap (32 *◌) length-plain_table in
    flat-cut 8 2072 (flat 32 plain_table) (below-flat 32 plain_table)
    ∙ pad-all 16576 (flat 32 plain_table) (omega arith)
    ∙ ap (λ (k : ℕ). flat 32 plain_table ++ replicate k 0) (ap (16576 -◌) size)
    ∙ append-nil (flat 32 plain_table)

pub plain-words : words_of plain_bytes ≡ plain_table
plain-words =
    ap (λ (k : ℕ). cut 32 (k / 4) (bits_of plain_bytes)) length-plain_bytes
    ∙ ap (cut 32 518) (plain-bits ∙ sym (append-nil (flat 32 plain_table)))
    ∙ ap (λ (k : ℕ). cut 32 k (flat 32 plain_table ++ [])) (sym length-plain_table)
    ∙ cut-flat 32 plain_table [] plain-below

pub plain-accepted : table_number plain_bytes ≡ 0
unfolding table_number
plain-accepted =
    ap (λ (k : ℕ). cond (eqb (k % 4) 0) (verdict (words_of plain_bytes)) 1) length-plain_bytes
    ∙ ap verdict plain-words
    ∙ plain-verdict

-- its longest item is a raw pixel: two bits and twelve
max_item_bits-plain_table : max_item_bits plain_table ≡ 14
unfolding max_item_bits longest codewords codeword digits plain_table plain_entries
max_item_bits-plain_table = refl

pub max_item_bits-plain : max_item_bits (words_of plain_bytes) ≡ 14
max_item_bits-plain = ap max_item_bits plain-words ∙ max_item_bits-plain_table

pub plain-checked : checked plain_bytes ≡ answer_of 0 14
unfolding checked
plain-checked = rw (plain-accepted, max_item_bits-plain)
