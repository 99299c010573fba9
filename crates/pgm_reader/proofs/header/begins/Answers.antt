-- `pgm_reader::header::begins` meets its contract. Assumes nothing.
use Rattle.std.proofs.Common.{ℕ, List, ◌≡◌, sym, ◌∙◌, take}
use Rattle.row_format.specs.Lists.Laws.{by-test}
use Rattle.text.specs.Text.{ascii}
use Rattle.text.specs.Same.{same_bytes}
use Rattle.text.specs.Same.Laws.{same_pointwise, same-is}
use Rattle.pgm_reader.proofs.header.begins.Goals as goal

same-turned : (a b : List ℕ) → same_bytes a b ≡ same_bytes b a
same-turned a b =
    by-test (same_bytes a b)
    (λ t. rw (same-is a b t))
    (λ t. by-test (same_bytes b a) (λ u. rw (same-is b a u)) (λ u. t ∙ sym u))

pub returns : goal.returns
returns c =
    let front = take 2 c.args.bytes.now in
    c.starts_with.ensures.value ∙ same_pointwise (ascii "P5") front ∙ same-turned (ascii "P5") front
