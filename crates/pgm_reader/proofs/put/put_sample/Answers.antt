-- `pgm_reader::put::put_sample` meets its contract: two bytes are written over. Assumes nothing.
use Rattle.std.specs.Prelude.{ℕ, ◌/◌, ◌%◌, ◌≡◌, [], ◌∷◌}
use Rattle.std.proofs.Common.{◌∙◌, ap, arith, refl}
use Rattle.bitstream.specs.Memory.Part.{part-overwritten}
use Rattle.pgm_reader.proofs.put.put_sample.Goals as goal

pub returns : goal.returns
returns c =
    let high : c.args.height / 256 % 256 ≡ c.args.height / 256 = omega (arith, c.requires.height_bound) in
    let bytes = c.copy_from_slice.ensures.after ∙ c.to_be_bytes.ensures ∙ ap (λ (x : ℕ). x ∷ c.args.height % 256 ∷ []) high in
    record { next = refl; memory = rw bytes (part-overwritten c.args.at 2 c.args.out.now (c.args.height / 256 ∷ c.args.height % 256 ∷ []) refl) }
