use Rattle.std.proofs.Common.{◌∙◌, ap, ◌==◌, ◌||◌}
use Rattle.touched_blocks.specs.Chunk.{is_set}
use Rattle.touched_blocks.proofs.BitLemmas.{none_set}
use Rattle.touched_blocks.proofs.chunk.Chunk.of.Goals as goal

-- src/chunk.rt:45:5
pub returns : goal.returns
returns c = λ i. ap (λ bytes. is_set bytes i) (c.in_ok-bytes.ensures.ok) ∙ c.set_in.ensures i ∙ ap (λ b. b || c.args.at == i) (none_set 8192 i)
