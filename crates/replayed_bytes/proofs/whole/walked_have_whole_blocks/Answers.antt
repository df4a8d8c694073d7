use Rattle.replayed_bytes.proofs.WholeLemmas.{walked-whole}
use Rattle.replayed_bytes.proofs.whole.walked_have_whole_blocks.Goals as goal

pub returns : goal.returns
returns g = λ c root entries proper walked. walked-whole c root entries proper walked
