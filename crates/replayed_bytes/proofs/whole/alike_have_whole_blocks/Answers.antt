use Rattle.replayed_bytes.proofs.WholeLemmas.{alike-whole}
use Rattle.replayed_bytes.proofs.whole.alike_have_whole_blocks.Goals as goal

pub returns : goal.returns
returns g = λ root other per_file c d both whole. alike-whole root other per_file c d both whole
