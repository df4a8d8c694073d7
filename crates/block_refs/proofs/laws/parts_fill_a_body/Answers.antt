use Rattle.block_refs.proofs.FillLemmas.{parts_fill}
use Rattle.block_refs.proofs.laws.parts_fill_a_body.Goals as goal

pub returns : goal.returns
returns c = parts_fill
