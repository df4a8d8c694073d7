use Rattle.block_layouts.proofs.RestoredLemmas.{restored_found, restored_only}
use Rattle.block_layouts.proofs.laws.restored_tuples_are_the_bytes.Goals as goal

pub returns : goal.returns
returns c = λ bytes tuples. (restored_found bytes tuples, restored_only bytes tuples)
