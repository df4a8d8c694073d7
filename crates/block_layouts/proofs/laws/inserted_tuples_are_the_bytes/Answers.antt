use Rattle.block_layouts.proofs.InsertedLemmas.{inserted_found, inserted_only}
use Rattle.block_layouts.proofs.laws.inserted_tuples_are_the_bytes.Goals as goal

pub returns : goal.returns
returns c = λ count bytes tuples. (inserted_found count bytes tuples, inserted_only count bytes tuples)
