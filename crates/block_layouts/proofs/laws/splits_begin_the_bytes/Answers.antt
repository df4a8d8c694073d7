use Rattle.block_layouts.proofs.SplitLemmas.{split_found, split_only}
use Rattle.block_layouts.proofs.laws.splits_begin_the_bytes.Goals as goal

pub returns : goal.returns
returns c = λ with_new bytes split. (split_found with_new bytes split, split_only with_new bytes split)
