use Rattle.block_layouts.proofs.PostingSpelling.{posting}
use Rattle.block_layouts.proofs.laws.posting_updates_are_spelled.Goals as goal

pub returns : goal.returns
returns c = posting
