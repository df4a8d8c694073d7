use Rattle.btree_laws.proofs.PostingReplayed.{posting_law, posting_size}
use Rattle.btree_laws.proofs.laws.posting_mask_law.Goals as goal

pub returns-clause-size : goal.returns-clause-size
returns-clause-size c = posting_size

pub returns-clause-mask : goal.returns-clause-mask
returns-clause-mask c = λ rec parts id block. posting_law block rec parts id
