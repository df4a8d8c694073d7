use Rattle.btree_laws.proofs.Fresh.{size_kept, zeros_same, fresh_same}
use Rattle.btree_laws.proofs.Replayed.{record_law}
use Rattle.btree_laws.proofs.laws.btree_mask_law.Goals as goal

pub returns-clause-size : goal.returns-clause-size
returns-clause-size c = size_kept

pub returns-clause-mask : goal.returns-clause-mask
returns-clause-mask c = λ rec parts id block. record_law block rec parts id

pub returns-clause-zeros : goal.returns-clause-zeros
returns-clause-zeros c = zeros_same

pub returns-clause-fresh : goal.returns-clause-fresh
returns-clause-fresh c = fresh_same
