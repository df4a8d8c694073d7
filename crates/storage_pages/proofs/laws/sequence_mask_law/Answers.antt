use Rattle.std.proofs.Common.{refl}
use Rattle.storage_pages.proofs.SequenceLaws.{operation_is, refusal_is, size_is}
use Rattle.storage_pages.proofs.laws.sequence_mask_law.Goals as goal

pub returns-clause-size : goal.returns-clause-size
returns-clause-size c = size_is

pub returns-clause-mask : goal.returns-clause-mask
returns-clause-mask c = operation_is

pub returns-clause-fresh : goal.returns-clause-fresh
returns-clause-fresh c = λ rec parts id p q. refl

pub returns-clause-refused : goal.returns-clause-refused
returns-clause-refused c = refusal_is
