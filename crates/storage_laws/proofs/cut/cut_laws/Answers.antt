use Rattle.storage_laws.proofs.CutLemmas.{cut-is}
use Rattle.storage_laws.proofs.ForkLemmas.{cut-whole}
use Rattle.storage_laws.proofs.TruncateLemmas.{truncated-is}
use Rattle.storage_laws.proofs.cut.cut_laws.Goals as goal

pub returns-clause-blocks : goal.returns-clause-blocks
returns-clause-blocks c = cut-is

pub returns-clause-whole : goal.returns-clause-whole
returns-clause-whole c = cut-whole

pub returns-clause-truncated : goal.returns-clause-truncated
returns-clause-truncated c = truncated-is
