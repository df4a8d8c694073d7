use Rattle.storage_laws.proofs.ForkLemmas.{written-page}
use Rattle.storage_laws.proofs.PutLemmas.{written-is}
use Rattle.storage_laws.proofs.written.written_laws.Goals as goal

pub returns-clause-blocks : goal.returns-clause-blocks
returns-clause-blocks c = written-is

pub returns-clause-pages : goal.returns-clause-pages
returns-clause-pages c = written-page
