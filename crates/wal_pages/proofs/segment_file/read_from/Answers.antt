use Rattle.wal_pages.proofs.PageLemmas.{read_found}
use Rattle.wal_pages.proofs.segment_file.read_from.Goals as goal

pub returns-in-Ok-clause-found : goal.returns-in-Ok-clause-found
returns-in-Ok-clause-found g c = λ tells. read_found c.args.segment _ c.args.offset _ _ c.requires.whole (c.in-Ok.ensures.answer tells)
