use Rattle.storage_replay.specs.Sparing.{piece_of}
use Rattle.file_edits.proofs.SparingLemmas.{spared-on, spared-read}
use Rattle.block_replay.proofs.changes.change.Goals as goal

pub returns-clause-spares : goal.returns-clause-spares
returns-clause-spares g c told name is free = spared-on g.F.Tree (piece_of c.args.at.now.root c.args.at.now.per_file name) _ _ _ (spared-read g.F.Tree (piece_of c.args.at.now.root c.args.at.now.per_file name) _ _ c.read_page.ensures.frame) (c.change_found.ensures.spares told name is free)
