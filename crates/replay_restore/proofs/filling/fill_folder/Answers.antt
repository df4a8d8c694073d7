use Rattle.file_edits.proofs.OwnLemmas.{own-on, own-read}
use Rattle.file_edits.proofs.SparingLemmas.{spared-on, spared-read}
use Rattle.replay_restore.proofs.filling.fill_folder.Goals as goal

pub returns-clause-own : goal.returns-clause-own
returns-clause-own g c told = own-on g.F.Tree.calls _ _ _ _ (own-read g.F.Tree _ _ _ c.is_folder.ensures.frame) (c.make_folder.ensures.own told)

pub returns-clause-spares : goal.returns-clause-spares
returns-clause-spares g c told piece = spared-on g.F.Tree piece _ _ _ (spared-read g.F.Tree piece _ _ c.is_folder.ensures.frame) (c.make_folder.ensures.spares told piece)
