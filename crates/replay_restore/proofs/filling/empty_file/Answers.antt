use Rattle.file_edits.proofs.OwnLemmas.{own-on, own-read}
use Rattle.replay_restore.proofs.filling.empty_file.Goals as goal

pub returns-in-None-clause-own : goal.returns-in-None-clause-own
returns-in-None-clause-own g c told = own-on g.F.Tree.calls _ _ _ _ (own-read g.F.Tree _ _ _ c.file_size.ensures.frame) (c.make_file.ensures.own told)

pub returns-in-Some-clause-own : goal.returns-in-Some-clause-own
returns-in-Some-clause-own g c told = own-on g.F.Tree.calls _ _ _ _ (own-read g.F.Tree _ _ _ c.file_size.ensures.frame) (c.cut.ensures.own told)
