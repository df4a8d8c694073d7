use Rattle.std.proofs.Common.{rules}
use Rattle.file_edits.proofs.OwnLemmas.{own-wider}
use Rattle.slru_replay.specs.Area.{is_of_area}
use Rattle.slru_replay.specs.declared.area.Area.TheVariants.{Status}
use Rattle.file_effects.specs.Own.{is_replayed}
use Rattle.file_effects.proofs.DoneLemmas.{own-none, own-set}
use Rattle.file_effects.proofs.OwnLemmas.{area-replayed}
use Rattle.storage_replay.specs.Sparing.{piece_of}
use Rattle.file_edits.proofs.SparingLemmas.{spared-own}
use Rattle.file_effects.proofs.SparingLemmas.{area-away}
use Rattle.file_effects.proofs.ending.set_own.Goals as goal

pub returns-then-xid-eq0-clause-exact : goal.returns-then-xid-eq0-clause-exact
returns-then-xid-eq0-clause-exact g c told = own-none c.args.at.now.root c.args.xid c.args.status (g.F.Tree.contents c.args.tree.now) (search rules)

pub returns-clause-exact : goal.returns-clause-exact
returns-clause-exact g c told =
    own-set c.args.at.now.root c.args.xid c.args.status (g.F.Tree.contents c.args.tree.now) (g.F.Tree.contents c.set_status.new.tree) c.set_status.result (search rules) (c.set_status.ensures.exact told)

pub returns-clause-own : goal.returns-clause-own
returns-clause-own g c told =
    own-wider g.F.Tree.calls (is_of_area c.args.at.now.root Status) (is_replayed c.args.at.now.root) _ _ (area-replayed c.args.at.now.root Status) (c.set_status.ensures.own told)

pub returns-clause-spares : goal.returns-clause-spares
returns-clause-spares g c told name is free = spared-own g.F.Tree (is_of_area c.args.at.now.root Status) (piece_of c.args.at.now.root c.args.at.now.per_file name) _ _ (area-away c.args.at.now.root c.args.at.now.per_file c.requires.fit.some name is Status) c.set_status.ensures.frame (c.set_status.ensures.own told)
