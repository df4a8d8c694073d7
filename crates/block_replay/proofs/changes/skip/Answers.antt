use Rattle.file_edits.proofs.OwnLemmas.{own-wider}
use Rattle.file_effects.proofs.OwnLemmas.{relation-replayed}
use Rattle.storage_replay.specs.Sparing.{piece_of}
use Rattle.block_replay.proofs.changes.skip.Goals as goal

pub returns-in_err-create-clause-own : goal.returns-in_err-create-clause-own
returns-in_err-create-clause-own g c told = own-wider g.F.Tree.calls _ _ _ _ (relation-replayed c.args.at.now.root c.args.name.rel) (c.create.ensures.own told)

pub returns-in_err-add-clause-own : goal.returns-in_err-add-clause-own
returns-in_err-add-clause-own g c told = own-wider g.F.Tree.calls _ _ _ _ (relation-replayed c.args.at.now.root c.args.name.rel) (c.create.ensures.own told)

pub returns-clause-own : goal.returns-clause-own
returns-clause-own g c told = own-wider g.F.Tree.calls _ _ _ _ (relation-replayed c.args.at.now.root c.args.name.rel) (c.create.ensures.own told)

pub returns-in_err-create-clause-spares : goal.returns-in_err-create-clause-spares
returns-in_err-create-clause-spares g c told name is free = c.create.ensures.spares told (piece_of c.args.at.now.root c.args.at.now.per_file name)

pub returns-in_err-add-clause-spares : goal.returns-in_err-add-clause-spares
returns-in_err-add-clause-spares g c told name is free = c.create.ensures.spares told (piece_of c.args.at.now.root c.args.at.now.per_file name)

pub returns-clause-spares : goal.returns-clause-spares
returns-clause-spares g c told name is free = c.create.ensures.spares told (piece_of c.args.at.now.root c.args.at.now.per_file name)
