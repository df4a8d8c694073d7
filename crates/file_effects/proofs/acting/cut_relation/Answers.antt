use Rattle.std.proofs.Common.{rules}
use Rattle.file_edits.proofs.OwnLemmas.{own-wider}
use Rattle.storage_replay.specs.Files.{is_of_relation}
use Rattle.storage_replay.specs.Sparing.{piece_of}
use Rattle.file_effects.specs.Own.{is_replayed}
use Rattle.file_effects.proofs.OwnLemmas.{relation-replayed}
use Rattle.file_effects.proofs.SparingLemmas.{fork-away, truncate-away}
use Rattle.file_effects.proofs.acting.cut_relation.Goals as goal

pub returns-clause-own : goal.returns-clause-own
returns-clause-own g c told =
    own-wider g.F.Tree.calls (is_of_relation c.args.at.now.root c.args.rel) (is_replayed c.args.at.now.root) _ _ (relation-replayed c.args.at.now.root c.args.rel) (c.truncate.ensures.own told)

pub returns-clause-spares : goal.returns-clause-spares
returns-clause-spares g c told name is free =
    c.truncate.ensures.spares told (piece_of c.args.at.now.root c.args.at.now.per_file name)
    (truncate-away c.args.at.now.root c.args.at.now.per_file c.requires.fit.some name is c.args.rel c.args.blocks c.args.flags (record { database = search rules; relation = search rules }) (search rules) free)
    (fork-away c.args.at.now.root c.args.at.now.per_file c.requires.fit.some name is c.args.rel)
