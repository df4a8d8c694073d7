use Rattle.file_edits.proofs.OwnLemmas.{own-wider}
use Rattle.storage_replay.specs.Files.{is_of_relation}
use Rattle.file_effects.specs.Own.{is_replayed}
use Rattle.file_effects.proofs.DoneLemmas.{clear-none, clear-some}
use Rattle.file_effects.proofs.OwnLemmas.{relation-replayed}
use Rattle.storage_replay.specs.Sparing.{piece_of}
use Rattle.file_effects.proofs.SparingLemmas.{fork-away}
use Rattle.file_effects.proofs.bits.clear_one.Goals as goal

pub returns-in-None-clause-exact : goal.returns-in-None-clause-exact
returns-in-None-clause-exact g c told = clear-none c.args.at.now.root c.args.at.now.per_file c.args.clearing (g.F.Tree.contents c.args.tree.now) c.in-None.is

pub returns-in-Some-clause-exact : goal.returns-in-Some-clause-exact
returns-in-Some-clause-exact g c told =
    clear-some c.args.at.now.root c.args.at.now.per_file c.args.clearing c.in-Some.one (g.F.Tree.contents c.args.tree.now) (g.F.Tree.contents c.map_bits.new.tree) c.map_bits.result c.in-Some.is
    (rw c.bits_number-bits.ensures.value at (c.map_bits.ensures.exact told))

pub returns-in-Some-clause-own : goal.returns-in-Some-clause-own
returns-in-Some-clause-own g c told =
    own-wider g.F.Tree.calls (is_of_relation c.args.at.now.root c.in-Some.one.rel) (is_replayed c.args.at.now.root) _ _ (relation-replayed c.args.at.now.root c.in-Some.one.rel) (c.map_bits.ensures.own told)

pub returns-in-Some-clause-spares : goal.returns-in-Some-clause-spares
returns-in-Some-clause-spares g c told name is free = c.map_bits.ensures.spares told (piece_of c.args.at.now.root c.args.at.now.per_file name) (fork-away c.args.at.now.root c.args.at.now.per_file c.requires.fit.some name is c.in-Some.one.rel)
