use Rattle.cluster_tree.specs.Apart.{is_held}
use Rattle.file_edits.specs.Edits.{on_way}
use Rattle.file_edits.proofs.OwnLemmas.{own-wider}
use Rattle.slru_replay.specs.Area.{is_of_area}
use Rattle.slru_replay.specs.MultiXact.{is_of_multixacts}
use Rattle.slru_replay.specs.declared.area.Area.TheVariants.{Status}
use Rattle.storage_databases.specs.Databases.{database_folder, version_file}
use Rattle.storage_databases.specs.RelationMap.{is_of_map, update_in}
use Rattle.storage_replay.specs.Files.{is_of_relation}
use Rattle.file_effects.specs.Own.{is_replayed}
use Rattle.file_effects.proofs.OwnLemmas.{area-replayed, database-replayed, map-replayed, multis-replayed, relation-replayed, version-replayed}
use Rattle.storage_replay.specs.Sparing.{piece_of}
use Rattle.file_edits.proofs.SparingLemmas.{spared-own}
use Rattle.file_effects.proofs.SparingLemmas.{area-away, database-away, map-away, multis-away, version-away}
use Rattle.std.proofs.Common.{rules}
use Rattle.std.proofs.Common.{refl}
use Rattle.file_effects.specs.Touched.{takes_block}
use Rattle.file_effects.specs.declared.effect.FileEffect.{FileEffect}
use Rattle.std.proofs.Common.{ap, sym, ◌∙◌}
use Rattle.file_effects.proofs.acting.carry_out.Goals as goal

pub returns-in-Create-clause-own : goal.returns-in-Create-clause-own
returns-in-Create-clause-own g c told =
    own-wider g.F.Tree.calls (is_of_relation c.args.at.now.root c.in-Create.made.rel) (is_replayed c.args.at.now.root) _ _ (relation-replayed c.args.at.now.root c.in-Create.made.rel) (c.create.ensures.own told)

pub returns-in-ZeroPage-clause-own : goal.returns-in-ZeroPage-clause-own
returns-in-ZeroPage-clause-own g c told =
    own-wider g.F.Tree.calls (is_of_area c.args.at.now.root c.in-ZeroPage.area) (is_replayed c.args.at.now.root) _ _ (area-replayed c.args.at.now.root c.in-ZeroPage.area) (c.zero_page.ensures.own told)

pub returns-in-CutStatus-clause-own : goal.returns-in-CutStatus-clause-own
returns-in-CutStatus-clause-own g c told =
    own-wider g.F.Tree.calls (is_of_area c.args.at.now.root Status) (is_replayed c.args.at.now.root) _ _ (area-replayed c.args.at.now.root Status) (c.cut_before.ensures.own told)

pub returns-in_err-add_multi-in-AddMulti-clause-own : goal.returns-in_err-add_multi-in-AddMulti-clause-own
returns-in_err-add_multi-in-AddMulti-clause-own g c told =
    own-wider g.F.Tree.calls (is_of_multixacts c.args.at.now.root) (is_replayed c.args.at.now.root) _ _ (multis-replayed c.args.at.now.root) (c.add_multi.ensures.own told)

pub returns-in_ok-add_multi-in-AddMulti-clause-own : goal.returns-in_ok-add_multi-in-AddMulti-clause-own
returns-in_ok-add_multi-in-AddMulti-clause-own g c told =
    own-wider g.F.Tree.calls (is_of_multixacts c.args.at.now.root) (is_replayed c.args.at.now.root) _ _ (multis-replayed c.args.at.now.root) (c.add_multi.ensures.own told)

pub returns-in_err-write_relation_map-in-WriteMap-clause-own : goal.returns-in_err-write_relation_map-in-WriteMap-clause-own
returns-in_err-write_relation_map-in-WriteMap-clause-own g c told =
    own-wider g.F.Tree.calls (is_of_map c.args.at.now.root (update_in c.args.rec.now c.args.parts.now)) (is_replayed c.args.at.now.root) _ _
    (map-replayed c.args.at.now.root (update_in c.args.rec.now c.args.parts.now)) (c.write_relation_map.ensures.own told)

pub returns-in_ok-write_relation_map-in-WriteMap-clause-own : goal.returns-in_ok-write_relation_map-in-WriteMap-clause-own
returns-in_ok-write_relation_map-in-WriteMap-clause-own g c told =
    own-wider g.F.Tree.calls (is_of_map c.args.at.now.root (update_in c.args.rec.now c.args.parts.now)) (is_replayed c.args.at.now.root) _ _
    (map-replayed c.args.at.now.root (update_in c.args.rec.now c.args.parts.now)) (c.write_relation_map.ensures.own told)

pub returns-in-MakeDatabase-clause-own : goal.returns-in-MakeDatabase-clause-own
returns-in-MakeDatabase-clause-own g c told =
    own-wider g.F.Tree.calls (on_way c.args.at.now.root (version_file c.args.at.now.root c.in-MakeDatabase.database)) (is_replayed c.args.at.now.root) _ _
    (version-replayed c.args.at.now.root c.in-MakeDatabase.database) (c.make_database.ensures.own told)

pub returns-in-DropDatabase-clause-own : goal.returns-in-DropDatabase-clause-own
returns-in-DropDatabase-clause-own g c told =
    own-wider g.F.Tree.calls (is_held (database_folder c.args.at.now.root c.in-DropDatabase.database)) (is_replayed c.args.at.now.root) _ _
    (database-replayed c.args.at.now.root c.in-DropDatabase.database) (c.drop_database.ensures.own told)

pub returns-in-End-clause-spares : goal.returns-in-End-clause-spares
returns-in-End-clause-spares g c told name is free = c.end_transaction.ensures.spares told name is (ap (λ (e : FileEffect). takes_block e name) (sym c.in-End.is) ∙ free)

pub returns-in-Create-clause-spares : goal.returns-in-Create-clause-spares
returns-in-Create-clause-spares g c told name is free = c.create.ensures.spares told (piece_of c.args.at.now.root c.args.at.now.per_file name)

pub returns-in-Truncate-clause-spares : goal.returns-in-Truncate-clause-spares
returns-in-Truncate-clause-spares g c told name is free = c.cut_relation.ensures.spares told name is (ap (λ (e : FileEffect). takes_block e name) (sym c.in-Truncate.is) ∙ free)

pub returns-in-ZeroPage-clause-spares : goal.returns-in-ZeroPage-clause-spares
returns-in-ZeroPage-clause-spares g c told name is free = spared-own g.F.Tree (is_of_area c.args.at.now.root c.in-ZeroPage.area) (piece_of c.args.at.now.root c.args.at.now.per_file name) _ _ (area-away c.args.at.now.root c.args.at.now.per_file c.requires.fit.some name is c.in-ZeroPage.area) c.zero_page.ensures.frame (c.zero_page.ensures.own told)

pub returns-in-CutStatus-clause-spares : goal.returns-in-CutStatus-clause-spares
returns-in-CutStatus-clause-spares g c told name is free = spared-own g.F.Tree (is_of_area c.args.at.now.root Status) (piece_of c.args.at.now.root c.args.at.now.per_file name) _ _ (area-away c.args.at.now.root c.args.at.now.per_file c.requires.fit.some name is Status) c.cut_before.ensures.frame (c.cut_before.ensures.own told)

pub returns-in_err-add_multi-in-AddMulti-clause-spares : goal.returns-in_err-add_multi-in-AddMulti-clause-spares
returns-in_err-add_multi-in-AddMulti-clause-spares g c told name is free = spared-own g.F.Tree (is_of_multixacts c.args.at.now.root) (piece_of c.args.at.now.root c.args.at.now.per_file name) _ _ (multis-away c.args.at.now.root c.args.at.now.per_file c.requires.fit.some name is) c.add_multi.ensures.frame (c.add_multi.ensures.own told)

pub returns-in_ok-add_multi-in-AddMulti-clause-spares : goal.returns-in_ok-add_multi-in-AddMulti-clause-spares
returns-in_ok-add_multi-in-AddMulti-clause-spares g c told name is free = spared-own g.F.Tree (is_of_multixacts c.args.at.now.root) (piece_of c.args.at.now.root c.args.at.now.per_file name) _ _ (multis-away c.args.at.now.root c.args.at.now.per_file c.requires.fit.some name is) c.add_multi.ensures.frame (c.add_multi.ensures.own told)

pub returns-in-CutMultis-clause-spares : goal.returns-in-CutMultis-clause-spares
returns-in-CutMultis-clause-spares g c told name is free = c.cut_multis.ensures.spares told name is refl

pub returns-in_err-write_relation_map-in-WriteMap-clause-spares : goal.returns-in_err-write_relation_map-in-WriteMap-clause-spares
returns-in_err-write_relation_map-in-WriteMap-clause-spares g c told name is free = c.write_relation_map.ensures.spares told (piece_of c.args.at.now.root c.args.at.now.per_file name) (map-away c.args.at.now.root c.args.at.now.per_file c.requires.fit.some name is)

pub returns-in_ok-write_relation_map-in-WriteMap-clause-spares : goal.returns-in_ok-write_relation_map-in-WriteMap-clause-spares
returns-in_ok-write_relation_map-in-WriteMap-clause-spares g c told name is free = c.write_relation_map.ensures.spares told (piece_of c.args.at.now.root c.args.at.now.per_file name) (map-away c.args.at.now.root c.args.at.now.per_file c.requires.fit.some name is)

pub returns-in-MakeDatabase-clause-spares : goal.returns-in-MakeDatabase-clause-spares
returns-in-MakeDatabase-clause-spares g c told name is free = c.make_database.ensures.spares told (piece_of c.args.at.now.root c.args.at.now.per_file name) (version-away c.args.at.now.root c.args.at.now.per_file c.requires.fit.some name is c.in-MakeDatabase.database)

pub returns-in-DropDatabase-clause-spares : goal.returns-in-DropDatabase-clause-spares
returns-in-DropDatabase-clause-spares g c told name is free = spared-own g.F.Tree (is_held (database_folder c.args.at.now.root c.in-DropDatabase.database)) (piece_of c.args.at.now.root c.args.at.now.per_file name) _ _ (database-away c.args.at.now.root c.args.at.now.per_file c.requires.fit.some name is c.in-DropDatabase.database (search rules) (ap (λ (e : FileEffect). takes_block e name) (sym c.in-DropDatabase.is) ∙ free)) c.drop_database.ensures.frame (c.drop_database.ensures.own told)
