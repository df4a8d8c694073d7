use Rattle.std.proofs.Common.{◌≡◌, ◌∙◌, Some, None, ap, sym}
use Rattle.std.proofs.lemmas.Result.{err_from_is_err_and}
use Rattle.file_edits.specs.Edits.{on_way}
use Rattle.file_edits.proofs.OwnLemmas.{own-wider}
use Rattle.record_layouts.specs.RelMap.{relmap_update_of}
use Rattle.storage_databases.specs.RelationMap.{is_of_map, map_file, map_written, update_in}
use Rattle.file_edits.proofs.AnswerLemmas.{handed-on}
use Rattle.storage_databases.proofs.WholeLemmas.{map-refused, map-done, map-own}
use Rattle.storage_databases.proofs.relation_map.write_relation_map.Goals as goal

pub returns-in_err-write_map-in-Some-clause-exact : goal.returns-in_err-write_map-in-Some-clause-exact
returns-in_err-write_map-in-Some-clause-exact g c told =
    let some : update_in c.args.rec.now c.args.parts.now ≡ Some c.in-Some.update = ap relmap_update_of (sym c.main_bytes.ensures.value) ∙ sym c.read.ensures ∙ c.in-Some.is in
    handed-on _ _ c.from_residual.result _ (err_from_is_err_and c.from_residual.result c.from_residual.ensures.1)
    (map-refused c.args.root.now (update_in c.args.rec.now c.args.parts.now) c.in-Some.update (g.F.Tree.contents c.args.tree.now) some _ (rw c.slice.ensures at (c.in_err-write_map-in-Some.ensures.exact told)))

pub returns-in_err-write_map-in-Some-clause-own : goal.returns-in_err-write_map-in-Some-clause-own
returns-in_err-write_map-in-Some-clause-own g c told =
    let some : update_in c.args.rec.now c.args.parts.now ≡ Some c.in-Some.update = ap relmap_update_of (sym c.main_bytes.ensures.value) ∙ sym c.read.ensures ∙ c.in-Some.is in
    own-wider g.F.Tree.calls (on_way c.args.root.now (map_file c.args.root.now c.in-Some.update.database)) (is_of_map c.args.root.now (update_in c.args.rec.now c.args.parts.now)) _ _
    (map-own c.args.root.now (update_in c.args.rec.now c.args.parts.now) c.in-Some.update (g.F.Tree.contents c.args.tree.now) some) (c.write_map.ensures.own told)

pub returns-in-None-clause-exact : goal.returns-in-None-clause-exact
returns-in-None-clause-exact g c told =
    let none : update_in c.args.rec.now c.args.parts.now ≡ None = ap relmap_update_of (sym c.main_bytes.ensures.value) ∙ sym c.read.ensures ∙ c.in-None.is in
    ap (λ o. map_written c.args.root.now o (g.F.Tree.contents c.args.tree.now)) none

pub returns-in_ok-write_map-in-Some-clause-exact : goal.returns-in_ok-write_map-in-Some-clause-exact
returns-in_ok-write_map-in-Some-clause-exact g c told =
    let some : update_in c.args.rec.now c.args.parts.now ≡ Some c.in-Some.update = ap relmap_update_of (sym c.main_bytes.ensures.value) ∙ sym c.read.ensures ∙ c.in-Some.is in
    map-done c.args.root.now (update_in c.args.rec.now c.args.parts.now) c.in-Some.update (g.F.Tree.contents c.args.tree.now) some (g.F.Tree.contents c.write_map.new.tree) (rw c.slice.ensures at (c.in_ok-write_map-in-Some.ensures.exact told))

pub returns-in_ok-write_map-in-Some-clause-own : goal.returns-in_ok-write_map-in-Some-clause-own
returns-in_ok-write_map-in-Some-clause-own g c told =
    let some : update_in c.args.rec.now c.args.parts.now ≡ Some c.in-Some.update = ap relmap_update_of (sym c.main_bytes.ensures.value) ∙ sym c.read.ensures ∙ c.in-Some.is in
    own-wider g.F.Tree.calls (on_way c.args.root.now (map_file c.args.root.now c.in-Some.update.database)) (is_of_map c.args.root.now (update_in c.args.rec.now c.args.parts.now)) _ _
    (map-own c.args.root.now (update_in c.args.rec.now c.args.parts.now) c.in-Some.update (g.F.Tree.contents c.args.tree.now) some) (c.write_map.ensures.own told)

pub returns-in_err-write_map-in-Some-clause-spares : goal.returns-in_err-write_map-in-Some-clause-spares
returns-in_err-write_map-in-Some-clause-spares g c told piece away = c.write_map.ensures.spares told piece (away c.in-Some.update.database)

pub returns-in_ok-write_map-in-Some-clause-spares : goal.returns-in_ok-write_map-in-Some-clause-spares
returns-in_ok-write_map-in-Some-clause-spares g c told piece away = c.write_map.ensures.spares told piece (away c.in-Some.update.database)
