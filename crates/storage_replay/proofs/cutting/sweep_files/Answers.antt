use Rattle.std.proofs.Common.{length, ap, sym, ◌∙◌, arith}
use Rattle.std.proofs.lemmas.Result.{err_from_is_err_and}
use Rattle.cluster_tree.specs.PathValue.{PathValue}
use Rattle.file_edits.proofs.OwnLemmas.{own-read, own-on, own-wider}
use Rattle.relation_files.proofs.PathLemmas.{length-relation_folder}
use Rattle.storage_replay.specs.Files.{is_file_in, is_of_relation}
use Rattle.file_edits.proofs.AnswerLemmas.{handed-on}
use Rattle.storage_replay.proofs.CutLemmas.{sweep-refused, sweep-listed}
use Rattle.storage_replay.proofs.OwnLemmas.{in-relation}
use Rattle.file_edits.proofs.SparingLemmas.{spared-on, spared-read}
use Rattle.storage_replay.specs.Sparing.{is_swept_in}
use Rattle.storage_replay.proofs.cutting.sweep_files.Goals as goal

pub sweep_names-requires-clause-room : goal.sweep_names-requires-clause-room
sweep_names-requires-clause-room g c =
    omega (arith, c.requires.room, (length-relation_folder c.args.root.now c.args.rel).1, ap (λ (p : PathValue). length p.parts) c.in_ok-folder.ensures.value)

pub returns-in_err-names-clause-exact : goal.returns-in_err-names-clause-exact
returns-in_err-names-clause-exact g c told =
    handed-on _ _ c.from_residual-in_err-names.result _ (err_from_is_err_and c.from_residual-in_err-names.result c.from_residual-in_err-names.ensures.1)
    (sweep-refused c.args.root.now c.in_ok-folder.folder c.args.sweep c.args.rel (g.F.Tree.contents c.args.tree.now) _ c.in_ok-folder.ensures.value (c.in_err-names.ensures.exact told))

pub returns-clause-exact : goal.returns-clause-exact
returns-clause-exact g c told =
    sweep-listed c.args.root.now c.in_ok-folder.folder c.args.sweep c.args.rel c.in_ok-names.names (g.F.Tree.contents c.args.tree.now) (g.F.Tree.contents c.names_of.new.tree) (g.F.Tree.contents c.sweep_names.new.tree) c.sweep_names.result
    c.in_ok-folder.ensures.value (c.in_ok-names.ensures.exact told) c.names_of.ensures.frame.same (c.sweep_names.ensures.exact told)

pub returns-clause-own : goal.returns-clause-own
returns-clause-own g c told =
    own-on g.F.Tree.calls _ _ _ _ (own-read g.F.Tree _ _ _ c.names_of.ensures.frame)
    (own-wider g.F.Tree.calls (is_file_in c.in_ok-folder.folder c.args.rel.relation) (is_of_relation c.args.root.now c.args.rel) _ _
    (λ q is. in-relation c.args.root.now c.args.rel q (ap (λ f. is_file_in f c.args.rel.relation q) (sym c.in_ok-folder.ensures.value) ∙ is)) (c.sweep_names.ensures.own told))

pub returns-clause-spares : goal.returns-clause-spares
returns-clause-spares g c told piece away = spared-on g.F.Tree piece _ _ _ (spared-read g.F.Tree piece _ _ c.names_of.ensures.frame) (c.sweep_names.ensures.spares told piece (ap (λ (f : PathValue). is_swept_in f c.args.sweep c.args.rel.relation piece.path) c.in_ok-folder.ensures.value ∙ away))
