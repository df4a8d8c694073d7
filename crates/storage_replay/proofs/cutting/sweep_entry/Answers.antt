use Rattle.std.proofs.Common.{length, ap, sym, ◌∙◌}
use Rattle.cluster_tree.specs.PathValue.{below}
use Rattle.cluster_tree.specs.PathOrder.{path_eq}
use Rattle.cluster_tree.proofs.PartLemmas.{part_kept, part_admitted}
use Rattle.file_edits.proofs.OwnLemmas.{own-wider}
use Rattle.storage_replay.specs.Files.{is_file_in}
use Rattle.storage_replay.proofs.CutLemmas.{entry-kept, entry-goes, swept-number}
use Rattle.storage_replay.proofs.OwnLemmas.{named-in}
use Rattle.file_edits.proofs.SparingLemmas.{spared-own}
use Rattle.storage_replay.proofs.SparingLemmas.{unswept-apart}
use Rattle.storage_replay.proofs.cutting.sweep_entry.Goals as goal

pub below-requires : goal.below-requires
below-requires g c = record { room = part_admitted (length c.args.folder.now.parts) c.args.name.now c.requires.room c.requires.part }

pub returns-then-not-name_swept-clause-exact : goal.returns-then-not-name_swept-clause-exact
returns-then-not-name_swept-clause-exact g c told =
    entry-kept c.args.sweep c.args.relation c.args.folder.now c.args.name.now (g.F.Tree.contents c.args.tree.now) (sym c.if-not-name_swept.ensures)

pub returns-clause-exact : goal.returns-clause-exact
returns-clause-exact g c told =
    entry-goes c.args.sweep c.args.relation c.args.folder.now c.in_ok-path.path c.args.name.now (g.F.Tree.contents c.args.tree.now) (g.F.Tree.contents c.sweep_file.new.tree) c.sweep_file.result
    (sym c.if-not-name_swept.ensures) (c.in_ok-path.ensures ∙ ap (below c.args.folder.now) (part_kept c.args.name.now c.requires.part)) (c.sweep_file.ensures.exact told)

pub returns-clause-own : goal.returns-clause-own
returns-clause-own g c told =
    own-wider g.F.Tree.calls (λ q. path_eq q c.in_ok-path.path) (is_file_in c.args.folder.now c.args.relation) _ _
    (λ q is. named-in c.args.folder.now q c.args.relation c.args.name.now (swept-number c.args.sweep c.args.relation c.args.name.now (sym c.if-not-name_swept.ensures)) (ap (path_eq q) (sym (c.in_ok-path.ensures ∙ ap (below c.args.folder.now) (part_kept c.args.name.now c.requires.part))) ∙ is))
    (c.sweep_file.ensures.own told)

pub returns-clause-spares : goal.returns-clause-spares
returns-clause-spares g c told piece away = spared-own g.F.Tree (λ q. path_eq q c.in_ok-path.path) piece _ _ (unswept-apart c.args.folder.now c.in_ok-path.path piece.path c.args.sweep c.args.relation c.args.name.now (sym c.if-not-name_swept.ensures) (c.in_ok-path.ensures ∙ ap (below c.args.folder.now) (part_kept c.args.name.now c.requires.part)) away) c.sweep_file.ensures.frame (c.sweep_file.ensures.own told)
