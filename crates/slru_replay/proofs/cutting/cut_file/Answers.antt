use Rattle.std.proofs.Common.{◌≡◌, ◌∙◌, true, length, ap, sym, subst}
use Rattle.cluster_tree.specs.PathValue.{PathValue, below}
use Rattle.cluster_tree.specs.PathOrder.{path_eq}
use Rattle.cluster_tree.specs.Folders.{lies_in}
use Rattle.cluster_tree.proofs.PartLemmas.{part_kept, part_admitted}
use Rattle.file_edits.specs.Answers.{Does}
use Rattle.file_edits.proofs.OwnLemmas.{own-wider}
use Rattle.slru_replay.proofs.AreaLemmas.{lies_here}
use Rattle.slru_replay.proofs.CutLemmas.{cut-removed}
use Rattle.slru_replay.proofs.cutting.cut_file.Goals as goal

pub below-requires : goal.below-requires
below-requires g c = record { room = part_admitted (length c.args.folder.now.parts) c.args.name.now c.requires.room c.requires.part }

pub returns-clause-exact : goal.returns-clause-exact
returns-clause-exact g c told =
    let path = c.in_ok-path.ensures ∙ ap (below c.args.folder.now) (part_kept c.args.name.now c.requires.part) in
    let cut = cut-removed c.args.area c.args.first c.args.last c.args.folder.now c.args.name.now (g.F.Tree.contents c.args.tree.now) (sym c.if-not-name_cut.ensures) in
    subst (λ m. Does m (g.F.Tree.contents c.remove_file.new.tree) c.remove_file.result) (sym cut) (rw path at (c.remove_file.ensures.exact told))

pub returns-clause-own : goal.returns-clause-own
returns-clause-own g c told =
    let path = c.in_ok-path.ensures ∙ ap (below c.args.folder.now) (part_kept c.args.name.now c.requires.part) in
    own-wider g.F.Tree.calls (λ q. path_eq q c.in_ok-path.path) (lies_in c.args.folder.now) _ _
    (λ q is. lies_here c.args.folder.now q c.args.name.now (subst (λ (p : PathValue). path_eq q p ≡ true) path is)) (c.remove_file.ensures.own told)
