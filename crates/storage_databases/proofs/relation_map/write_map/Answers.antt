use Rattle.std.proofs.Common.{subst}
use Rattle.file_edits.specs.Answers.{Does}
use Rattle.file_edits.specs.Edits.{file_edited, on_way}
use Rattle.file_edits.specs.Own.{OnOwn}
use Rattle.std.proofs.Common.{ap, ◌∙◌}
use Rattle.cluster_tree.specs.PathOrder.{path_eq}
use Rattle.cluster_tree.specs.PathValue.{PathValue}
use Rattle.storage_databases.proofs.relation_map.write_map.Goals as goal

pub returns-clause-exact : goal.returns-clause-exact
returns-clause-exact g c told =
    subst (λ p. Does (file_edited c.args.root.now p (λ _. c.args.bytes.now) (g.F.Tree.contents c.args.tree.now)) (g.F.Tree.contents c.write_whole.new.tree) c.write_whole.result) c.in_ok-path.ensures.value (c.write_whole.ensures.exact told)

pub returns-clause-own : goal.returns-clause-own
returns-clause-own g c told =
    subst (λ p. OnOwn g.F.Tree.calls (on_way c.args.root.now p) c.args.tree.now c.write_whole.new.tree) c.in_ok-path.ensures.value (c.write_whole.ensures.own told)

pub returns-clause-spares : goal.returns-clause-spares
returns-clause-spares g c told piece away = c.write_whole.ensures.spares told piece (ap (λ (p : PathValue). path_eq piece.path p) c.in_ok-path.ensures.value ∙ away)
