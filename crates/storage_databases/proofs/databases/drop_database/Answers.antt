use Rattle.std.proofs.Common.{length, ap, subst, arith}
use Rattle.std.proofs.lemmas.List.{length-append}
use Rattle.cluster_tree.specs.Apart.{is_held}
use Rattle.cluster_tree.specs.PathValue.{PathValue}
use Rattle.file_edits.specs.Answers.{Does}
use Rattle.file_edits.specs.Clearing.{tree_removed}
use Rattle.file_edits.specs.Own.{OnOwn}
use Rattle.relation_files.specs.Paths.{database_parts}
use Rattle.storage_databases.proofs.databases.drop_database.Goals as goal

pub remove_tree-requires : goal.remove_tree-requires
remove_tree-requires g c =
    record { some = omega (arith, ap (λ (p : PathValue). length p.parts) c.in_ok-folder.ensures.value, length-append c.args.root.now.parts (database_parts c.args.database)) }

pub returns-clause-exact : goal.returns-clause-exact
returns-clause-exact g c told =
    subst (λ p. Does (tree_removed p (g.F.Tree.contents c.args.tree.now)) (g.F.Tree.contents c.remove_tree.new.tree) c.remove_tree.result) c.in_ok-folder.ensures.value (c.remove_tree.ensures.exact told)

pub returns-clause-own : goal.returns-clause-own
returns-clause-own g c told =
    subst (λ p. OnOwn g.F.Tree.calls (is_held p) c.args.tree.now c.remove_tree.new.tree) c.in_ok-folder.ensures.value (c.remove_tree.ensures.own told)
