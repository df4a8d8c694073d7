use Rattle.std.proofs.Common.{◌≡◌, ◌∙◌, Ok, true, ap, sym, subst, rules}
use Rattle.cluster_tree.specs.Contents.{entry_at}
use Rattle.file_edits.specs.Answers.{Does}
use Rattle.file_edits.specs.Asking.{folder_asked}
use Rattle.file_edits.proofs.AnswerLemmas.{does-unchanged}
use Rattle.file_edits.proofs.ClearLemmas.{there-is, tree-there}
use Rattle.file_edits.proofs.ClearRefusalLemmas.{tree-unchanged}
use Rattle.file_edits.proofs.OwnLemmas.{own-read, own-on}
use Rattle.file_edits.proofs.clearing.remove_tree.Goals as goal

pub returns-clause-exact : goal.returns-clause-exact
returns-clause-exact g c told =
    let yes : c.in_ok-is_folder.field-0 ≡ true = search rules in
    let asked : folder_asked c.args.path.now (entry_at (g.F.Tree.contents c.args.tree.now) c.args.path.now) ≡ Ok true = c.in_ok-is_folder.ensures.exact told ∙ ap (λ b. Ok b) yes in
    let done = rw (c.len.ensures.value, c.is_folder.ensures.frame.same) at (c.clear.ensures.exact told) in
    subst (λ m. Does m (g.F.Tree.contents c.clear.new.tree) c.clear.result) (sym (tree-there c.args.path.now (g.F.Tree.contents c.args.tree.now) asked))
    (done (there-is c.args.path.now (entry_at (g.F.Tree.contents c.args.tree.now) c.args.path.now) asked))

pub returns-clause-changed : goal.returns-clause-changed
returns-clause-changed g c told p =
    does-unchanged _ _ c.clear.result (returns-clause-exact g c told) (tree-unchanged c.args.path.now (g.F.Tree.contents c.args.tree.now)) p

pub returns-clause-own : goal.returns-clause-own
returns-clause-own g c told = own-on g.F.Tree.calls _ _ _ _ (own-read g.F.Tree _ _ _ c.is_folder.ensures.frame) (c.clear.ensures.own told)
