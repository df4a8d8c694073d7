use Rattle.std.proofs.Common.{◌∙◌, ap, Ok}
use Rattle.file_edits.proofs.EditLemmas.{removed-exact}
use Rattle.file_edits.proofs.OwnLemmas.{own-read, own-on}
use Rattle.file_edits.proofs.removing.remove_file.Goals as goal

pub returns-in-Some-clause-exact : goal.returns-in-Some-clause-exact
returns-in-Some-clause-exact g c told =
    let done = rw c.file_size.ensures.frame.same at (c.remove.ensures.exact told) in
    removed-exact c.args.path.now (g.F.Tree.contents c.args.tree.now) _ _ c.remove.result (c.in_ok-file_size.ensures.exact told ∙ ap (λ o. Ok o) c.in-Some.is) done

pub returns-in-Some-clause-own : goal.returns-in-Some-clause-own
returns-in-Some-clause-own g c told = own-on g.F.Tree.calls _ _ _ _ (own-read g.F.Tree _ _ _ c.file_size.ensures.frame) (c.remove.ensures.own told)
