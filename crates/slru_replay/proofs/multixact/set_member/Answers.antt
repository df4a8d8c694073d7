use Rattle.std.proofs.Common.{sym, inl, inr, ⊎_elim, subst}
use Rattle.std.proofs.lemmas.Result.{err_from_is_err_and}
use Rattle.file_edits.specs.Answers.{Does}
use Rattle.slru_replay.proofs.MultiXactLemmas.{member-first, member-then}
use Rattle.slru_replay.proofs.multixact.set_member.Goals as goal

pub returns-in_err-lay_on-clause-exact : goal.returns-in_err-lay_on-clause-exact
returns-in_err-lay_on-clause-exact g c told =
    let p = err_from_is_err_and c.from_residual.result c.from_residual.ensures.1 in
    rw (p.1, p.2) (⊎_elim (λ free. inl free) (λ is. inr (member-first c.args.root.now c.args.offset c.args.member (g.F.Tree.contents c.args.tree.now) _ is)) (c.in_err-lay_on.ensures.exact told))

pub returns-clause-exact : goal.returns-clause-exact
returns-clause-exact g c told =
    let first = member-then c.args.root.now c.args.offset c.args.member (g.F.Tree.contents c.args.tree.now) (g.F.Tree.contents c.lay_on.new.tree) (c.in_ok-lay_on.ensures.exact told) in
    let done = rw c.to_le_bytes.ensures at (c.lay_on-2.ensures.exact told) in
    subst (λ m. Does m (g.F.Tree.contents c.lay_on-2.new.tree) c.lay_on-2.result) (sym first) done
