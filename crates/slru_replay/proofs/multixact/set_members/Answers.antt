use Rattle.std.proofs.Common.{sym, ◌∙◌, inl, inr, ⊎_elim, arith, rules}
use Rattle.std.proofs.lemmas.Result.{err_from_is_err_and}
use Rattle.file_edits.proofs.OwnLemmas.{own-on, came-on}
use Rattle.slru_replay.proofs.MultiXactLemmas.{members-end, members-more, members-refused}
use Rattle.slru_replay.proofs.multixact.set_members.Goals as goal

pub returns-in_err-set_member-clause-exact : goal.returns-in_err-set_member-clause-exact
returns-in_err-set_member-clause-exact g c told =
    let p = err_from_is_err_and c.from_residual.result c.from_residual.ensures.1 in
    rw (p.1, p.2) (⊎_elim (λ free. inl free)
    (λ is. inr (sym (c.loop-at.invariant.meant told) ∙ members-refused c.args.root.now c.loop-at.place c.args.members.now c.loop-at.at _ (g.F.Tree.contents c.loop-at.tree) _ c.member_at-member.ensures is))
    (c.in_err-set_member.ensures.exact told))

pub loop-at-preserved : goal.loop-at-preserved
loop-at-preserved g c =
    record {
      frame = came-on g.F.Tree _ _ _ c.loop-at.invariant.frame c.set_member.ensures.frame;
      own = λ told. own-on g.F.Tree.calls _ _ _ _ (c.loop-at.invariant.own told) (c.set_member.ensures.own told);
      meant = λ told.
          sym (members-more c.args.root.now c.loop-at.place _ c.args.members.now c.loop-at.at _ (g.F.Tree.contents c.loop-at.tree) (g.F.Tree.contents c.set_member.new.tree) c.member_at-member.ensures (search rules) (c.in_ok-set_member.ensures.exact told))
          ∙ c.loop-at.invariant.meant told;
    }

pub returns-clause-exact : goal.returns-clause-exact
returns-clause-exact g c told =
    sym (c.loop-at.invariant.meant told) ∙ members-end c.args.root.now c.loop-at.place c.args.members.now c.loop-at.at (g.F.Tree.contents c.loop-at.tree) (omega arith)
