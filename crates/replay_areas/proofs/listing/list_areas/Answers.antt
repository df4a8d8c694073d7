use Rattle.std.proofs.Common.{inl, inr, subst, sym, ◌∙◌}
use Rattle.std.proofs.lemmas.Result.{err_from_is_err_and}
use Rattle.replay_list.specs.Text.{IsHeld}
use Rattle.replay_areas.proofs.AnswerLemmas.{is_list, is_listed, not_changed, only_memory, walk_failed}
use Rattle.replay_areas.proofs.listing.list_areas.Goals as goal

pub returns-in_err-entries-clause-exact : goal.returns-in_err-entries-clause-exact
returns-in_err-entries-clause-exact g c told =
    let failed = err_from_is_err_and c.from_residual.result c.from_residual.ensures.1 in
    rw (failed.1, failed.2) (walk_failed (g.F.Tree.contents c.args.tree.now) c.args.root.now c.in_err-entries.field-0.0 (c.in_err-entries.ensures.exact told))

pub returns-in_err-listed_below-clause-exact : goal.returns-in_err-listed_below-clause-exact
returns-in_err-listed_below-clause-exact g c told =
    let failed = err_from_is_err_and c.from_residual-in_err-listed_below.result c.from_residual-in_err-listed_below.ensures.1 in
    rw (failed.1, failed.2)
    (inl (inr (only_memory (g.F.Tree.contents c.args.tree.now) c.args.root.now c.in_ok-entries.entries (c.in_ok-entries.ensures.exact told) c.in_err-listed_below.field-0.0 c.in_err-listed_below.ensures.memory)))

pub returns-in_err-listed_below-clause-changed : goal.returns-in_err-listed_below-clause-changed
returns-in_err-listed_below-clause-changed g c told p is =
    let failed = err_from_is_err_and c.from_residual-in_err-listed_below.result c.from_residual-in_err-listed_below.ensures.1 in
    not_changed (g.F.Tree.contents c.args.tree.now) c.args.root.now c.in_ok-entries.entries (c.in_ok-entries.ensures.exact told) c.in_err-listed_below.field-0.0 p c.in_err-listed_below.ensures.memory (cc (failed.1, failed.2, is))

pub returns-clause-exact : goal.returns-clause-exact
returns-clause-exact g c told =
    is_listed (g.F.Tree.contents c.args.tree.now) c.args.root.now c.in_ok-entries.entries (c.in_ok-entries.ensures.exact told) _ c.in_ok-label.label c.of.result
    c.in_ok-entries.ensures.reads.same (c.in_ok-label.ensures.value told) (c.of.ensures ∙ c.in_ok-listed_below.ensures.value)

pub returns-clause-listed : goal.returns-clause-listed
returns-clause-listed g c told =
    is_list (g.F.Tree.contents c.args.tree.now) c.args.root.now c.in_ok-entries.entries (c.in_ok-entries.ensures.exact told) _ c.in_ok-label.label c.of.result
    c.in_ok-entries.ensures.reads.same (c.in_ok-label.ensures.value told) (c.of.ensures ∙ c.in_ok-listed_below.ensures.value)
    (c.in_ok-entries.ensures.parts told) c.requires.room
    (λ fit. subst (IsHeld c.args.root.now) (sym c.of.ensures) (c.in_ok-listed_below.ensures.held fit c.in_ok-label.ensures.held))
    c.in_ok-listed_below.ensures.few
