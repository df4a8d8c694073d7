use Rattle.std.proofs.Common.{◌∙◌, Ok, ap, inl, inr, ⊎_elim, sym}
use Rattle.std.proofs.lemmas.Result.{err_from_is_err_and}
use Rattle.cluster_tree.specs.Frame.{moment_of}
use Rattle.rmgr_hooks.specs.Custom.{handed_in}
use Rattle.stored_replay.specs.Stored.{Begun, told}
use Rattle.replay_restart.specs.Left.{Restarts}
use Rattle.replay_restart.specs.Meant.{NotTaken, taken_of}
use Rattle.replay_restart.proofs.AnewLemmas.{begun-not_first, ended-not_first, from-same, nothing-done, reads-still}
use Rattle.replay_restart.proofs.OverLemmas.{NotChanged, as-any, handed}
use Rattle.replay_restart.proofs.restarting.carry_out.Goals as goal

pub returns-in_err-taken-clause-restarts : goal.returns-in_err-taken-clause-restarts
returns-in_err-taken-clause-restarts g c = λ is_told.
    let a = moment_of g.F.Tree c.args.tree.now in
    let b = moment_of g.F.Tree c.taken.new.tree in
    handed (Restarts _ c.args.root.now a b) c.from_residual.result _ (err_from_is_err_and c.from_residual.result c.from_residual.ensures.1)
    (nothing-done _ c.args.root.now a b _ (reads-still g.F.Tree _ _ c.taken.ensures.reads) (⊎_elim (λ free. inl free) (λ is. inr (NotTaken _ is)) (c.in_err-taken.ensures.exact is_told)))

pub returns-in_err-taken-clause-changed : goal.returns-in_err-taken-clause-changed
returns-in_err-taken-clause-changed g c = λ is_told.
    handed NotChanged c.from_residual.result _ (err_from_is_err_and c.from_residual.result c.from_residual.ensures.1) (as-any _ (c.in_err-taken.ensures.changed is_told))

pub replay_anew-requires-clause-taken : goal.replay_anew-requires-clause-taken
replay_anew-requires-clause-taken g c = λ is_told.
    ap (λ x. taken_of x c.args.root.now) c.taken.ensures.reads.same ∙ c.in_ok-taken.ensures.exact is_told ∙ ap (λ t. Ok (told t)) c.in-NotBegun.is

pub replay_again-requires-clause-taken : goal.replay_again-requires-clause-taken
replay_again-requires-clause-taken g c = λ is_told.
    ap (λ x. taken_of x c.args.root.now) c.taken.ensures.reads.same ∙ c.in_ok-taken.ensures.exact is_told ∙ ap (λ t. Ok (told t)) c.in-Begun.is ∙ ap (λ l. Ok (Begun l)) (sym c.deref.ensures.value)

pub returns-in-Begun-clause-first : goal.returns-in-Begun-clause-first
returns-in-Begun-clause-first g c = λ is_told e why.
    begun-not_first _ (g.F.Tree.contents c.args.tree.now) c.args.root.now _ e (c.in_ok-taken.ensures.exact is_told ∙ ap (λ t. Ok (told t)) c.in-Begun.is) why

pub returns-in-HadEnded-clause-restarts : goal.returns-in-HadEnded-clause-restarts
returns-in-HadEnded-clause-restarts g c = λ is_told.
    from-same _ c.args.root.now (moment_of g.F.Tree c.args.tree.now) (moment_of g.F.Tree c.taken.new.tree) (moment_of g.F.Tree c.end_again.new.tree) c.end_again.result (reads-still g.F.Tree _ _ c.taken.ensures.reads)
    (c.end_again.ensures.restarts is_told (ap (λ x. taken_of x c.args.root.now) c.taken.ensures.reads.same ∙ c.in_ok-taken.ensures.exact is_told ∙ ap (λ t. Ok (told t)) c.in-HadEnded.is) (handed_in g.M.Manager c.args.custom))

pub returns-in-HadEnded-clause-first : goal.returns-in-HadEnded-clause-first
returns-in-HadEnded-clause-first g c = λ is_told e why.
    ended-not_first _ (g.F.Tree.contents c.args.tree.now) c.args.root.now e (c.in_ok-taken.ensures.exact is_told ∙ ap (λ t. Ok (told t)) c.in-HadEnded.is) why

pub returns-in-HadEnded-clause-changed : goal.returns-in-HadEnded-clause-changed
returns-in-HadEnded-clause-changed g c = λ is_told.
    c.end_again.ensures.changed is_told (ap (λ x. taken_of x c.args.root.now) c.taken.ensures.reads.same ∙ c.in_ok-taken.ensures.exact is_told ∙ ap (λ t. Ok (told t)) c.in-HadEnded.is)
