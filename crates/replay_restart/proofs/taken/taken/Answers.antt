use Rattle.std.proofs.Common.{◌∙◌, Ok, ap, subst}
use Rattle.stored_replay.specs.Stored.{IsTold, told}
use Rattle.replay_restart.proofs.TakenLemmas.{can-go_on}
use Rattle.stored_replay.specs.declared.stored.StoredReplay.TheVariants as stored
use Rattle.replay_restart.proofs.taken.taken.Goals as goal

pub returns-in-Begun-clause-on : goal.returns-in-Begun-clause-on
returns-in-Begun-clause-on g c = λ is_told.
    can-go_on _ (g.F.Tree.contents c.args.tree.now) c.args.root.now (stored.Begun c.in-Begun.listed) c.at_place.result (g.met.F.Tree.is_tree is_told c.args.tree.now) (c.in_ok-stored_replay.ensures.exact is_told ∙ ap (λ t. Ok (told t)) c.in-Begun.is) (subst (IsTold c.args.root.now) c.in-Begun.is c.in_ok-stored_replay.ensures.made) c.at_place.ensures.value
