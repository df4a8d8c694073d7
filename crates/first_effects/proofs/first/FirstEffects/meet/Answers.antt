use Rattle.std.proofs.Common.{false, refl, subst}
use Rattle.replay_profile.specs.Names.{is_block}
use Rattle.first_effects.specs.Gathered.{FirstView}
use Rattle.first_effects.specs.References.{Gathers}
use Rattle.first_effects.proofs.GatherLemmas.{meets_one}
use Rattle.first_effects.proofs.first.FirstEffects.meet.Goals as goal

pub returns-clause-ok : goal.returns-clause-ok
returns-clause-ok c =
    let after : FirstView = record { met = c.insert.new.self.keys; taken = c.self.inside.taken; least = c.self.inside.least } in
    subst (λ v. Gathers (λ q. is_block q c.args.name) (λ _. false) v after) c.self.view_is
    (meets_one c.args.name (record { met = c.self.inside.met.keys; taken = c.self.inside.taken; least = c.self.inside.least }) after refl (λ q. c.in_ok-insert.ensures.updates.0 q) refl)
