use Rattle.std.proofs.Common.{Some, refl, sym, ◌∙◌, ap, subst}
use Rattle.replay_profile.specs.Names.{is_block}
use Rattle.first_effects.specs.Gathered.{FirstView, is_known}
use Rattle.first_effects.specs.References.{Gathers}
use Rattle.first_effects.proofs.GatherLemmas.{changes_known, changes_one}
use Rattle.first_effects.proofs.first.FirstEffects.change.Goals as goal

pub returns-then-is_known-clause-ok : goal.returns-then-is_known-clause-ok
returns-then-is_known-clause-ok c = changes_known c.args.name c.args.self.now (sym c.is_known.ensures ∙ c.if-is_known.true)

pub returns-clause-ok : goal.returns-clause-ok
returns-clause-ok c =
    let before : FirstView = record { met = c.self.inside.met.keys; taken = c.self.inside.taken; least = c.self.inside.least } in
    let after : FirstView = record { met = c.insert.new.self.keys; taken = c.self.inside.taken; least = Some c.lesser.result } in
    subst (λ v. Gathers (λ q. is_block q c.args.name) (λ q. is_block q c.args.name) v after) c.self.view_is
    (changes_one c.args.name before after refl (λ q. c.in_ok-insert.ensures.updates.0 q) c.requires.main
    (ap (λ v. is_known c.args.name v) c.self.view_is ∙ sym c.is_known.ensures ∙ c.if-is_known.false) (ap (λ n. Some n) c.lesser.ensures))
