use Rattle.rmgr_hooks.specs.Custom.{handed_in}
use Rattle.record_effects.specs.Acts.{act_on}
use Rattle.first_effects.specs.References.{is_change, is_effect}
use Rattle.std.proofs.Common.{subst, sym}
use Rattle.first_effects.specs.First.{IsOneOf}
use Rattle.first_effects.proofs.EffectLemmas.{on_err}
use Rattle.first_effects.proofs.GatherLemmas.{gathers_next, gathers_one}
use Rattle.first_effects.proofs.first.FirstEffects.add_references.Goals as goal

pub returns-in_err-add_at-clause-err : goal.returns-in_err-add_at-clause-err
returns-in_err-add_at-clause-err g c =
    on_err c.from_residual.result _ (λ is_it least.
    subst (IsOneOf _) (sym c.in_err-add_at.ensures.err)
    (gathers_one (λ block. is_effect (act_on (handed_in g.M.Manager c.args.custom) c.args.rec.now c.args.parts.now block)) (λ block. is_change (act_on (handed_in g.M.Manager c.args.custom) c.args.rec.now c.args.parts.now block))
    c.args.parts.now.blocks c.args.self.now c.loop-at.at c.loop-at.self is_it c.loop-at.invariant least))

pub loop-at-preserved : goal.loop-at-preserved
loop-at-preserved g c =
    gathers_next (λ block. is_effect (act_on (handed_in g.M.Manager c.args.custom) c.args.rec.now c.args.parts.now block)) (λ block. is_change (act_on (handed_in g.M.Manager c.args.custom) c.args.rec.now c.args.parts.now block))
    c.args.parts.now.blocks c.args.self.now c.loop-at.at c.loop-at.self c.add_at.new.self c.requires.known c.loop-at.invariant c.in_ok-add_at.ensures.ok
