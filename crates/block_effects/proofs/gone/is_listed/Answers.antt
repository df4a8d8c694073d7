use Rattle.std.proofs.Common.{◌∙◌, sym}
use Rattle.std.specs.List.{list_any}
use Rattle.block_refs.specs.declared.names.RelName.{RelName}
use Rattle.replay_profile.specs.Names.{is_rel}
use Rattle.replay_profile.proofs.ListLemmas.{any_on, any_stops}
use Rattle.block_effects.proofs.gone.is_listed.Goals as goal

pub returns-then-is_listed_at : goal.returns-then-is_listed_at
returns-then-is_listed_at c =
    any_stops (λ (r : RelName). is_rel r c.args.rel) c.args.rels.now c.loop-at.at
    (list_any (λ (r : RelName). is_rel r c.args.rel) c.args.rels.now) c.loop-at.invariant
    (sym c.is_listed_at.ensures ∙ c.if-is_listed_at.true)

pub loop-at-preserved : goal.loop-at-preserved
loop-at-preserved c =
    any_on (λ (r : RelName). is_rel r c.args.rel) c.args.rels.now c.loop-at.at
    (list_any (λ (r : RelName). is_rel r c.args.rel) c.args.rels.now) c.loop-at.invariant
    (sym c.is_listed_at.ensures ∙ c.if-is_listed_at.false)
