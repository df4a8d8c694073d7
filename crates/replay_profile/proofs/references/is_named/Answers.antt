use Rattle.std.proofs.Common.{◌∙◌, drop, sym}
use Rattle.block_refs.specs.declared.placed.Placed.{Placed}
use Rattle.replay_profile.specs.Names.{is_block, is_named}
use Rattle.replay_profile.proofs.ListLemmas.{any_on, any_stops}
use Rattle.replay_profile.proofs.references.is_named.Goals as goal

pub returns-then-is_named_at : goal.returns-then-is_named_at
returns-then-is_named_at c =
    any_stops (λ (p : Placed). is_block c.args.name p.block.name) c.args.parts.now.blocks c.loop-at.at
    (is_named c.args.name (drop c.args.from c.args.parts.now.blocks)) c.loop-at.invariant
    (sym c.is_named_at.ensures ∙ c.if-is_named_at.true)

pub loop-at-preserved : goal.loop-at-preserved
loop-at-preserved c =
    any_on (λ (p : Placed). is_block c.args.name p.block.name) c.args.parts.now.blocks c.loop-at.at
    (is_named c.args.name (drop c.args.from c.args.parts.now.blocks)) c.loop-at.invariant
    (sym c.is_named_at.ensures ∙ c.if-is_named_at.false)
