use Rattle.std.proofs.Common.{◌∙◌, sym}
use Rattle.replay_profile.proofs.ListLemmas.{known_fails, known_on}
use Rattle.replay_profile.proofs.references.are_known.Goals as goal

pub returns-then-not-is_known_at : goal.returns-then-not-is_known_at
returns-then-not-is_known_at c =
    known_fails c.args.parts.now.blocks c.loop-at.at c.loop-at.invariant
    (sym c.is_known_at.ensures ∙ c.if-not-is_known_at.true)

pub loop-at-preserved : goal.loop-at-preserved
loop-at-preserved c =
    known_on c.args.parts.now.blocks c.loop-at.at c.loop-at.invariant
    (sym c.is_known_at.ensures ∙ c.if-not-is_known_at.false)
