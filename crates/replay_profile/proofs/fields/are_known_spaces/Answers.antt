use Rattle.std.proofs.Common.{◌∙◌, ap, sym}
use Rattle.replay_profile.specs.Names.{is_known_space}
use Rattle.replay_profile.specs.Values.{passes}
use Rattle.replay_profile.proofs.ListLemmas.{all_fails, all_on}
use Rattle.replay_profile.proofs.fields.are_known_spaces.Goals as goal

pub returns-then-not-is_space : goal.returns-then-not-is_space
returns-then-not-is_space c =
    all_fails is_known_space c.args.spaces.now c.loop-at.at c.loop-at.invariant
    (ap (passes is_known_space) (sym c.get.ensures) ∙ (sym c.is_space.ensures ∙ c.if-not-is_space.true))

pub loop-at-preserved : goal.loop-at-preserved
loop-at-preserved c =
    all_on is_known_space c.args.spaces.now c.loop-at.at c.loop-at.invariant
    (ap (passes is_known_space) (sym c.get.ensures) ∙ (sym c.is_space.ensures ∙ c.if-not-is_space.false))
