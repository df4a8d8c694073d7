use Rattle.std.proofs.Common.{◌∙◌, ap, sym}
use Rattle.replay_profile.specs.Names.{is_known_rel}
use Rattle.replay_profile.specs.Values.{passes}
use Rattle.replay_profile.proofs.ListLemmas.{all_fails, all_on}
use Rattle.replay_profile.proofs.fields.are_known_names.Goals as goal

pub returns-then-not-is_known_name : goal.returns-then-not-is_known_name
returns-then-not-is_known_name c =
    all_fails is_known_rel c.args.rels.now c.loop-at.at c.loop-at.invariant
    (ap (passes is_known_rel) (sym c.get.ensures) ∙ (sym c.is_known_name.ensures ∙ c.if-not-is_known_name.true))

pub loop-at-preserved : goal.loop-at-preserved
loop-at-preserved c =
    all_on is_known_rel c.args.rels.now c.loop-at.at c.loop-at.invariant
    (ap (passes is_known_rel) (sym c.get.ensures) ∙ (sym c.is_known_name.ensures ∙ c.if-not-is_known_name.false))
