use Rattle.block_effects.proofs.MeetLemmas.{meets}
use Rattle.record_effects.specs.Managers.{rules_of}
use Rattle.replay_laws.proofs.RuleLemmas.{managers_are}
use Rattle.replay_laws.proofs.rules.records_have_effects.Goals as goal

pub returns : goal.returns
returns c = λ custom sound rec parts name of_rec some. meets (rules_of custom rec) rec parts name (managers_are custom sound rec) of_rec some
