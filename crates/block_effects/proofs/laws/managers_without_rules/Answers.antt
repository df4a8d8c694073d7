use Rattle.block_effects.proofs.MeetLemmas.{no_rules_are}
use Rattle.block_effects.proofs.laws.managers_without_rules.Goals as goal

pub returns : goal.returns
returns c = no_rules_are
