use Rattle.replay_laws.proofs.RuleLemmas.{managers_are}
use Rattle.replay_laws.proofs.rules.managers_keep_their_rules.Goals as goal

pub returns : goal.returns
returns c = managers_are
