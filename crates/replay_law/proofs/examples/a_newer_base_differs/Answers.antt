use Rattle.replay_law.proofs.SmallLogs.{newer_others}
use Rattle.replay_law.proofs.Anywhere.{newer_differs}
use Rattle.replay_law.proofs.examples.a_newer_base_differs.Goals as goal

pub returns-clause-others : goal.returns-clause-others
returns-clause-others c = newer_others

pub returns-clause-anywhere : goal.returns-clause-anywhere
returns-clause-anywhere c = newer_differs
