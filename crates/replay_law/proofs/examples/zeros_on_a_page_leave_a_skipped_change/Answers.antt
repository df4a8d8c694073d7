use Rattle.std.proofs.Common.{inl}
use Rattle.replay_law.proofs.SmallLogs.{zeros_others}
use Rattle.replay_law.proofs.Anywhere.{zeros_differ}
use Rattle.replay_law.proofs.examples.zeros_on_a_page_leave_a_skipped_change.Goals as goal

pub returns-clause-others : goal.returns-clause-others
returns-clause-others c = zeros_others

pub returns-clause-fits : goal.returns-clause-fits
returns-clause-fits c = inl (2, tt)

pub returns-clause-anywhere : goal.returns-clause-anywhere
returns-clause-anywhere c = zeros_differ
