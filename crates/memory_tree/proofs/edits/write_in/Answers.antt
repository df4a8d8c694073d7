use Rattle.std.proofs.Common.{rules, inl}
use Rattle.memory_tree.proofs.NodeLemmas.{written_at, kept_at}
use Rattle.cluster_tree.proofs.StepLemmas.{written-step}
use Rattle.memory_tree.proofs.edits.write_in.Goals as goal

pub returns-clause-written : goal.returns-clause-written
returns-clause-written c = search (rules, written_at)

pub returns-clause-step : goal.returns-clause-step
returns-clause-step c = written-step _ _ _ _ _ c.requires (search (rules, written_at))

pub returns-in_err-lay-clause-kept : goal.returns-in_err-lay-clause-kept
returns-in_err-lay-clause-kept c = search (rules, kept_at)

pub returns-in_err-lay-clause-step : goal.returns-in_err-lay-clause-step
returns-in_err-lay-clause-step c = inl (search (rules, kept_at))
