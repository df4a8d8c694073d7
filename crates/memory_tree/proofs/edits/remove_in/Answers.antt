use Rattle.std.proofs.Common.{rules, inr}
use Rattle.std.proofs.lemmas.Fn.{filter_same}
use Rattle.memory_tree.proofs.NodeLemmas.{contents_of-without}
use Rattle.memory_tree.proofs.edits.remove_in.Goals as goal

pub returns-clause-removed : goal.returns-clause-removed
returns-clause-removed c = contents_of-without _ _ _ (filter_same _ _ _ (λ x b f' k. search rules) _ _ c.retain.ensures.filtered)

pub returns-clause-step : goal.returns-clause-step
returns-clause-step c = inr (c.requires, returns-clause-removed c)
