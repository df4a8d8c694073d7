use Rattle.std.proofs.Common.{[], ◌∙◌, lit<}
use Rattle.timeline_history.proofs.HistoryLemmas.{no_entries}
use Rattle.timeline_history.proofs.history.first_history.Goals as goal

pub invariant_of-result : goal.invariant_of-result
invariant_of-result c = record { tli = 1; entries = []; rising = tt; whole = c.in_ok-one.ensures.ok ∙ no_entries 1 [] (lit< tt) }
