use Rattle.std.proofs.Common.{◌∙◌}
use Rattle.std.proofs.lemmas.Result.{IfOk-weaker}
use Rattle.timeline_history.proofs.HistoryLemmas.{no_entries}
use Rattle.timeline_history.proofs.reading.spans_of.Goals as goal

pub returns-in-empty : goal.returns-in-empty
returns-in-empty c = record {
  ok = IfOk-weaker c.one.result _ _ (λ spans is. is ∙ no_entries c.args.tli c.args.entries.now c.in-empty.len_below) c.one.ensures.ok;
}
