use Rattle.std.proofs.Common.{◌≡◌, ◌≢◌, ◌∷◌, drop}
use Rattle.std.specs.List.{AllByRecursion}
use Rattle.timeline_history.specs.History.{spans_of}
use Rattle.timeline_history.proofs.HistoryLemmas.{IsEnded, spans_with}
use Rattle.timeline_history.proofs.reading.spans_after.Given as goal

abbrev pub invariant-loop-entry : goal.invariant-loop-entry
invariant-loop-entry l = record {
  whole : spans_with l.tli l.spans l.end (drop l.entry-index l.later) ≡ spans_of l.tli (l.fn.first ∷ l.later);
  ends : l.end.0 ≢ 0;
  later : AllByRecursion IsEnded (drop l.entry-index l.later);
}
