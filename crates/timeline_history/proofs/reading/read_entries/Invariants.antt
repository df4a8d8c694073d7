use Rattle.std.proofs.Common.{length}
use Rattle.timeline_history.proofs.ReadingLemmas.{IsRead}
use Rattle.timeline_history.proofs.reading.read_entries.Given as goal

abbrev pub invariant-loop-rest : goal.invariant-loop-rest
invariant-loop-rest l = IsRead l.tli l.bytes l.rest l.number l.entries.items

abbrev pub decreases-loop-rest : goal.decreases-loop-rest
decreases-loop-rest l = length l.rest
