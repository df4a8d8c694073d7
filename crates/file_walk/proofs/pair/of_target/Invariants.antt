use Rattle.std.proofs.Common.{string_bytes}
use Rattle.std.specs.FinMap.{empty}
use Rattle.file_walk.specs.Listed.{by_text, entries_in}
use Rattle.file_walk.specs.Merging.{IsMerged, with_targets}
use Rattle.file_walk.proofs.pair.of_target.Given as goal

abbrev pub invariant-loop-listed : goal.invariant-loop-listed
invariant-loop-listed l = IsMerged (with_targets empty (entries_in l.yielded)) (by_text string_bytes l.pairs.entries)
