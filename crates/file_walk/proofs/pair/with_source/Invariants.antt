use Rattle.std.proofs.Common.{string_bytes}
use Rattle.file_walk.specs.Listed.{by_text, entries_in}
use Rattle.file_walk.specs.Merging.{IsMerged, PairMap, with_sources}
use Rattle.file_walk.proofs.pair.with_source.Given as goal

abbrev pub invariant-loop-listed : goal.invariant-loop-listed
invariant-loop-listed l = (m : PairMap) → IsMerged m (by_text string_bytes l.initial.pairs.entries) → IsMerged (with_sources m (entries_in l.yielded)) (by_text string_bytes l.pairs.entries)
