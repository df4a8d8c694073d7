use Rattle.std.proofs.Common.{◌≡◌, slice_range, string_bytes}
use Rattle.std.specs.List.{join_with_byte}
use Rattle.mark_lines.proofs.writing.way_of.Given as goal

abbrev pub invariant-loop-at : goal.invariant-loop-at
invariant-loop-at l = string_bytes l.way ≡ join_with_byte 47 (slice_range l.path.parts l.first l.at)
