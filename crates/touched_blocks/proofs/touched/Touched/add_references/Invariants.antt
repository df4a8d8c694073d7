use Rattle.std.proofs.Common.{take}
use Rattle.touched_blocks.specs.Set.{Adds}
use Rattle.touched_blocks.specs.Touched.{named_by_references}
use Rattle.touched_blocks.proofs.touched.Touched.add_references.Given as goal

abbrev pub invariant-loop-at : goal.invariant-loop-at
invariant-loop-at l = Adds (named_by_references (take l.at l.parts.blocks)) l.fn.self l.self
