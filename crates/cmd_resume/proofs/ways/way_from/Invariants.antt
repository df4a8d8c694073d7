use Rattle.std.proofs.Common.{◌≡◌, length}
use Rattle.cmd_resume.proofs.WayLemmas.{way_between}
use Rattle.cmd_resume.proofs.ways.way_from.Given as goal

abbrev pub invariant-loop-at : goal.invariant-loop-at
invariant-loop-at l = l.way ≡ way_between l.path.parts (length l.root.parts) l.at
