use Rattle.std.proofs.Common.{◌≡◌, ◌+◌, ◌≤◌, length, drop}
use Rattle.page_layout.specs.Page.{count, IsFormed}
use Rattle.page_layout.specs.Deletes.{without_lines}
use Rattle.page_layout.proofs.delete.take_lines.Given as goal

abbrev pub invariant-loop-i : goal.invariant-loop-i
invariant-loop-i l = record {
  lines : l.page ≡ without_lines l.initial.page (drop l.i l.places);
  formed : IsFormed l.page;
  left : count l.page + length l.places ≡ count l.initial.page + l.i;
  bound : l.i ≤ length l.places;
}

abbrev pub decreases-loop-i : goal.decreases-loop-i
decreases-loop-i l = l.i
