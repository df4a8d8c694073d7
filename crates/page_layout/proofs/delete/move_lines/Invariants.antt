use Rattle.std.proofs.Common.{◌≡◌, length}
use Rattle.page_layout.specs.Deletes.{moved_lines}
use Rattle.page_layout.proofs.delete.move_lines.Given as goal

abbrev pub invariant-loop-n : goal.invariant-loop-n
invariant-loop-n l = record { lines : l.page ≡ moved_lines l.initial.page l.at l.size l.n; length : length l.page ≡ 8192 }
