use Rattle.std.proofs.Common.{◌≡◌, take}
use Rattle.layout.specs.Writing.{laid}
use Rattle.layout.proofs.writing.put_rows.Given as goal

abbrev pub invariant-loop-row : goal.invariant-loop-row
invariant-loop-row g l = l.into ≡ laid (take l.row-index l.rows) l.initial.into
