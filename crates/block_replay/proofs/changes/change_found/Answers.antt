use Rattle.std.proofs.Common.{refl}
use Rattle.block_replay.proofs.changes.change_found.Goals as goal

pub returns-in-Absent-clause-spares : goal.returns-in-Absent-clause-spares
returns-in-Absent-clause-spares g c told name is free = c.skip.ensures.spares told name is refl
