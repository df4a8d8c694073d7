use Rattle.std.proofs.Common.{arith}
use Rattle.btree_posting.proofs.FormLemmas.{laid_zeros}
use Rattle.btree_posting.proofs.form.pad.Goals as goal

pub returns-clause-laid : goal.returns-clause-laid
returns-clause-laid c = rw c.clear.ensures (laid_zeros c.args.room.now c.args.end (omega arith))
