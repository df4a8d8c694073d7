use Rattle.std.proofs.Common.{arith}
use Rattle.btree_posting.proofs.FormLemmas.{laid}
use Rattle.btree_posting.proofs.form.lay.Goals as goal

pub returns-clause-laid : goal.returns-clause-laid
returns-clause-laid c =
    rw c.put.ensures (laid c.args.room.now c.args.bytes.now c.args.end (omega arith))
