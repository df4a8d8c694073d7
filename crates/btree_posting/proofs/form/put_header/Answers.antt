use Rattle.std.proofs.Common.{arith}
use Rattle.layout.proofs.SpliceLemmas.{splice-splice}
use Rattle.btree_posting.proofs.form.put_header.Goals as goal

pub returns : goal.returns
returns c =
    rw (c.put_u16.ensures, c.put.ensures, c.u16_at.ensures.value)
    (splice-splice c.args.tuple.now 0 c.args.tid.now _ 6 (omega arith) (omega arith))
