use Rattle.std.proofs.Common.{arith}
use Rattle.btree_posting.proofs.FormLemmas.{formed_own}
use Rattle.btree_posting.proofs.form.finish.Goals as goal

pub returns-then-end-at-clause-made : goal.returns-then-end-at-clause-made
returns-then-end-at-clause-made c =
    formed_own c.args.room.now c.finish_own.new.room c.args.at c.args.end (omega arith) (omega arith) c.finish_own.ensures
