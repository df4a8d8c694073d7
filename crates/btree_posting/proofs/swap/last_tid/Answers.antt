use Rattle.std.proofs.Common.{arith, ◌+◌, ◌*◌}
use Rattle.btree_posting.proofs.SwapLemmas.{last_bytes}
use Rattle.btree_posting.proofs.swap.last_tid.Goals as goal

pub returns-clause-value : goal.returns-clause-value
returns-clause-value c =
    last_bytes c.args.tuple.now (c.list_at.result + 6 * c.tid_count.result) c.requires (omega arith)
