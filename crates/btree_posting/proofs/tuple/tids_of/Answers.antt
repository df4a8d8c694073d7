use Rattle.std.proofs.Common.{sym, arith}
use Rattle.btree_posting.proofs.TupleLemmas.{own_bytes}
use Rattle.btree_posting.proofs.tuple.tids_of.Goals as goal

pub returns-clause-value : goal.returns-clause-value
returns-clause-value c =
    own_bytes c.args.tuple.now (sym c.if-list_stands.ensures.value) (sym c.if-is_posting_tuple.ensures.value) (omega arith)
