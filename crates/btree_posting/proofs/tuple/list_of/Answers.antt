use Rattle.btree_posting.proofs.TupleLemmas.{listed_bytes, listed_size, listed_count}
use Rattle.btree_posting.proofs.tuple.list_of.Goals as goal

pub returns-clause-value : goal.returns-clause-value
returns-clause-value c =
    listed_bytes c.args.tuple.now c.list_at-at.result c.tid_count.result c.requires c.list_at-at.ensures.value c.tid_count.ensures.value

pub returns-clause-size : goal.returns-clause-size
returns-clause-size c =
    listed_size c.args.tuple.now c.list_at-at.result c.tid_count.result c.requires c.list_at-at.ensures.value c.tid_count.ensures.value

pub returns-clause-count : goal.returns-clause-count
returns-clause-count c = listed_count c.args.tuple.now c.requires
