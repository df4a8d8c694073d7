use Rattle.btree_posting.proofs.SwapLemmas.{swapped_laid}
use Rattle.btree_posting.proofs.swap.lay_swapped.Goals as goal

pub returns : goal.returns
returns c =
    swapped_laid c.args.tuple.now c.args.new.now c.args.k c.from.result c.list_at-at.result c.tid_count.result
    c.requires.can c.requires.new c.from.ensures c.list_at-at.ensures.value c.tid_count.ensures.value
    c.args.room.now c.lay-end.new.room c.lay-end-2.new.room c.lay-end-3.new.room c.lay.new.room
    c.lay-end.result c.lay-end-2.result c.lay-end-3.result c.lay.result
    (record { value = c.lay-end.ensures.value; laid = c.lay-end.ensures.laid })
    (record { value = c.lay-end-2.ensures.value; laid = c.lay-end-2.ensures.laid })
    (record { value = c.lay-end-3.ensures.value; laid = c.lay-end-3.ensures.laid })
    (record { value = c.lay.ensures.value; laid = c.lay.ensures.laid })
