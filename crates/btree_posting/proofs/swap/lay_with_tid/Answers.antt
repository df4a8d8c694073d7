use Rattle.btree_posting.proofs.SwapLemmas.{tid_laid}
use Rattle.btree_posting.proofs.swap.lay_with_tid.Goals as goal

pub returns : goal.returns
returns c =
    tid_laid c.args.room.now c.lay-end.new.room c.lay.new.room c.args.new.now c.args.tid.now c.lay-end.result c.lay.result c.requires.size c.requires.new
    (record { value = c.lay-end.ensures.value; laid = c.lay-end.ensures.laid })
    (record { value = c.lay.ensures.value; laid = c.lay.ensures.laid })
