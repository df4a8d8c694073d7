use Rattle.std.proofs.Common.{suc, length, is_some, sym, ap}
use Rattle.block_layouts.proofs.IndexLemmas.{items_end-count}
use Rattle.block_layouts.proofs.index_tuples.restored_tuples.Goals as goal

pub invariant_of-result : goal.invariant_of-result
invariant_of-result c =
    let bytes = c.args.bytes.now in
    ap is_some (items_end-count (suc (length bytes)) bytes 0 c.in_ok-left.left (sym c.in_ok-left.ensures.value))
