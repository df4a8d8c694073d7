use Rattle.std.proofs.Common.{◌≡◌, ◌<◌, ◌+◌, ◌-◌, sym, ◌∙◌, arith}
use Rattle.block_layouts.specs.IndexTuples.{item_size, item_at, item_behind, item_stands}
use Rattle.block_layouts.proofs.RowLemmas.{row_of-next, whole_end-first}
use Rattle.block_layouts.proofs.index_tuples.IndexTuplesIterator.next.Goals as goal

pub invariant_of-self : goal.invariant_of-self
invariant_of-self c =
    let list = c.self.inside in
    let some : 0 < list.left = omega arith in
    rw c.item_size.ensures.value (whole_end-first item_stands item_behind list.left list.bytes.now list.at some c.self.invariant).1

pub returns-clause-steps : goal.returns-clause-steps
returns-clause-steps c =
    let list = c.self.inside in
    let some : 0 < list.left = omega arith in
    let size : list.at + item_size list.bytes.now list.at - list.at ≡ item_size list.bytes.now list.at = omega arith in
    rw (c.item_size.ensures.value, size) (sym c.self.view_is ∙ row_of-next item_at item_behind list.left list.bytes.now list.at some)
