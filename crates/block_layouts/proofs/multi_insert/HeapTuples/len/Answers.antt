use Rattle.std.proofs.Common.{length, sym, ap, ◌∙◌}
use Rattle.block_layouts.specs.MultiInsert.{tuple_at, tuple_behind}
use Rattle.block_layouts.proofs.RowLemmas.{length-row_of}
use Rattle.block_layouts.proofs.multi_insert.HeapTuples.len.Goals as goal

pub returns : goal.returns
returns c =
    let list = c.self.inside in
    record { value = sym (length-row_of tuple_at tuple_behind list.left list.bytes.now list.at) ∙ ap length c.self.view_is }
