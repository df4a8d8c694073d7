use Rattle.std.proofs.Common.{length, sym, ap, ◌∙◌}
use Rattle.block_layouts.specs.IndexTuples.{item_at, item_behind}
use Rattle.block_layouts.proofs.RowLemmas.{length-row_of}
use Rattle.block_layouts.proofs.index_tuples.IndexTuples.len.Goals as goal

pub returns : goal.returns
returns c =
    let list = c.self.inside in
    record { value = sym (length-row_of item_at item_behind list.left list.bytes.now list.at) ∙ ap length c.self.view_is }
