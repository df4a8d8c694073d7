use Rattle.std.proofs.Common.{length, sym, ap, ◌∙◌}
use Rattle.block_layouts.specs.Shortened.{update_at, update_behind}
use Rattle.block_layouts.proofs.RowLemmas.{length-row_of}
use Rattle.block_layouts.proofs.shortened.Updates.len.Goals as goal

pub returns : goal.returns
returns c =
    let list = c.self.inside in
    record { value = sym (length-row_of update_at update_behind list.left list.bytes.now (record { place = list.place; list = list.list })) ∙ ap length c.self.view_is }
