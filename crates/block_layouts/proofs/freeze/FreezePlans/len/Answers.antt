use Rattle.std.proofs.Common.{length, sym, ap, ◌∙◌}
use Rattle.block_layouts.specs.Freeze.{plan_at, plan_behind}
use Rattle.block_layouts.proofs.RowLemmas.{length-row_of}
use Rattle.block_layouts.proofs.freeze.FreezePlans.len.Goals as goal

pub returns : goal.returns
returns c =
    let list = c.self.inside in
    record { value = sym (length-row_of plan_at plan_behind list.left list.bytes.now (record { plan = list.plan; places = list.places })) ∙ ap length c.self.view_is }
