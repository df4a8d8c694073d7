use Rattle.std.proofs.Common.{length, sym, ap, ◌∙◌}
use Rattle.block_layouts.proofs.ListLemmas.{interval_count-is}
use Rattle.block_layouts.proofs.dedup.Intervals.len.Goals as goal

pub returns : goal.returns
returns c =
    let list = c.self.inside in
    record { value = sym (interval_count-is list.left list.at list.bytes.now) ∙ ap length c.self.view_is }
