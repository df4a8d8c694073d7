use Rattle.std.proofs.Common.{length, sym, ap, ◌∙◌}
use Rattle.block_layouts.proofs.ListLemmas.{redirect_count-is}
use Rattle.block_layouts.proofs.redirects.Redirects.len.Goals as goal

pub returns : goal.returns
returns c =
    let list = c.self.inside in
    record { value = sym (redirect_count-is list.left list.at list.bytes.now) ∙ ap length c.self.view_is }
