use Rattle.std.proofs.Common.{subst, sym, ap, arith}
use Rattle.page_layout.specs.Page.{count, Head}
use Rattle.page_layout.proofs.ItemOut.{closed_up_stays}
use Rattle.page_layout.proofs.delete.take_item.Goals as goal

pub take_line-requires-clause-head : goal.take_line-requires-clause-head
take_line-requires-clause-head c = subst Head (sym c.close_up.ensures) (closed_up_stays c.args.page.now c.args.k c.requires.formed c.requires.there).head

pub take_line-requires-clause-there : goal.take_line-requires-clause-there
take_line-requires-clause-there c =
    let s = closed_up_stays c.args.page.now c.args.k c.requires.formed c.requires.there in
    omega (arith, ap count c.close_up.ensures, s.lines)
