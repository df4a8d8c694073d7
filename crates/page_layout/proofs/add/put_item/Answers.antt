use Rattle.std.proofs.Common.{replicate, ◌∙◌, ◌+◌, ◌-◌, arith, refl, length}
use Rattle.page_layout.specs.Bytes.{up8}
use Rattle.layout.proofs.SpliceLemmas.{splice-splice}
use Rattle.page_layout.proofs.add.put_item.Goals as goal

pub returns : goal.returns
returns c =
    let item = c.args.item.now in
    c.clear.ensures ∙ rw c.put.ensures (splice-splice c.args.page.now c.args.at item (replicate (up8 (length item) - length item) 0) (c.args.at + length item) refl (omega arith))
