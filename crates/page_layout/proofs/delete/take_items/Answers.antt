use Rattle.std.proofs.Common.{◌-◌, subst, sym, ap, arith, get_or}
use Rattle.page_layout.specs.Page.{count, IsFormed}
use Rattle.page_layout.proofs.ApartLemmas.{test_apart}
use Rattle.page_layout.proofs.PlacesLemmas.{place_at}
use Rattle.page_layout.proofs.ItemOut.{item_out}
use Rattle.page_layout.proofs.ItemsStay.{formed_without}
use Rattle.page_layout.proofs.delete.take_items.Goals as goal

pub take_item-requires-in-len2-2-clause-formed : goal.take_item-requires-in-len2-2-clause-formed
take_item-requires-in-len2-2-clause-formed c =
    let p = c.args.page.now in
    let k = get_or c.args.places.now 1 0 - 1 in
    let at = place_at (count p) 0 c.args.places.now 1 c.requires.places (omega arith) in
    subst IsFormed (sym c.take_item-in-len2.ensures) (formed_without p k c.requires.formed (omega (arith, at.above, at.left)) (test_apart p c.requires.apart))

pub take_item-requires-in-len2-2-clause-there : goal.take_item-requires-in-len2-2-clause-there
take_item-requires-in-len2-2-clause-there c =
    let p = c.args.page.now in
    let k = get_or c.args.places.now 1 0 - 1 in
    let first = place_at (count p) 0 c.args.places.now 0 c.requires.places (omega arith) in
    let at = place_at (count p) 0 c.args.places.now 1 c.requires.places (omega arith) in
    let o = item_out p k c.requires.formed (omega (arith, at.above, at.left)) in
    omega (arith, ap count c.take_item-in-len2.ensures, o.lines, first.above, first.left)
