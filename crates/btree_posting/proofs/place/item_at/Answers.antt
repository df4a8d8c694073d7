use Rattle.std.proofs.Common.{sym, arith}
use Rattle.btree_posting.proofs.PlaceLemmas.{no_item, an_item}
use Rattle.btree_posting.proofs.place.item_at.Goals as goal

pub returns-then-is_empty : goal.returns-then-is_empty
returns-then-is_empty c =
    no_item c.args.page.now c.item_of-bytes.result.now c.args.place c.from-at.result c.requires c.from-at.ensures (omega arith) (omega arith) c.item_of-bytes.ensures (sym c.if-is_empty.ensures)

pub returns-else-is_empty : goal.returns-else-is_empty
returns-else-is_empty c =
    an_item c.args.page.now c.item_of-bytes.result.now c.args.place c.from-at.result c.requires c.from-at.ensures (omega arith) (omega arith) c.item_of-bytes.ensures (sym c.if-is_empty.ensures)
