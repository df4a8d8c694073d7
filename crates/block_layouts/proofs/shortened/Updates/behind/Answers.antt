use Rattle.std.proofs.Common.{◌+◌, ◌*◌, sym, arith}
use Rattle.layout_readers.proofs.WholeLemmas.{whole_is}
use Rattle.block_layouts.specs.Shortened.{lists_end}
use Rattle.block_layouts.proofs.ShortenedLemmas.{lists_end-grows}
use Rattle.block_layouts.proofs.shortened.Updates.behind.Goals as goal

pub returns-clause-room : goal.returns-clause-room
returns-clause-room c =
    let bytes = c.args.bytes.now in
    let list = 2 * c.args.deleted + 2 * c.args.left in
    let end = lists_end c.args.left bytes list in
    let there = whole_is end bytes end c.in_ok-lists_end.field-0 (sym c.in_ok-lists_end.ensures.value) in
    omega (arith, there.room, lists_end-grows c.args.left bytes list)
