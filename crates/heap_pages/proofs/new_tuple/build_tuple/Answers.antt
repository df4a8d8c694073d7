use Rattle.std.proofs.Common.{◌+◌, length, refl}
use Rattle.heap_pages.specs.NewTuple.{new_header}
use Rattle.heap_pages.proofs.NewTupleLemmas.{two_fronts}
use Rattle.heap_pages.proofs.new_tuple.build_tuple.Goals as goal

pub returns : goal.returns
returns c =
    let from = c.args.from in let bytes = c.args.tuple.bytes.now in
    let header = new_header from.xmin from.xmax from.block from.place c.args.tuple.header in
    rw (c.put-2.ensures, c.put.ensures, c.header_bytes-header.ensures) (two_fronts c.args.into.now header bytes 23 (23 + length bytes) refl refl c.requires)
