use Rattle.std.proofs.Common.{ap}
use Rattle.pair_maker.proofs.BlockLemmas.{formed-at, insert-made, insert-never, tuple-as}
use Rattle.pair_maker.proofs.blocks.insert.Goals as goal

pub redo_insert-requires : goal.redo_insert-requires
redo_insert-requires c = formed-at _ c.requires

pub unreachable-requires : goal.unreachable-requires
unreachable-requires c = insert-never c.args.seed c.args.block (tuple-as c.tuple_data-bytes.result) c.args.page.now c.in-Err.field-0 (ap tuple-as c.tuple_data-bytes.ensures) c.requires c.in-Err.ensures.exact

pub returns : goal.returns
returns c = insert-made c.args.seed c.args.block (tuple-as c.tuple_data-bytes.result) c.args.page.now c.redo_insert.new.page (ap tuple-as c.tuple_data-bytes.ensures) c.requires c.in-Ok.ensures.exact
