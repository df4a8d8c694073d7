use Rattle.wal_base.specs.SizeOfBytes.{is_size}
use Rattle.wal_base.proofs.SizeMade.{same_size}
use Rattle.pair_maker.specs.Logs.{is_megabyte, megabyte}
use Rattle.pair_maker.proofs.logs.megabyte.Goals as goal

pub unreachable-requires : goal.unreachable-requires
unreachable-requires c = let some = c.in-None.ensures.valid.1 (is_size 0x10_0000 is_megabyte) in cc

pub returns : goal.returns
returns c = same_size c.in-Some.size megabyte c.in-Some.ensures.value
