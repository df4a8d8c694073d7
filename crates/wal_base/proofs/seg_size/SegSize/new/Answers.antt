use Rattle.wal_base.proofs.SizeMade.{size_made}
use Rattle.wal_base.proofs.seg_size.SegSize.new.Goals as goal

pub returns-clause-exact : goal.returns-clause-exact
returns-clause-exact c = size_made c.args.bytes c.tested.result c.tested.ensures.valid c.tested.ensures.value
