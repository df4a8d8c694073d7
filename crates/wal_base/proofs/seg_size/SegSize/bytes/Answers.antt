use Rattle.std.proofs.Common.{arith}
use Rattle.wal_base.proofs.SizeLemmas.{size_facts}
use Rattle.wal_base.proofs.seg_size.SegSize.bytes.Goals as goal

pub returns-clause-pages : goal.returns-clause-pages
returns-clause-pages c = let facts = size_facts c.args.self.bytes c.args.self.is_size in omega (arith, facts.whole)
