use Rattle.storage_replay.proofs.ReadLemmas.{lent-read}
use Rattle.storage_replay.proofs.blocks.read_page.Goals as goal

pub returns-clause-exact : goal.returns-clause-exact
returns-clause-exact g c told =
    lent-read c.args.path.now (g.F.Tree.contents c.args.tree.now) c.args.at _ c.read_or_zeros.new.into c.args.into.now c.read_or_zeros.result c.bytes_mut.ensures.size (c.read_or_zeros.ensures.exact told)
