use Rattle.cluster_tree.proofs.RunLemmas.{reads_on}
use Rattle.clusters.proofs.whole_file.read_whole.Goals as goal

pub returns-in-Err-read_at-clause-reads : goal.returns-in-Err-read_at-clause-reads
returns-in-Err-read_at-clause-reads g c = reads_on g.F.Tree _ _ _ c.size.ensures.frame c.read_at.ensures.frame
