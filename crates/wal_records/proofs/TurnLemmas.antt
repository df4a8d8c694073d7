-- Steps of reading, one after another.
use Rattle.std.proofs.Common.{◌∙◌}
use Rattle.cluster_tree.specs.declared.tree.Tree.{Ghosts}
use Rattle.cluster_tree.proofs.RunLemmas.{reads_on}
use Rattle.wal_pages.specs.Cursor.{PageView}
use Rattle.wal_records.specs.Steps.{Turns}

pub turned_on : {F : Type 0} (tree : Ghosts F) (a : PageView) (x : F) (b : PageView) (y : F) (c : PageView) (z : F) → Turns tree a x b y → Turns tree b y c z → Turns tree a x c z
turned_on tree a x b y c z p q = record {
  log = q.log ∙ p.log;
  knows = λ tells known. q.knows tells (p.knows tells known);
  reads = reads_on tree x y z p.reads q.reads;
}
