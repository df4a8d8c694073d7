-- When clusters that are alike are the same. Own: "What a comparison of clusters shows", "Alike clusters", "Relations that aren't logged".
use Rattle.std.specs.Prelude.{◌≡◌, ℕ, ◌<◌, false}
use Rattle.alike_clusters.specs.Clusters.{AlikeClusters}
use Rattle.block_refs.specs.declared.names.BlockName.{BlockName}
use Rattle.cluster_compare.specs.Same.{IsSameCluster, has_init}
use Rattle.cluster_tree.specs.Contents.{Contents}
use Rattle.cluster_tree.specs.PathValue.{PathValue}
use Rattle.page_masks.specs.Law.{view}
use Rattle.replay_law.specs.Stage.{Matches}
use Rattle.replay_laws.specs.Held.{IsMainBlock}
use Rattle.storage_laws.specs.States.{page_in}

-- alike clusters are the same where the pages of each block of a main fork match, but for relations that have an init fork
abbrev pub AlikeAreSame : Type 0
AlikeAreSame = (root other : PathValue) (per_file : ℕ) (c d : Contents) → 0 < per_file → AlikeClusters per_file c root d other
    → ((name : BlockName) → IsMainBlock name → has_init c root name.rel ≡ false → Matches (view name.block) (page_in root per_file name c) (page_in other per_file name d))
    → IsSameCluster per_file c root d other
