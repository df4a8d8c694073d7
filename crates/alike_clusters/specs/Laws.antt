-- What follows from the definitions, for callers.
use Rattle.std.specs.Prelude.{ℕ}
use Rattle.block_refs.specs.Parts.{PartsView}
use Rattle.cluster_tree.specs.Contents.{Contents}
use Rattle.cluster_tree.specs.PathValue.{PathValue}
use Rattle.file_effects.specs.Done.{files_after}
use Rattle.wal_records.specs.Reading.{LogRecord}
use Rattle.alike_clusters.specs.Clusters.{AlikeClusters, AreLeftAlike}

-- what a record does to files beside its blocks leaves alike clusters alike, or is refused by the same file in both
abbrev pub EffectsAlike : Type 0
EffectsAlike = (root other : PathValue) (per_file : ℕ) (rec : LogRecord) (parts : PartsView) (c d : Contents)
    → AlikeClusters per_file c root d other → AreLeftAlike per_file root other (files_after root per_file rec parts c) (files_after other per_file rec parts d)
