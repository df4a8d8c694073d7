-- What follows from the definitions, for callers.
use Rattle.std.specs.Prelude.{◌≡◌, ℕ, ◌<◌, List, Option, Ok}
use Rattle.rmgr_hooks.specs.Custom.{Extension, IsSound}
use Rattle.alike_clusters.specs.Clusters.{AlikeClusters}
use Rattle.block_refs.specs.Parts.{PartsView}
use Rattle.block_refs.specs.declared.names.BlockName.{BlockName}
use Rattle.cluster_tree.specs.Contents.{Contents}
use Rattle.cluster_tree.specs.PathValue.{PathValue}
use Rattle.file_walk.specs.Walk.{HasParts, walk_of}
use Rattle.file_walk.specs.declared.entry.Entry.{Entry as Walked}
use Rattle.replay_laws.specs.Held.{IsMainBlock}
use Rattle.replay_laws.specs.Log.{AreTaken, IsTaken}
use Rattle.replay_laws.specs.Whole.{AreWhole}
use Rattle.replay_world.specs.Records.{record_after, records_after}
use Rattle.replay_world.specs.World.{World}
use Rattle.storage_laws.specs.States.{page_in}
use Rattle.wal_records.specs.Reading.{LogRecord}
use Rattle.replayed_bytes.specs.Bytes.{HasWholeBlocks, HaveSameFiles, HaveSameVersions}

-- a walk of a cluster that finds nothing wrong tells that files of main forks have whole blocks alone
abbrev pub WalkedHaveWholeBlocks : Type 0
WalkedHaveWholeBlocks = (c : Contents) (root : PathValue) (entries : List Walked) → HasParts c root → walk_of c root ≡ Ok entries → HasWholeBlocks c root

-- and of alike clusters both have, or neither
abbrev pub AlikeHaveWholeBlocks : Type 0
AlikeHaveWholeBlocks = (root other : PathValue) (per_file : ℕ) (c d : Contents) → AlikeClusters per_file c root d other → HasWholeBlocks c root → HasWholeBlocks d other

-- a record leaves whole blocks alone in files of main forks
abbrev pub RecordKeepsBlocks : Type 0
RecordKeepsBlocks = (custom : Option Extension) → IsSound custom → (root : PathValue) (per_file : ℕ) (rec : LogRecord) (parts : PartsView) (w v : World)
    → 0 < per_file → IsTaken custom rec parts → AreWhole root per_file w.files → record_after custom root per_file rec parts w ≡ Ok v
    → HasWholeBlocks w.files root → HasWholeBlocks v.files root

-- and so do the records of a log
abbrev pub LogKeepsBlocks : Type 0
LogKeepsBlocks = (custom : Option Extension) → IsSound custom → (root : PathValue) (per_file start : ℕ) (records : List LogRecord) (w v : World)
    → 0 < per_file → AreTaken custom start records → AreWhole root per_file w.files → records_after custom root per_file records w ≡ Ok v
    → HasWholeBlocks w.files root → HasWholeBlocks v.files root

-- a record that leaves two alike clusters alike leaves the same in files that tell a version
abbrev pub RecordKeepsVersions : Type 0
RecordKeepsVersions = (custom : Option Extension) → IsSound custom → (root other : PathValue) (per_file : ℕ) (rec : LogRecord) (parts : PartsView) (w v x y : World)
    → 0 < per_file → IsTaken custom rec parts → AreWhole root per_file w.files → AreWhole other per_file x.files
    → record_after custom root per_file rec parts w ≡ Ok v → record_after custom other per_file rec parts x ≡ Ok y
    → AlikeClusters per_file w.files root x.files other → AlikeClusters per_file v.files root y.files other
    → HaveSameVersions w.files root x.files other → HaveSameVersions v.files root y.files other

-- alike clusters have the same files where blocks are whole and have the same pages, and files that tell a version are the same
abbrev pub AlikeHaveSameFiles : Type 0
AlikeHaveSameFiles = (root other : PathValue) (per_file : ℕ) (c d : Contents) → 0 < per_file → AlikeClusters per_file c root d other
    → HasWholeBlocks c root → HaveSameVersions c root d other
    → ((name : BlockName) → IsMainBlock name → page_in root per_file name c ≡ page_in other per_file name d)
    → HaveSameFiles c root d other
