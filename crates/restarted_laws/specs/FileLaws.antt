-- What is left byte for byte where a log is replayed again. Own: "A replay that is begun again".
use Rattle.std.specs.Prelude.{Option, ◌≡◌, ℕ, List, Ok}
use Rattle.rmgr_hooks.specs.Custom.{Extension, IsSound}
use Rattle.alike_clusters.specs.Clusters.{AlikeClusters}
use Rattle.cluster_laws.specs.Alike.{AlikeWorlds}
use Rattle.cluster_tree.specs.Contents.{Contents}
use Rattle.cluster_tree.specs.PathValue.{PathValue}
use Rattle.replay_core.specs.Replayed.{After, after_replay, first_world}
use Rattle.replay_laws.specs.Log.{AreTaken, HoldsBytes}
use Rattle.replay_start.specs.Checked.{Start, start_of}
use Rattle.replay_world.specs.Records.{records_after}
use Rattle.replay_world.specs.World.{World}
use Rattle.replayed_bytes.specs.Bytes.{HasWholeBlocks, HaveSameVersions}
use Rattle.wal_records.specs.Reading.{LogRecord}
use Rattle.restarted_laws.specs.Again.{AreAgain}
use Rattle.restarted_laws.specs.Files.{EndWithSameFiles, EndsWithSameFiles}

-- where files of main forks have whole blocks alone, and files that tell a version are the same, the records of a log leave the same files,
-- or end in neither
abbrev pub RecordsEndWithSameFiles : Type 0
RecordsEndWithSameFiles = (custom : Option Extension) → IsSound custom → (start : ℕ) (records : List LogRecord) (root other : PathValue) (per_file : ℕ) (w x : World)
    → AreTaken custom start records → AlikeWorlds root other per_file w x → AreAgain custom root other per_file records w x
    → HasWholeBlocks w.files root → HaveSameVersions w.files root x.files other
    → EndWithSameFiles root other per_file (records_after custom root per_file records w) (records_after custom other per_file records x)

-- so where the replay of the one cluster ends, that of the other ends and leaves the same files
abbrev pub ReplaysEndWithSameFiles : Type 0
ReplaysEndWithSameFiles = (custom : Option Extension) → IsSound custom → (c d : Contents) (root other : PathValue) (s : Start) (after : After)
    → AlikeClusters s.control.relseg c root d other → HoldsBytes c root → start_of custom c root ≡ Ok s
    → AreAgain custom root other s.control.relseg s.records (first_world c root s) (first_world d other s)
    → HasWholeBlocks c root → HaveSameVersions c root d other
    → after_replay custom c root ≡ Ok after → EndsWithSameFiles custom s.control.relseg after root d other
