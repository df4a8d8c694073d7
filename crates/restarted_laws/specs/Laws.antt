-- What follows where a log is replayed again. Own: "A replay that is begun again".
use Rattle.std.specs.Prelude.{Option, ◌≡◌, ℕ, List, Ok}
use Rattle.rmgr_hooks.specs.Custom.{Extension, IsSound}
use Rattle.alike_clusters.specs.Clusters.{AlikeClusters}
use Rattle.cluster_laws.specs.Alike.{AlikeWorlds}
use Rattle.cluster_tree.specs.Contents.{Contents}
use Rattle.cluster_tree.specs.PathValue.{PathValue}
use Rattle.replay_core.specs.Replayed.{After, after_replay, first_world}
use Rattle.replay_laws.specs.Log.{AreTaken, HoldsBytes}
use Rattle.replay_start.specs.Checked.{Start, start_of}
use Rattle.replay_world.specs.Records.{records_after}
use Rattle.replay_world.specs.World.{World}
use Rattle.wal_records.specs.Reading.{LogRecord}
use Rattle.restarted_laws.specs.Again.{AreAgain, EndTheSame, EndsTheSame}

-- over alike clusters the records of a log end the same, or in neither
abbrev pub RecordsEndTheSame : Type 0
RecordsEndTheSame = (custom : Option Extension) → IsSound custom → (start : ℕ) (records : List LogRecord) (root other : PathValue) (per_file : ℕ) (w x : World)
    → AreTaken custom start records → AlikeWorlds root other per_file w x → AreAgain custom root other per_file records w x
    → EndTheSame root other per_file (records_after custom root per_file records w) (records_after custom other per_file records x)

-- so where the replay of the one cluster ends, that of the other ends the same
abbrev pub ReplaysEndTheSame : Type 0
ReplaysEndTheSame = (custom : Option Extension) → IsSound custom → (c d : Contents) (root other : PathValue) (s : Start) (after : After)
    → AlikeClusters s.control.relseg c root d other → HoldsBytes c root → start_of custom c root ≡ Ok s
    → AreAgain custom root other s.control.relseg s.records (first_world c root s) (first_world d other s)
    → after_replay custom c root ≡ Ok after → EndsTheSame custom s.control.relseg after root d other
