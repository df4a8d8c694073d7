-- A log that changes no block first, replayed again over a cluster in which a replay of it was stopped. Own: "Blocks that are changed
-- first", "A replay that is begun again".
use Rattle.std.specs.Prelude.{Option, None, ℕ, List, map}
use Rattle.rmgr_hooks.specs.Custom.{Extension}
use Rattle.alike_clusters.specs.Clusters.{AlikeClusters}
use Rattle.block_refs.specs.declared.names.BlockName.{BlockName}
use Rattle.cluster_tree.specs.PathValue.{PathValue}
use Rattle.first_effects.specs.First.{IsLeastChanged}
use Rattle.replay_core.specs.Sparing.{HasPage}
use Rattle.replay_laws.specs.Converging.{Begins}
use Rattle.replay_laws.specs.Held.{IsMainBlock}
use Rattle.replay_laws.specs.Log.{split_of, steps}
use Rattle.replay_laws.specs.Touched.{HaveNoEffect}
use Rattle.replay_world.specs.World.{World}
use Rattle.wal_records.specs.Reading.{LogRecord}
use Rattle.restarted_laws.specs.Again.{AreAgain}

-- each block of a main fork on which no record of a log has an effect has in the other world the bytes that it has in the one
abbrev pub KeepsUntouched : Option Extension → (root other : PathValue) → (per_file : ℕ) → List LogRecord → World → World → Type 0
KeepsUntouched custom root other per_file records w x = (name : BlockName) (page : List ℕ) → IsMainBlock name → HaveNoEffect (steps custom name records)
    → HasPage root per_file name page w.files → HasPage other per_file name page x.files

-- in alike clusters, where moreover the log changes no block first, each block has the same page in both, or the log makes it anew
abbrev pub UnchangedFirstAreAgain : Type 0
UnchangedFirstAreAgain = (custom : Option Extension) (root other : PathValue) (per_file : ℕ) (records : List LogRecord) (w x : World)
    → IsLeastChanged custom (map split_of records) None → AlikeClusters per_file w.files root x.files other
    → Begins root per_file w → Begins other per_file x
    → KeepsUntouched custom root other per_file records w x → AreAgain custom root other per_file records w x
