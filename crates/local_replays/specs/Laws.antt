-- What records do hangs on nothing but what a replay looks at. Own: "What a replay looks at".
use Rattle.std.specs.Prelude.{ℕ, Bool, List, Option}
use Rattle.cluster_tree.specs.PathValue.{PathValue}
use Rattle.replay_world.specs.Records.{records_after}
use Rattle.replay_world.specs.World.{World}
use Rattle.rmgr_hooks.specs.Custom.{Extension}
use Rattle.wal_records.specs.Reading.{LogRecord}
use Rattle.local_replays.specs.Seen.{EndSame, SameLeft, SameSeen, SameWorlds, Sees}

-- Where the same is seen of two clusters, the root and the folders that replay changes among it, the records of a log leave both the same so, and each what it
-- had where nothing is seen; or both are refused alike.
abbrev pub RecordsLookThere : Type 0
RecordsLookThere = (custom : Option Extension) (root : PathValue) (seen : PathValue → Bool) (per_file : ℕ) (records : List LogRecord) (w v : World)
    → Sees root seen → SameWorlds (SameSeen seen) w v
    → EndSame (SameWorlds (SameLeft seen w.files v.files)) (records_after custom root per_file records w) (records_after custom root per_file records v)
