-- Records that a replay takes, and a log as one block meets it: PostgreSQL 16, src/backend/access/transam/xlogrecovery.c,
-- PerformWalRecovery. Own: "The profile of replay", "A replay, seen on one block".
use Rattle.std.specs.Prelude.{Option, ◌≡◌, ◌<◌, ℕ, List, [], ◌∷◌, map, None, Some, Ok}
use Rattle.rmgr_hooks.specs.Custom.{Extension}
use Rattle.std.specs.List.{AllByRecursion}
use Rattle.block_effects.specs.Lives.{Split, steps_of}
use Rattle.block_refs.specs.Outcomes.{record_parts}
use Rattle.block_refs.specs.Parts.{PartsView}
use Rattle.block_refs.specs.declared.names.BlockName.{BlockName}
use Rattle.cluster_tree.specs.Contents.{Contents, FileEntry, entry_at}
use Rattle.cluster_tree.specs.PathValue.{PathValue, below}
use Rattle.clusters.specs.Roots.{wal_folder}
use Rattle.layout_readers.specs.Rows.{AreBytes}
use Rattle.record_effects.specs.Managers.{rules_of}
use Rattle.replay_law.specs.Effect.{Step}
use Rattle.replay_profile.specs.Profile.{first_outside, judged, parts_or_none}
use Rattle.wal_records.specs.Log.{AreInOrder}
use Rattle.wal_records.specs.Reading.{LogRecord}

-- the record is one of the profile and has these parts; its body is one of bytes, and it ends behind the log's first byte
pub record IsTaken (custom : Option Extension) (rec : LogRecord) (parts : PartsView) : Type 0 where
  pub judged : judged custom rec ≡ Ok parts
  pub bytes : AreBytes rec.body
  pub ends : 0 < rec.end

-- a record's body is one of bytes
abbrev pub HasBytes : LogRecord → Type 0
HasBytes rec = AreBytes rec.body

-- records of a log from a position on, all of the profile
pub record AreTaken (custom : Option Extension) (start : ℕ) (records : List LogRecord) : Type 0 where
  pub judged : first_outside custom records ≡ None
  pub bytes : AllByRecursion HasBytes records
  pub order : AreInOrder start records

-- each file in the folder of a cluster's log holds bytes
abbrev pub HoldsBytes : Contents → PathValue → Type 0
HoldsBytes c root = (name bytes : List ℕ) → entry_at c (below (wal_folder root) (name ∷ [])) ≡ Some (FileEntry bytes) → AreBytes bytes

-- a record with the parts that replay reads of it
abbrev pub split_of : LogRecord → Split
split_of rec = record { rec = rec; parts = parts_or_none (record_parts rec) }

-- the end of each record, and its effect on the block
abbrev pub steps : Option Extension → BlockName → List LogRecord → List Step
steps custom name records = steps_of (rules_of custom) name (map split_of records)
