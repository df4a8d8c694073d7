-- The paths that each call on files may change are of the part of a cluster that replay changes. Own: "Edits of files say
-- where they go".
use Rattle.std.specs.Prelude.{◌≡◌, ℕ, true, false, List, Option}
use Rattle.block_refs.specs.declared.names.RelName.{RelName}
use Rattle.cluster_tree.specs.Apart.{is_held}
use Rattle.cluster_tree.specs.Contents.{entry_at}
use Rattle.cluster_tree.specs.PathValue.{PathValue}
use Rattle.cluster_tree.specs.Run.{State, Run}
use Rattle.file_edits.specs.Edits.{on_way}
use Rattle.file_edits.specs.Own.{GoesOn}
use Rattle.record_layouts.specs.declared.relmap.RelMapUpdate.{RelMapUpdate}
use Rattle.slru_replay.specs.Area.{is_of_area}
use Rattle.slru_replay.specs.MultiXact.{is_of_multixacts}
use Rattle.slru_replay.specs.declared.area.Area.{Area}
use Rattle.storage_databases.specs.Databases.{database_folder, version_file}
use Rattle.storage_databases.specs.RelationMap.{is_of_map}
use Rattle.storage_replay.specs.Files.{is_of_relation}
use Rattle.file_effects.specs.Own.{control_file_of, is_apart, is_at, is_replayed}

-- a relation's, whatever its tablespace is
abbrev pub RelationIsReplayed : Type 0
RelationIsReplayed = (root : PathValue) (rel : RelName) (path : PathValue) → is_of_relation root rel path ≡ true → is_replayed root path ≡ true

abbrev pub AreaIsReplayed : Type 0
AreaIsReplayed = (root : PathValue) (area : Area) (path : PathValue) → is_of_area root area path ≡ true → is_replayed root path ≡ true

abbrev pub MultisAreReplayed : Type 0
MultisAreReplayed = (root : PathValue) (path : PathValue) → is_of_multixacts root path ≡ true → is_replayed root path ≡ true

-- those of a database that is made, and of one that goes
abbrev pub VersionIsReplayed : Type 0
VersionIsReplayed = (root : PathValue) (database : ℕ) (path : PathValue) → on_way root (version_file root database) path ≡ true → is_replayed root path ≡ true

abbrev pub DatabaseIsReplayed : Type 0
DatabaseIsReplayed = (root : PathValue) (database : ℕ) (path : PathValue) → is_held (database_folder root database) path ≡ true → is_replayed root path ≡ true

abbrev pub MapIsReplayed : Type 0
MapIsReplayed = (root : PathValue) (update : Option RelMapUpdate) (path : PathValue) → is_of_map root update path ≡ true → is_replayed root path ≡ true

-- not so the root itself, the control file, and what stands at or below other entries of the root, as pg_wal
abbrev pub RootIsNotReplayed : Type 0
RootIsNotReplayed = (root : PathValue) → is_replayed root root ≡ false

abbrev pub ControlIsNotReplayed : Type 0
ControlIsNotReplayed = (root : PathValue) → is_replayed root (control_file_of root) ≡ false

abbrev pub OthersAreNotReplayed : Type 0
OthersAreNotReplayed = (root : PathValue) (name : List ℕ) (path : PathValue) → is_apart name ≡ true → is_at root name path ≡ true → is_replayed root path ≡ false

-- after calls there, whatever they answered, every other path holds what it held
abbrev pub ElsewhereStays : Type 0
ElsewhereStays = (root : PathValue) (old new : State) (path : PathValue) → Run old new → GoesOn (is_replayed root) old.calls new.calls → is_replayed root path ≡ false → entry_at new.contents path ≡ entry_at old.contents path
