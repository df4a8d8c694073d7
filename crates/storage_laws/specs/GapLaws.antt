-- Calls leave forks without a gap. Own: "States of blocks".
use Rattle.std.specs.Prelude.{◌≡◌, ℕ, ◌<◌, ◌^◌, Option, Ok}
use Rattle.block_refs.specs.declared.names.Fork.{Fork}
use Rattle.block_refs.specs.declared.names.Fork.TheVariants.{Main, Visibility}
use Rattle.block_refs.specs.declared.names.RelName.{RelName}
use Rattle.cluster_tree.specs.PathValue.{PathValue}
use Rattle.cluster_tree.specs.Contents.{Contents, IsTree}
use Rattle.record_layouts.specs.declared.relmap.RelMapUpdate.{RelMapUpdate}
use Rattle.storage_databases.specs.Databases.{database_dropped, database_made}
use Rattle.storage_databases.specs.RelationMap.{map_written}
use Rattle.storage_replay.specs.Changes.{created, relation_dropped, truncated}
use Rattle.storage_replay.specs.MapBits.{map_edited}
use Rattle.storage_replay.specs.declared.map_edit.MapEdit.{MapEdit}
use Rattle.storage_laws.specs.Forks.{HasNoGap}
use Rattle.storage_laws.specs.Names.{IsRel}

-- a fork has no gap after a change if it had none before
abbrev pub KeepsNoGap : PathValue → (per_file : ℕ) → RelName → Fork → Contents → Contents → Type 0
KeepsNoGap root per_file rel fork c d = HasNoGap root per_file rel fork c → HasNoGap root per_file rel fork d

-- a relation that is cut, whose own forks have none
abbrev pub TruncatedGaps : Type 0
TruncatedGaps = (root : PathValue) (per_file : ℕ) (rel : RelName) (blocks flags : ℕ) (of : RelName) (fork : Fork) (c d : Contents)
    → 0 < per_file → IsRel rel → IsRel of → blocks < 2 ^ 32 → IsTree c
    → HasNoGap root per_file rel Main c → HasNoGap root per_file rel Visibility c
    → truncated root per_file rel blocks flags c ≡ Ok d → KeepsNoGap root per_file of fork c d

-- a fork that is made
abbrev pub CreatedGaps : Type 0
CreatedGaps = (root : PathValue) (per_file : ℕ) (rel : RelName) (made : Fork) (of : RelName) (fork : Fork) (c d : Contents)
    → created root rel made c ≡ Ok d → KeepsNoGap root per_file of fork c d

-- a relation that is dropped
abbrev pub DroppedGaps : Type 0
DroppedGaps = (root : PathValue) (per_file : ℕ) (rel of : RelName) (fork : Fork) (c d : Contents)
    → 0 < per_file → IsRel rel → IsRel of → IsTree c → relation_dropped root rel c ≡ Ok d → KeepsNoGap root per_file of fork c d

-- bits of a map that has none
abbrev pub EditedGaps : Type 0
EditedGaps = (root : PathValue) (per_file : ℕ) (rel : RelName) (block : ℕ) (edit : MapEdit) (of : RelName) (fork : Fork) (c d : Contents)
    → 0 < per_file → IsRel rel → IsRel of → block < 2 ^ 32 → HasNoGap root per_file rel Visibility c
    → map_edited root per_file rel block edit c ≡ Ok d → KeepsNoGap root per_file of fork c d

-- a database that is made, or dropped, and a relation map that is written
abbrev pub MadeGaps : Type 0
MadeGaps = (root : PathValue) (per_file database : ℕ) (of : RelName) (fork : Fork) (c d : Contents)
    → 0 < per_file → IsRel of → database_made root database c ≡ Ok d → KeepsNoGap root per_file of fork c d

abbrev pub DatabaseDroppedGaps : Type 0
DatabaseDroppedGaps = (root : PathValue) (per_file database : ℕ) (of : RelName) (fork : Fork) (c d : Contents)
    → 0 < per_file → IsRel of → database < 2 ^ 32 → IsTree c → database_dropped root database c ≡ Ok d → KeepsNoGap root per_file of fork c d

abbrev pub MapWrittenGaps : Type 0
MapWrittenGaps = (root : PathValue) (per_file : ℕ) (update : Option RelMapUpdate) (of : RelName) (fork : Fork) (c d : Contents)
    → 0 < per_file → IsRel of → map_written root update c ≡ Ok d → KeepsNoGap root per_file of fork c d
