-- Where whatever is there lies in a folder, it does so after each call too. Own: "States of blocks".
use Rattle.std.specs.Prelude.{◌≡◌, ℕ, List, Option, Ok}
use Rattle.block_refs.specs.declared.names.BlockName.{BlockName}
use Rattle.block_refs.specs.declared.names.Fork.{Fork}
use Rattle.block_refs.specs.declared.names.RelName.{RelName}
use Rattle.cluster_tree.specs.PathValue.{PathValue}
use Rattle.cluster_tree.specs.Contents.{Contents, IsTree}
use Rattle.record_layouts.specs.declared.relmap.RelMapUpdate.{RelMapUpdate}
use Rattle.storage_databases.specs.Databases.{database_dropped, database_made}
use Rattle.storage_databases.specs.RelationMap.{map_written}
use Rattle.storage_replay.specs.Blocks.{block_put}
use Rattle.storage_replay.specs.Changes.{created, relation_dropped, truncated}
use Rattle.storage_replay.specs.MapBits.{map_edited}
use Rattle.storage_replay.specs.declared.map_edit.MapEdit.{MapEdit}

-- a block that is written
abbrev pub WrittenTree : Type 0
WrittenTree = (root : PathValue) (per_file : ℕ) (name : BlockName) (page : List ℕ) (c d : Contents)
    → IsTree c → block_put root per_file name page c ≡ Ok d → IsTree d

-- a relation that is cut
abbrev pub TruncatedTree : Type 0
TruncatedTree = (root : PathValue) (per_file : ℕ) (rel : RelName) (blocks flags : ℕ) (c d : Contents)
    → IsTree c → truncated root per_file rel blocks flags c ≡ Ok d → IsTree d

-- a fork that is made
abbrev pub CreatedTree : Type 0
CreatedTree = (root : PathValue) (rel : RelName) (fork : Fork) (c d : Contents)
    → IsTree c → created root rel fork c ≡ Ok d → IsTree d

-- a relation that is dropped
abbrev pub DroppedTree : Type 0
DroppedTree = (root : PathValue) (rel : RelName) (c d : Contents) → IsTree c → relation_dropped root rel c ≡ Ok d → IsTree d

-- bits of the map
abbrev pub EditedTree : Type 0
EditedTree = (root : PathValue) (per_file : ℕ) (rel : RelName) (block : ℕ) (edit : MapEdit) (c d : Contents)
    → IsTree c → map_edited root per_file rel block edit c ≡ Ok d → IsTree d

-- a database that is made, or dropped, and a relation map that is written
abbrev pub MadeTree : Type 0
MadeTree = (root : PathValue) (database : ℕ) (c d : Contents) → IsTree c → database_made root database c ≡ Ok d → IsTree d

abbrev pub DatabaseDroppedTree : Type 0
DatabaseDroppedTree = (root : PathValue) (database : ℕ) (c d : Contents) → IsTree c → database_dropped root database c ≡ Ok d → IsTree d

abbrev pub MapWrittenTree : Type 0
MapWrittenTree = (root : PathValue) (update : Option RelMapUpdate) (c d : Contents) → IsTree c → map_written root update c ≡ Ok d → IsTree d
