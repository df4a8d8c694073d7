-- What the state of a block is once a database is made or dropped, or a relation map written. Own: "States of blocks".
use Rattle.std.specs.Prelude.{◌≡◌, ℕ, ◌<◌, ◌^◌, Option, Ok}
use Rattle.block_refs.specs.declared.names.BlockName.{BlockName}
use Rattle.cluster_tree.specs.PathValue.{PathValue}
use Rattle.cluster_tree.specs.Contents.{Contents, IsTree}
use Rattle.record_layouts.specs.declared.relmap.RelMapUpdate.{RelMapUpdate}
use Rattle.storage_databases.specs.Databases.{database_dropped, database_made}
use Rattle.storage_databases.specs.RelationMap.{map_written}
use Rattle.storage_laws.specs.After.{database_dropped_state}
use Rattle.storage_laws.specs.Names.{IsBlock}
use Rattle.storage_laws.specs.States.{block_in}

-- where a database is made every block is what it was
abbrev pub MadeBlocks : Type 0
MadeBlocks = (root : PathValue) (per_file database : ℕ) (other : BlockName) (c d : Contents)
    → 0 < per_file → IsBlock other → database_made root database c ≡ Ok d
    → block_in root per_file other d ≡ block_in root per_file other c

-- of a database that is dropped no block is there; every other block is what it was
abbrev pub DatabaseDroppedBlocks : Type 0
DatabaseDroppedBlocks = (root : PathValue) (per_file database : ℕ) (other : BlockName) (c d : Contents)
    → 0 < per_file → IsBlock other → database < 2 ^ 32 → IsTree c → database_dropped root database c ≡ Ok d
    → block_in root per_file other d ≡ database_dropped_state database other (block_in root per_file other c)

-- a relation map is no block
abbrev pub MapWrittenBlocks : Type 0
MapWrittenBlocks = (root : PathValue) (per_file : ℕ) (update : Option RelMapUpdate) (other : BlockName) (c d : Contents)
    → 0 < per_file → IsBlock other → map_written root update c ≡ Ok d
    → block_in root per_file other d ≡ block_in root per_file other c
