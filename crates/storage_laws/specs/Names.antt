-- Which names stand for one relation, one fork, one block: PostgreSQL 16, src/include/storage/relfilelocator.h,
-- src/include/storage/block.h, src/include/catalog/pg_tablespace.dat, pg_default (1663) and pg_global (1664). Own: "Tablespaces in replay".
use Rattle.std.specs.Prelude.{ℕ, ◌<◌, ◌-◌, ◌^◌, ◌==◌, Bool, not, ◌&&◌, if◌then◌else◌}
use Rattle.block_refs.specs.declared.names.BlockName.{BlockName}
use Rattle.block_refs.specs.declared.names.Fork.{Fork}
use Rattle.block_refs.specs.declared.names.RelName.{RelName}
use Rattle.storage_replay.specs.Cutting.{same_fork}

-- a relation's numbers are below 2^32, as those that a record names
pub record IsRel (rel : RelName) : Type 0 where
  pub database : rel.database < 2 ^ 32
  pub relation : rel.relation < 2 ^ 32

-- a block's number is no greater than PostgreSQL's MaxBlockNumber
pub record IsBlock (name : BlockName) : Type 0 where
  pub rel : IsRel name.rel
  pub block : name.block < 2 ^ 32 - 1

-- the relations of pg_global are shared; every other tablespace is taken for pg_default
abbrev pub is_shared : RelName → Bool
is_shared rel = rel.space == 1664

-- whether a relation lies in a database's folder
abbrev pub is_in_database : (database : ℕ) → RelName → Bool
is_in_database database rel = not (is_shared rel) && (rel.database == database)

-- whether two relations lie in one folder
abbrev pub same_folder : RelName → RelName → Bool
same_folder rel other = if is_shared rel then is_shared other else is_in_database rel.database other

-- whether they have the same files
abbrev pub same_files : RelName → RelName → Bool
same_files rel other = same_folder rel other && (rel.relation == other.relation)

-- whether a block is one of a fork
abbrev pub in_fork : RelName → Fork → BlockName → Bool
in_fork rel fork name = same_files rel name.rel && same_fork fork name.fork

-- whether two names are of one block
abbrev pub same_block : BlockName → BlockName → Bool
same_block name other = in_fork name.rel name.fork other && (name.block == other.block)

-- the block of a number in a fork
abbrev pub block_of : RelName → Fork → ℕ → BlockName
block_of rel fork block = record { rel = rel; fork = fork; block = block }
