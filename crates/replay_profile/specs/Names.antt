-- The names of relations, databases and blocks that replay knows: PostgreSQL 16, src/include/catalog/pg_tablespace.dat,
-- pg_default (1663) and pg_global (1664); src/include/storage/block.h, InvalidBlockNumber. Own: "The profile of replay".
use Rattle.std.specs.Prelude.{ℕ, ◌==◌, ◌&&◌, ◌||◌, Bool, true, not, List, [], ◌∷◌}
use Rattle.std.specs.List.{list_any}
use Rattle.block_refs.specs.Names.{fork_number}
use Rattle.block_refs.specs.declared.names.BlockName.{BlockName}
use Rattle.block_refs.specs.declared.names.RelName.{RelName}
use Rattle.block_refs.specs.declared.placed.Placed.{Placed}

-- a tablespace other than the shared one: the default one alone
abbrev pub is_known_space : ℕ → Bool
is_known_space space = space == 1663

-- a database has a number
abbrev pub is_known_database : ℕ → Bool
is_known_database database = not (database == 0)

-- a shared relation is in pg_global and in no database, any other one in the default tablespace and in a database
abbrev pub is_known_place : RelName → Bool
is_known_place rel = (rel.space == 1664 && rel.database == 0) || (is_known_space rel.space && is_known_database rel.database)

-- a relation has a number too
abbrev pub is_known_rel : RelName → Bool
is_known_rel rel = not (rel.relation == 0) && is_known_place rel

-- a block has a number below 2^32 - 1
abbrev pub is_known_block : BlockName → Bool
is_known_block name = is_known_rel name.rel && not (name.block == 0xFFFFFFFF)

-- two names are of one relation
abbrev pub is_rel : RelName → RelName → Bool
is_rel a b = a.space == b.space && (a.database == b.database && a.relation == b.relation)

-- two names are of one block
abbrev pub is_block : BlockName → BlockName → Bool
is_block a b = is_rel a.rel b.rel && (fork_number a.fork == fork_number b.fork && a.block == b.block)

-- a block is among those that some references name
abbrev pub is_named : BlockName → List Placed → Bool
is_named name blocks = list_any (λ placed. is_block name placed.block.name) blocks

-- each reference names a known block, and no block twice
abbrev pub are_known : List Placed → Bool
are_known [] = true
are_known (placed ∷ more) = is_known_block placed.block.name && not (is_named placed.block.name more) && are_known more
