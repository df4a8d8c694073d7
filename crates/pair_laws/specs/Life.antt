-- The life of each block of a pair in the source's log: PostgreSQL 16, src/backend/access/heap/heapam.c, heap_xlog_insert. Own: "A pair from a number".
use Rattle.std.specs.Prelude.{ℕ, ◌≤◌, ◌&&◌, List, map, Option, None, Some, nat_lt, if◌then◌else◌}
use Rattle.block_effects.specs.Lives.{IsLife}
use Rattle.block_refs.specs.declared.names.BlockName.{BlockName}
use Rattle.page_masks.specs.Law.{view}
use Rattle.record_effects.specs.Managers.{rules_of}
use Rattle.replay_law.specs.Stage.{Fits}
use Rattle.replay_laws.specs.Held.{IsMainBlock}
use Rattle.replay_laws.specs.Log.{split_of, steps}
use Rattle.replay_laws.specs.Refusals.{SomeLacksLayout}
use Rattle.replay_profile.specs.Names.{is_rel}
use Rattle.wal_records.specs.Again.{log_records}
use Rattle.wal_records.specs.Reading.{LogRecord}
use Rattle.wal_records.specs.Writer.{begun}
use Rattle.pair_maker.specs.Blocks.{block_page}
use Rattle.pair_maker.specs.Inserts.{pair_relation}
use Rattle.pair_maker.specs.Logs.{block_end, common_place, origin_of, records_of}
use Rattle.pair_maker.specs.declared.side.Side.{Side}
use Rattle.pair_maker.specs.declared.side.Side.TheVariants.{Source}

-- the records of a cluster's log, as they are read
abbrev pub side_records : Side → (seed blocks : ℕ) → List LogRecord
side_records side seed blocks = log_records (begun (origin_of side)) (records_of side seed blocks)

-- a page of a pair's relation; no other block is there
abbrev pub if_there : ℕ → BlockName → List ℕ → Option (List ℕ)
if_there blocks name page = if is_rel name.rel pair_relation && nat_lt name.block blocks then Some page else None

-- the state of the blocks when the common checkpoint began: each of the relation is empty
abbrev pub base_of : (blocks : ℕ) → BlockName → Option (List ℕ)
base_of blocks name = if_there blocks name (block_page 0 0 None)

-- and when a cluster was shut down: each as its own insert left it
abbrev pub page_of : Side → (seed blocks : ℕ) → BlockName → Option (List ℕ)
page_of side seed blocks name = if_there blocks name (block_page seed name.block (block_end side seed name.block))

-- Of each block of a main fork the source's log is a life from the base on, and the source's own state is one of that life.
abbrev pub PairLives : Type 0
PairLives = (seed blocks : ℕ) (name : BlockName) → blocks ≤ 4096 → IsMainBlock name
    → IsLife (rules_of None) name common_place (base_of blocks name) (map split_of (side_records Source seed blocks))
    × Fits (view name.block) (base_of blocks name) (page_of Source seed blocks name) (steps None name (side_records Source seed blocks))

-- each of its records says enough
abbrev pub PairSaysEnough : Type 0
PairSaysEnough = (seed blocks : ℕ) → blocks ≤ 4096 → ¬ (SomeLacksLayout (side_records Source seed blocks))
