-- One block of a cluster as a replay of the log holds it: PostgreSQL 16, src/backend/access/transam/xlogutils.c,
-- XLogReadBufferForRedoExtended and log_invalid_page. Own: "A replay, seen on one block".
use Rattle.std.specs.Prelude.{◌≡◌, ℕ, Bool, List}
use Rattle.std.specs.List.{list_any}
use Rattle.block_refs.specs.declared.names.BlockName.{BlockName}
use Rattle.block_refs.specs.declared.names.Fork.TheVariants.{Main}
use Rattle.cluster_tree.specs.PathValue.{PathValue}
use Rattle.replay_law.specs.Replay.{Held}
use Rattle.replay_profile.specs.Names.{is_block}
use Rattle.replay_world.specs.World.{World}
use Rattle.storage_laws.specs.FileLaws.{IsProper}
use Rattle.storage_laws.specs.Names.{IsBlock}
use Rattle.storage_laws.specs.States.{page_in}

-- a block of a main fork, by numbers that a record can name and with the tablespace and the database that servers give it
pub record IsMainBlock (name : BlockName) : Type 0 where
  pub main : name.fork ≡ Main
  pub block : IsBlock name
  pub proper : IsProper name.rel

-- whether a block is one of those whose change was skipped
abbrev pub is_among : BlockName → List BlockName → Bool
is_among name skipped = list_any (is_block name) skipped

-- the page of a block in the cluster's files, and whether a change of it was skipped
abbrev pub held : PathValue → (per_file : ℕ) → World → BlockName → Held
held root per_file w name = record { page = page_in root per_file name w.files; skipped = is_among name w.skipped }
