-- Which blocks of main forks the calls for a record's effect on files may change: PostgreSQL 16, src/backend/catalog/storage.c,
-- smgr_redo; src/backend/access/transam/xact.c, xact_redo_commit; src/backend/commands/dbcommands.c, dbase_redo.
-- Own: "Calls that spare bytes".
use Rattle.std.specs.Prelude.{◌≡◌, ℕ, Bool, false, ◌&&◌, nat_le, List}
use Rattle.std.specs.List.{list_any}
use Rattle.block_refs.specs.declared.names.BlockName.{BlockName}
use Rattle.block_refs.specs.declared.names.Fork.TheVariants.{Main}
use Rattle.block_refs.specs.declared.names.RelName.{RelName}
use Rattle.cluster_tree.specs.PathValue.{PathValue}
use Rattle.cluster_tree.specs.declared.tree.Tree.{Ghosts}
use Rattle.file_edits.specs.Sparing.{Spares}
use Rattle.storage_laws.specs.Names.{IsBlock, in_fork, is_in_database, same_files}
use Rattle.storage_replay.specs.Changes.{cuts_main}
use Rattle.storage_replay.specs.Sparing.{piece_of}
use Rattle.file_effects.specs.declared.effect.FileEffect.{FileEffect}
use Rattle.file_effects.specs.declared.effect.FileEffect.TheVariants as effect

-- a block of a main fork, by numbers that a record can name
pub record IsOfMain (name : BlockName) : Type 0 where
  pub main : name.fork ≡ Main
  pub block : IsBlock name

-- a block of a relation that is dropped
abbrev pub is_among_dropped : List RelName → BlockName → Bool
is_among_dropped rels name = list_any (λ rel. same_files rel name.rel) rels

-- a block of the main fork from the cut on, where the flags of a truncation say that this fork is cut
abbrev pub is_behind_cut : RelName → (blocks flags : ℕ) → BlockName → Bool
is_behind_cut rel blocks flags name = cuts_main flags && (in_fork rel Main name && nat_le blocks name.block)

-- the blocks that go: of dropped relations, behind a cut, and in a dropped database. Every other effect changes other files.
abbrev pub takes_block : FileEffect → BlockName → Bool
takes_block (effect.End outcome end) name = is_among_dropped end.dropped name
takes_block (effect.Truncate cut) name = is_behind_cut cut.rel cut.blocks cut.flags name
takes_block (effect.DropDatabase database) name = is_in_database database name.rel
takes_block _ name = false

abbrev pub no_block_taken : BlockName → Bool
no_block_taken name = false

-- the changing calls that came each spare every block of a main fork but those that pass a test, where it is there
abbrev pub SparesBlocks : {F : Type 0} → Ghosts F → PathValue → (per_file : ℕ) → (BlockName → Bool) → F → F → Type 0
SparesBlocks tree root per_file taken old new = (name : BlockName) → IsOfMain name → taken name ≡ false → Spares tree (piece_of root per_file name) old new
