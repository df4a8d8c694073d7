-- The state of a block, by where its bytes lie: PostgreSQL 16, src/backend/storage/smgr/md.c, mdread and _mdfd_getseg.
-- Own: "States of blocks".
use Rattle.std.specs.Prelude.{ℕ, ◌*◌, ◌/◌, ◌%◌, nat_lt, List, length, take, drop, Option, None, Some, if◌then◌else◌}
use Rattle.std.specs.Option.{option_and_then}
use Rattle.block_refs.specs.declared.names.BlockName.{BlockName}
use Rattle.cluster_tree.specs.PathValue.{PathValue}
use Rattle.cluster_tree.specs.Contents.{Contents}
use Rattle.cluster_tree.specs.Tree.{bytes_at}
use Rattle.relation_files.specs.Paths.{relation_file}
use Rattle.storage_replay.specs.Reading.{is_zero}

-- of a file's whole blocks the one at a place; a torn end is none
abbrev pub whole_block : (place : ℕ) → List ℕ → Option (List ℕ)
whole_block place bytes = if nat_lt place (length bytes / 8192) then Some (take 8192 (drop (place * 8192) bytes)) else None

-- a block of a fork in its file, wherever the fork's length ends: none where the file isn't there, or ends before the block does
abbrev pub block_in : PathValue → (per_file : ℕ) → BlockName → Contents → Option (List ℕ)
block_in root per_file name c = whole_block (name.block % per_file) (bytes_at c (relation_file root name.rel name.fork (name.block / per_file)))

-- a block of zeros is no page
abbrev pub page_or_none : List ℕ → Option (List ℕ)
page_or_none bytes = if is_zero bytes then None else Some bytes

-- the page of a block: none where it isn't there, or is zeros
abbrev pub page_in : PathValue → (per_file : ℕ) → BlockName → Contents → Option (List ℕ)
page_in root per_file name c = option_and_then page_or_none (block_in root per_file name c)
