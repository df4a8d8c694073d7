-- The state of a block after a call, by its state before: PostgreSQL 16, src/backend/storage/smgr/md.c, mdextend,
-- mdtruncate and mdunlink; src/backend/access/heap/visibilitymap.c. Own: "States of blocks".
use Rattle.std.specs.Prelude.{ℕ, ◌+◌, ◌==◌, Bool, not, ◌&&◌, nat_lt, List, ◌∷◌, slice_index, replicate, Option, None, Some, if◌then◌else◌}
use Rattle.std.specs.Option.{option_map}
use Rattle.layout.specs.Splice.{splice}
use Rattle.block_refs.specs.declared.names.BlockName.{BlockName}
use Rattle.block_refs.specs.declared.names.Fork.{Fork}
use Rattle.block_refs.specs.declared.names.Fork.TheVariants.{Main, Visibility}
use Rattle.block_refs.specs.declared.names.RelName.{RelName}
use Rattle.storage_replay.specs.Changes.{cuts_main, cuts_map}
use Rattle.storage_replay.specs.MapBits.{fill_pages, map_byte, map_page, new_byte, zeros_behind}
use Rattle.storage_replay.specs.declared.map_edit.MapEdit.{MapEdit}
use Rattle.storage_replay.specs.declared.map_edit.MapEdit.TheVariants.{Cut}
use Rattle.storage_laws.specs.Names.{in_fork, is_in_database, same_block, same_files}

-- a block that is there, or one of zeros
abbrev pub or_zeros : Option (List ℕ) → List ℕ
or_zeros None = replicate 8192 0
or_zeros (Some bytes) = bytes

-- zeros where the fork grows over a block that wasn't there
abbrev pub zeros_if : Bool → Option (List ℕ) → Option (List ℕ)
zeros_if grows old = if grows then Some (or_zeros old) else old

-- whether a fork that gets a block grows over another: it is one of the same fork, before it
abbrev pub is_grown_over : BlockName → BlockName → Bool
is_grown_over name other = in_fork name.rel name.fork other && nat_lt other.block name.block

-- once a block is written
abbrev pub written_state : BlockName → (page : List ℕ) → BlockName → Option (List ℕ) → Option (List ℕ)
written_state name page other old = if same_block name other then Some page else zeros_if (is_grown_over name other) old

-- once a fork that has more blocks is cut to so many
abbrev pub cut_state : RelName → Fork → (blocks : ℕ) → BlockName → Option (List ℕ) → Option (List ℕ)
cut_state rel fork blocks other old = if in_fork rel fork other && not (nat_lt other.block blocks) then None else old

-- once a relation is dropped
abbrev pub dropped_state : RelName → BlockName → Option (List ℕ) → Option (List ℕ)
dropped_state rel other old = if same_files rel other.rel then None else old

-- once a database is
abbrev pub database_dropped_state : (database : ℕ) → BlockName → Option (List ℕ) → Option (List ℕ)
database_dropped_state database other old = if is_in_database database other.rel then None else old

-- a page of the map with bits of a heap block cleared, or cut at one
abbrev pub page_edited : MapEdit → (block : ℕ) → List ℕ → List ℕ
page_edited edit block page = splice page (map_byte block) (new_byte edit block (slice_index page (map_byte block)) ∷ replicate (zeros_behind edit block) 0)

-- once the map's page of a heap block is edited
abbrev pub edited_state : RelName → (block : ℕ) → MapEdit → BlockName → Option (List ℕ) → Option (List ℕ)
edited_state rel block edit other old = if in_fork rel Visibility other && (map_page block == other.block) then option_map (page_edited edit block) old else old

-- once the map is cut with its relation: a last page that is left in part loses the bits at and past the cut
abbrev pub map_cut_state : RelName → (blocks : ℕ) → BlockName → Option (List ℕ) → Option (List ℕ)
map_cut_state rel blocks other old =
    if fill_pages blocks then cut_state rel Visibility (map_page blocks) other old
    else cut_state rel Visibility (map_page blocks + 1) other (edited_state rel blocks Cut other old)

-- once the main fork is cut, where the flags say so, and the map
abbrev pub main_by_state : RelName → (blocks flags : ℕ) → BlockName → Option (List ℕ) → Option (List ℕ)
main_by_state rel blocks flags other old = if cuts_main flags then cut_state rel Main blocks other old else old

abbrev pub map_by_state : RelName → (blocks flags : ℕ) → BlockName → Option (List ℕ) → Option (List ℕ)
map_by_state rel blocks flags other old = if cuts_map flags then map_cut_state rel blocks other old else old

-- once a relation is cut
abbrev pub truncated_state : RelName → (blocks flags : ℕ) → BlockName → Option (List ℕ) → Option (List ℕ)
truncated_state rel blocks flags other old = map_by_state rel blocks flags other (main_by_state rel blocks flags other old)
