-- Which blocks replay of a record's references may write. Own: "Calls that spare bytes".
use Rattle.std.specs.Prelude.{Bool, true, false, ◌&&◌, List, Option, None, Some}
use Rattle.std.specs.List.{list_any}
use Rattle.block_refs.specs.Parts.{PartsView}
use Rattle.block_refs.specs.declared.block_ref.BlockRef.{BlockRef}
use Rattle.block_refs.specs.declared.names.BlockName.{BlockName}
use Rattle.block_refs.specs.declared.placed.Placed.{Placed}
use Rattle.record_effects.specs.Acts.{act_on}
use Rattle.record_effects.specs.declared.acts.Act.{Act}
use Rattle.record_effects.specs.declared.acts.Act.TheVariants.{Nothing, Image, Make, Change, MapPage, Gone}
use Rattle.rmgr_hooks.specs.Custom.{Extension}
use Rattle.storage_laws.specs.Names.{same_block}
use Rattle.wal_records.specs.Reading.{LogRecord}

-- what is done at a reference writes its block, or may
abbrev pub writes : Act → Bool
writes Nothing = false
writes Gone = false
writes Image = true
writes Make = true
writes Change = true
writes MapPage = true

-- at a reference this block may be written
abbrev pub writes_at : Option Extension → LogRecord → PartsView → BlockRef → BlockName → Bool
writes_at custom rec parts block name = writes (act_on custom rec parts block) && same_block block.name name

-- at the one of a place, if there is one
abbrev pub writes_placed : Option Extension → LogRecord → PartsView → Option Placed → BlockName → Bool
writes_placed custom rec parts None name = false
writes_placed custom rec parts (Some placed) name = writes_at custom rec parts placed.block name

-- at one of some references
abbrev pub writes_among : Option Extension → LogRecord → PartsView → List Placed → BlockName → Bool
writes_among custom rec parts blocks name = list_any (λ (placed : Placed). writes_at custom rec parts placed.block name) blocks

-- at one of the record's
abbrev pub writes_block : Option Extension → LogRecord → PartsView → BlockName → Bool
writes_block custom rec parts name = writes_among custom rec parts parts.blocks name
