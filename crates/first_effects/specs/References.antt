-- What is gathered, one reference after another. Own: "Blocks that are changed first".
use Rattle.std.specs.Prelude.{◌≡◌, ◌&&◌, ◌||◌, Bool, true, false, not, List, Option, Some, None, if◌then◌else◌}
use Rattle.std.specs.List.{list_any}
use Rattle.std.specs.Ordering.{is_lt}
use Rattle.block_refs.specs.Order.{compared}
use Rattle.block_refs.specs.Parts.{PartsView}
use Rattle.block_refs.specs.declared.block_ref.BlockRef.{BlockRef}
use Rattle.block_refs.specs.declared.names.BlockName.{BlockName}
use Rattle.block_refs.specs.declared.placed.Placed.{Placed}
use Rattle.replay_profile.specs.Names.{is_block}
use Rattle.wal_records.specs.Reading.{LogRecord}
use Rattle.block_effects.specs.Gone.{is_main}
use Rattle.record_effects.specs.Acts.{act_on}
use Rattle.record_effects.specs.declared.acts.Act.{Act}
use Rattle.record_effects.specs.declared.acts.Act.TheVariants.{Image, Make, Change}
use Rattle.rmgr_hooks.specs.Custom.{Extension}
use Rattle.first_effects.specs.First.{IsLeastOf}
use Rattle.first_effects.specs.Gathered.{FirstView, is_known}

-- the lesser one of a block that may be missing and another
abbrev pub lesser : Option BlockName → BlockName → BlockName
lesser None name = name
lesser (Some least) name = if is_lt (compared name least) then name else least

-- what is done at a reference is an effect on its block, or a change of it; that the record takes it away is gathered apart
abbrev pub is_effect : Act → Bool
is_effect Image = true
is_effect Make = true
is_effect Change = true
is_effect _ = false

abbrev pub is_change : Act → Bool
is_change Change = true
is_change _ = false

-- a reference meets a block, or changes it
abbrev pub meets : Option Extension → LogRecord → PartsView → BlockName → BlockRef → Bool
meets custom rec parts name block = is_block name block.name && is_effect (act_on custom rec parts block)

abbrev pub changes : Option Extension → LogRecord → PartsView → BlockName → BlockRef → Bool
changes custom rec parts name block = is_block name block.name && is_change (act_on custom rec parts block)

-- one of some references does
abbrev pub met_by : Option Extension → LogRecord → PartsView → List Placed → BlockName → Bool
met_by custom rec parts blocks name = list_any (λ placed. meets custom rec parts name placed.block) blocks

abbrev pub changed_by : Option Extension → LogRecord → PartsView → List Placed → BlockName → Bool
changed_by custom rec parts blocks name = list_any (λ placed. changes custom rec parts name placed.block) blocks

-- a block of a main fork that isn't known is changed
abbrev pub is_changed_anew : FirstView → (BlockName → Bool) → BlockName → Bool
is_changed_anew seen changed name = is_main name.fork && (changed name && not (is_known name seen))

-- These blocks are known too, and no others, and of those of them that are changed and weren't known the least is told
-- where it is the least of all.
pub record Gathers (met changed : BlockName → Bool) (before after : FirstView) : Type 0 where
  pub known : (name : BlockName) → is_main name.fork ≡ true → is_known name after ≡ (is_known name before || met name)
  pub least : (is_it : BlockName → Bool) → IsLeastOf is_it before.least → IsLeastOf (λ name. is_it name || is_changed_anew before changed name) after.least
