-- Which blocks of main forks replay of a record may change. Own: "Calls that spare bytes".
use Rattle.std.specs.Prelude.{Bool, ◌||◌, List, Option}
use Rattle.std.specs.List.{list_any}
use Rattle.block_refs.specs.Outcomes.{record_parts}
use Rattle.block_refs.specs.Parts.{PartsView}
use Rattle.block_refs.specs.declared.names.BlockName.{BlockName}
use Rattle.block_replay.specs.Touched.{writes_block}
use Rattle.file_effects.specs.Effect.{effect_in}
use Rattle.file_effects.specs.Touched.{takes_block}
use Rattle.replay_profile.specs.Profile.{parts_or_none}
use Rattle.rmgr_hooks.specs.Custom.{Extension}
use Rattle.wal_records.specs.Reading.{LogRecord}

-- a record of these parts: at one of its references, or by its effect on files
abbrev pub touches : Option Extension → LogRecord → PartsView → BlockName → Bool
touches custom rec parts name = writes_block custom rec parts name || takes_block (effect_in rec parts) name

-- one of some records, by the parts that are read of it
abbrev pub touched_by : Option Extension → List LogRecord → BlockName → Bool
touched_by custom records name = list_any (λ (rec : LogRecord). touches custom rec (parts_or_none (record_parts rec)) name) records
