-- The effect of a record on a block: PostgreSQL 16, src/backend/access/transam/xlogutils.c, XLogReadBufferForRedoExtended
-- and XLogInitBufferForRedo. Own: "Effects of records".
use Rattle.std.specs.Prelude.{ℕ, ◌&&◌, Bool, true, false, List, find, replicate, Option, Some, None, if◌then◌else◌}
use Rattle.block_refs.specs.Bytes.{filled, stored_image}
use Rattle.block_refs.specs.Parts.{PartsView}
use Rattle.block_refs.specs.declared.block_ref.ImageRef.{ImageRef}
use Rattle.block_refs.specs.declared.names.BlockName.{BlockName}
use Rattle.block_refs.specs.declared.names.Fork.{Fork}
use Rattle.block_refs.specs.declared.names.Fork.TheVariants as fork
use Rattle.block_refs.specs.declared.placed.Placed.{Placed}
use Rattle.page_layout.specs.Lsn.{with_lsn}
use Rattle.page_masks.specs.Kind.{is_zero}
use Rattle.page_masks.specs.Law.{stamped}
use Rattle.replay_law.specs.Effect.{Effect, Nothing, FullPageImage, Init, Change, Gone}
use Rattle.replay_profile.specs.Names.{is_block}
use Rattle.wal_records.specs.Reading.{LogRecord}
use Rattle.block_effects.specs.Gone.{is_gone, is_main}
use Rattle.block_effects.specs.Rules.{BlockRules}

-- an empty page, from which a page that is made anew begins
abbrev pub zeros : List ℕ
zeros = replicate 8192 0

-- the reference to a block, where there is one
abbrev pub reference_to : BlockName → List Placed → Option Placed
reference_to name blocks = find (λ placed. is_block name placed.block.name) blocks

-- the free space map is left as it is
abbrev pub is_left : Fork → Bool
is_left fork.FreeSpace = true
is_left _ = false

-- an image that replay puts in place
abbrev pub applied : Option ImageRef → Option ImageRef
applied None = None
applied (Some image) = if image.apply then Some image else None

-- the page of an image gets the record's end as LSN; one of zeros stays so
abbrev pub put_in_place : ℕ → List ℕ → Option (List ℕ)
put_in_place end page = if is_zero page then None else Some (with_lsn end page)

-- what the manager's rules do to a block of a main fork
abbrev pub by_operation : BlockRules → LogRecord → PartsView → ℕ → Effect
by_operation rules rec parts id =
    if rules.fresh rec parts id then Init (stamped rec.end (rules.operation rec parts id) zeros)
    else Change (stamped rec.end (rules.operation rec parts id))

abbrev pub by_rules : BlockRules → LogRecord → PartsView → Placed → Effect
by_rules rules rec parts placed =
    if is_main placed.block.name.fork && rules.acts rec parts placed.block.id then by_operation rules rec parts placed.block.id else Nothing

-- an image that is applied comes before them
abbrev pub by_image_or : BlockRules → LogRecord → PartsView → Placed → Option ImageRef → Effect
by_image_or rules rec parts placed (Some image) = FullPageImage (put_in_place rec.end (filled image (stored_image rec.body parts placed)))
by_image_or rules rec parts placed None = by_rules rules rec parts placed

abbrev pub by_placed : BlockRules → LogRecord → PartsView → Placed → Effect
by_placed rules rec parts placed =
    if is_left placed.block.name.fork then Nothing else by_image_or rules rec parts placed (applied placed.block.image)

abbrev pub by_reference : BlockRules → LogRecord → PartsView → Option Placed → Effect
by_reference rules rec parts None = Nothing
by_reference rules rec parts (Some placed) = by_placed rules rec parts placed

-- the effect of a record of these parts on a block, by the rules of its manager: what takes the block away comes first
abbrev pub effect_by : BlockRules → LogRecord → PartsView → BlockName → Effect
effect_by rules rec parts name =
    if is_gone rec parts name then Gone else by_reference rules rec parts (reference_to name parts.blocks)
