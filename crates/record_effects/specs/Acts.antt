-- What replay does at a reference of a record. Own: "Effects of records".
use Rattle.std.specs.Prelude.{Option, ℕ, ◌≡◌, ◌==◌, ◌&&◌, List, Bool, true, false, Some, is_some, if◌then◌else◌}
use Rattle.block_refs.specs.Bytes.{page_of}
use Rattle.block_refs.specs.Parts.{PartsView}
use Rattle.block_refs.specs.declared.block_ref.BlockRef.{BlockRef}
use Rattle.block_refs.specs.declared.names.Fork.{Fork}
use Rattle.block_refs.specs.declared.names.Fork.TheVariants as fork
use Rattle.page_masks.specs.Law.{stamped}
use Rattle.record_layouts.specs.declared.heap2.Heap2Op.{Heap2Op}
use Rattle.record_layouts.specs.declared.heap2.Heap2Op.TheVariants as heap2
use Rattle.record_layouts.specs.declared.operation.Operation.{Operation}
use Rattle.record_layouts.specs.declared.operation.Operation.TheVariants as op
use Rattle.replay_law.specs.Effect.{Effect}
use Rattle.replay_law.specs.Effect as effect
use Rattle.wal_records.specs.Reading.{LogRecord}
use Rattle.block_effects.specs.Effects.{applied, is_left, put_in_place, zeros}
use Rattle.block_effects.specs.Gone.{is_gone, is_main}
use Rattle.record_effects.specs.Managers.{done_by, rules_of}
use Rattle.record_effects.specs.declared.acts.Act.{Act}
use Rattle.record_effects.specs.declared.acts.Act.TheVariants.{Nothing, Image, Make, Change, MapPage, Gone}
use Rattle.rmgr_hooks.specs.Custom.{Extension}

-- VISIBLE sets bits in the page of the visibility map that its reference 0 names
abbrev pub is_visible : Heap2Op → Bool
is_visible heap2.Visible = true
is_visible _ = false

abbrev pub sets_map_bits : Operation → Bool
sets_map_bits (op.Heap2 o) = is_visible o
sets_map_bits _ = false

abbrev pub is_map : Fork → Bool
is_map fork.Visibility = true
is_map _ = false

abbrev pub is_map_page : LogRecord → BlockRef → Bool
is_map_page rec block = sets_map_bits (done_by rec) && block.id == 0 && is_map block.name.fork

-- a page that is made anew, or a change
abbrev pub made_or_changed : Option Extension → LogRecord → PartsView → BlockRef → Act
made_or_changed custom rec parts block = if (rules_of custom rec).fresh rec parts block.id then Make else Change

abbrev pub act_by_rules : Option Extension → LogRecord → PartsView → BlockRef → Act
act_by_rules custom rec parts block =
    if is_main block.name.fork && (rules_of custom rec).acts rec parts block.id then made_or_changed custom rec parts block
    else if is_map_page rec block then MapPage
    else Nothing

abbrev pub act_at : Option Extension → LogRecord → PartsView → BlockRef → Act
act_at custom rec parts block =
    if is_left block.name.fork then Nothing
    else if is_some (applied block.image) then Image
    else act_by_rules custom rec parts block

-- what replay does at a reference
abbrev pub act_on : Option Extension → LogRecord → PartsView → BlockRef → Act
act_on custom rec parts block = if is_gone rec parts block.name then Gone else act_at custom rec parts block

-- The effect on the block of a reference is what is done there: an image is that of the reference, and a page that is
-- made or changed is made or changed by its manager. The map's page is no matter of the law.
abbrev pub IsDone : Option Extension → LogRecord → PartsView → ℕ → Act → Effect → Type 0
IsDone custom rec parts id Nothing done = done ≡ effect.Nothing
IsDone custom rec parts id Image done = (page : List ℕ) × (page_of rec.body parts id ≡ Some page) × (done ≡ effect.FullPageImage (put_in_place rec.end page))
IsDone custom rec parts id Make done = done ≡ effect.Init (stamped rec.end ((rules_of custom rec).operation rec parts id) zeros)
IsDone custom rec parts id Change done = done ≡ effect.Change (stamped rec.end ((rules_of custom rec).operation rec parts id))
IsDone custom rec parts id MapPage done = done ≡ effect.Nothing
IsDone custom rec parts id Gone done = done ≡ effect.Gone
