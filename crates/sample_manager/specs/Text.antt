-- The texts of the sample's records, as a dump shows them: PostgreSQL 16, src/include/access/xlog_internal.h, RmgrData, rm_desc.
use Rattle.std.specs.Prelude.{ℕ, List, [], ◌++◌, Option, Some, None, codes, decimal}
use Rattle.sample_manager.specs.Slot.{slot_update_of}
use Rattle.sample_manager.specs.declared.operation.SampleOp.{SampleOp}
use Rattle.sample_manager.specs.declared.operation.SampleOp.TheVariants.{Init, Update, Unlisted}
use Rattle.sample_manager.specs.declared.slot.SlotUpdate.{SlotUpdate}

-- an update
abbrev pub update_text : SlotUpdate → List ℕ
update_text update = codes "slot " ++ (decimal update.slot ++ (codes ", value " ++ decimal update.value))

-- the text of an update, if the bytes hold one
abbrev pub or_short : Option SlotUpdate → List ℕ
or_short None = codes "(short)"
or_short (Some update) = update_text update

-- the text of an operation with these main bytes
abbrev pub sample_text : SampleOp → List ℕ → List ℕ
sample_text Init main = codes "init"
sample_text Update main = or_short (slot_update_of main)
sample_text Unlisted main = []
