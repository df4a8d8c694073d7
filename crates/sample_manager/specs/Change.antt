-- Pages of slots, and what the sample's records make of them but for the LSN: a format of this project, within the page of PostgreSQL 16,
-- src/include/storage/bufpage.h.
use Rattle.std.specs.Prelude.{ℕ, ◌+◌, ◌*◌, ◌==◌, ◌&&◌, List, Bool, nat_lt, Ok, Err, if◌then◌else◌}
use Rattle.layout.specs.Splice.{splice}
use Rattle.page_layout.specs.Bytes.{u32_bytes}
use Rattle.page_layout.specs.Edits.{init_bytes}
use Rattle.page_layout.specs.Page.{pd_special, well_formed}
use Rattle.page_layout.specs.declared.refusal.RedoWhy.TheVariants.{Layout, Place, PageShape}
use Rattle.page_masks.specs.Law.{Redone}
use Rattle.redo_steps.specs.Redo.{laid_out}
use Rattle.sample_manager.specs.Slot.{slot_update_of}
use Rattle.sample_manager.specs.declared.operation.SampleOp.{SampleOp}
use Rattle.sample_manager.specs.declared.operation.SampleOp.TheVariants.{Init, Update, Unlisted}
use Rattle.sample_manager.specs.declared.slot.SlotUpdate.{SlotUpdate}

-- a well formed page with 32 bytes of special space
abbrev pub is_slot_page : List ℕ → Bool
is_slot_page p = well_formed p && pd_special p == 8160

-- one of the 2034 slots of four bytes between the header and the special space
abbrev pub is_slot : ℕ → Bool
is_slot slot = nat_lt slot 2034

-- the page with the value in the slot
abbrev pub with_value : SlotUpdate → List ℕ → List ℕ
with_value update p = splice p (24 + 4 * update.slot) (u32_bytes update.value)

-- what an update makes of a page
abbrev pub updated : SlotUpdate → List ℕ → Redone
updated update p =
    if is_slot_page p then (if is_slot update.slot then Ok (with_value update p) else Err Place)
    else Err PageShape

-- what an operation with these main bytes makes of a page
abbrev pub sample_change : SampleOp → List ℕ → List ℕ → Redone
sample_change Init main p = Ok (init_bytes 32)
sample_change Update main p = laid_out (slot_update_of main) (λ update. updated update p)
sample_change Unlisted main p = Err Layout
