-- What an update says, in the main bytes of its record: a format of this project, like that of PostgreSQL 16, src/test/modules/test_custom_rmgrs.
use Rattle.std.specs.Prelude.{ℕ, List, Option, Some, None, length, nat_lt, if◌then◌else◌}
use Rattle.layout.specs.Readers.{u16_at, u32_at}
use Rattle.sample_manager.specs.declared.slot.SlotUpdate.{SlotUpdate}

-- the number of a slot, and its new value behind it
abbrev pub slot_update_at : List ℕ → SlotUpdate
slot_update_at bytes = record {
  slot = u16_at 0 bytes;
  value = u32_at 2 bytes;
}

-- the layout at the front of these bytes, where they are six or more
unfoldable pub slot_update_of : List ℕ → Option SlotUpdate
slot_update_of bytes = if nat_lt (length bytes) 6 then None else Some (slot_update_at bytes)
