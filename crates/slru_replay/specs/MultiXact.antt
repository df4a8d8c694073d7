-- Multixacts: PostgreSQL 16, src/backend/access/transam/multixact.c, RecordNewMultiXact, MultiXactIdToOffsetPage,
-- MXOffsetToFlagsOffset and MXOffsetToMemberOffset; src/include/access/multixact.h. Own: "Members of multixacts".
use Rattle.std.specs.Prelude.{ℕ, ◌+◌, ◌*◌, ◌/◌, ◌%◌, ◌^◌, Bool, ◌||◌, List, [], ◌∷◌, Option, None, Some, Result, Ok}
use Rattle.std.specs.Int.{w32, to_le_bytes}
use Rattle.cluster_tree.specs.PathValue.{PathValue}
use Rattle.cluster_tree.specs.Contents.{Contents}
use Rattle.cluster_tree.specs.Causes.{given}
use Rattle.cluster_tree.specs.declared.file_fault.FileFault.{FileFault}
use Rattle.wal_records.specs.Reading.{LogRecord}
use Rattle.block_refs.specs.Bytes.{main_bytes}
use Rattle.block_refs.specs.Parts.{PartsView}
use Rattle.record_layouts.specs.MultiXact.{multixact_create_of}
use Rattle.record_layouts.specs.declared.kinds.Member.{Member}
use Rattle.record_layouts.specs.declared.multixact.MultiXactCreate.{MultiXactCreate}
use Rattle.slru_replay.specs.Area.{page_laid, is_of_area}
use Rattle.slru_replay.specs.declared.area.Area.TheVariants.{Offsets, Members}

-- the offset of a multixact's first member: a page of offsets has those of 2048 multixacts
abbrev pub offset_set : PathValue → (multi offset : ℕ) → Contents → Result Contents FileFault
offset_set root multi offset c = page_laid root Offsets (multi / 2048) (multi % 2048 * 4) (to_le_bytes w32 offset) c

-- a page of members has 1636, in groups of four: the four's flag bytes, then their transactions
abbrev pub members_page : ℕ → ℕ
members_page offset = offset / 1636

abbrev pub group_at : ℕ → ℕ
group_at offset = offset % 1636 / 4 * 20

abbrev pub flags_at : ℕ → ℕ
flags_at offset = group_at offset + offset % 4

abbrev pub xid_at : ℕ → ℕ
xid_at offset = group_at offset + 4 + offset % 4 * 4

-- the low eight bits of a member's status, and its transaction
abbrev pub flags_set : PathValue → (offset : ℕ) → Member → Contents → Result Contents FileFault
flags_set root offset member c = page_laid root Members (members_page offset) (flags_at offset) (member.status % 256 ∷ []) c

abbrev pub xid_set : PathValue → (offset : ℕ) → Member → Contents → Result Contents FileFault
xid_set root offset member c = page_laid root Members (members_page offset) (xid_at offset) (to_le_bytes w32 member.xid) c

unfoldable pub member_set : PathValue → (offset : ℕ) → Member → Contents → Result Contents FileFault
member_set root offset member c = given (flags_set root offset member c) (xid_set root offset member)

-- members from an offset on, each at the one after that of the member before, going from 2^32 - 1 to 0
unfoldable pub members_set : PathValue → (offset : ℕ) → List Member → Contents → Result Contents FileFault
members_set root offset [] c = Ok c
members_set root offset (member ∷ members) c = given (member_set root offset member c) (members_set root ((offset + 1) % 2 ^ 32) members)

-- what a record that makes a multixact says, if its layout is whole
abbrev pub create_in : LogRecord → PartsView → Option MultiXactCreate
create_in rec parts = multixact_create_of (main_bytes rec.body parts)

-- a multixact's offset, and its members; one whose layout is short changes nothing
unfoldable pub multi_added : PathValue → Option MultiXactCreate → Contents → Result Contents FileFault
multi_added root None c = Ok c
multi_added root (Some create) c = given (offset_set root create.multi create.offset c) (members_set root create.offset create.members)

-- the paths of both areas of multixacts
abbrev pub is_of_multixacts : PathValue → PathValue → Bool
is_of_multixacts root path = is_of_area root Offsets path || is_of_area root Members path
