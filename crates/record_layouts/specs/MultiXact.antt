-- The manager MultiXact: PostgreSQL 16, src/include/access/multixact.h.
use Rattle.std.specs.Prelude.{ℕ, List, ◌==◌, bit_and, if◌then◌else◌, Option, Some, Bool, true, is_some}
use Rattle.layout.specs.Readers.{u32_at}
use Rattle.layout_readers.specs.Whole.{whole}
use Rattle.record_layouts.specs.Fields.{given, word}
use Rattle.record_layouts.specs.Items.{item_list, member}
use Rattle.record_layouts.specs.declared.multixact.MultiXactCreate.{MultiXactCreate}
use Rattle.record_layouts.specs.declared.multixact.MultiXactOp.{MultiXactOp}
use Rattle.record_layouts.specs.declared.multixact.MultiXactOp.TheVariants as op
use Rattle.record_layouts.specs.declared.multixact.MultiXactZeroPage.{MultiXactZeroPage}
use Rattle.record_layouts.specs.declared.multixact.MultiXactTruncate.{MultiXactTruncate}

-- the operation of a number
abbrev pub multixact_op_numbered : ℕ → MultiXactOp
multixact_op_numbered number =
    if number == 0x00 then op.ZeroOffsetsPage
    else if number == 0x10 then op.ZeroMembersPage
    else if number == 0x20 then op.CreateId
    else if number == 0x30 then op.TruncateId
    else op.Unlisted number

-- the operation of `info`, without its low four bits
unfoldable pub multixact_op_of : ℕ → MultiXactOp
multixact_op_of info = multixact_op_numbered (bit_and info 0xF0)

-- the number of an operation
abbrev pub multixact_number : MultiXactOp → ℕ
multixact_number op.ZeroOffsetsPage = 0x00
multixact_number op.ZeroMembersPage = 0x10
multixact_number op.CreateId = 0x20
multixact_number op.TruncateId = 0x30
multixact_number (op.Unlisted number) = number

-- CREATE_ID: xl_multixact_create, a multixact, the place of its first member, and its members
abbrev pub multixact_create_of : List ℕ → Option MultiXactCreate
multixact_create_of bytes =
    given (word bytes) (λ multi rest.
    given (word rest) (λ offset rest.
    given (item_list 8 member rest) (λ members rest.
    Some record { multi = multi; offset = offset; members = members })))

-- ZERO_OFF_PAGE and ZERO_MEM_PAGE, in src/backend/access/transam/multixact.c
abbrev pub multixact_zero_page_of : List ℕ → Option MultiXactZeroPage
multixact_zero_page_of bytes = whole 4 bytes record {
  page = u32_at 0 bytes;
}

-- TRUNCATE_ID: xl_multixact_truncate
abbrev pub multixact_truncate_of : List ℕ → Option MultiXactTruncate
multixact_truncate_of bytes = whole 20 bytes record {
  database = u32_at 0 bytes;
  first_multi = u32_at 4 bytes;
  end_multi = u32_at 8 bytes;
  first_offset = u32_at 12 bytes;
  end_offset = u32_at 16 bytes;
}

-- the main bytes hold the whole layout of an operation
abbrev pub multixact_is_whole : MultiXactOp → List ℕ → Bool
multixact_is_whole op.ZeroOffsetsPage main = is_some (multixact_zero_page_of main)
multixact_is_whole op.ZeroMembersPage main = is_some (multixact_zero_page_of main)
multixact_is_whole op.CreateId main = is_some (multixact_create_of main)
multixact_is_whole op.TruncateId main = is_some (multixact_truncate_of main)
multixact_is_whole (op.Unlisted number) main = true
