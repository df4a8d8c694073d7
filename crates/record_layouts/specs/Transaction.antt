-- The manager Transaction: PostgreSQL 16, src/include/access/xact.h.
use Rattle.std.specs.Prelude.{ℕ, List, ◌==◌, bit_and, if◌then◌else◌, Option, Bool, true, false, is_some}
use Rattle.layout.specs.Readers.{u32_at}
use Rattle.layout_readers.specs.Whole.{whole}
use Rattle.block_refs.specs.Bits.{has_bits}
use Rattle.record_layouts.specs.End.{end_of}
use Rattle.record_layouts.specs.declared.end_parts.Outcome.{Outcome}
use Rattle.record_layouts.specs.declared.end_parts.Outcome.TheVariants.{Commit, Abort}
use Rattle.record_layouts.specs.declared.transaction.TransactionOp.{TransactionOp}
use Rattle.record_layouts.specs.declared.transaction.TransactionOp.TheVariants as op
use Rattle.record_layouts.specs.declared.transaction.Assignment.{Assignment}

-- the operation of a number, and whether its layout has flags for further parts
abbrev pub transaction_op_numbered : Bool → ℕ → TransactionOp
transaction_op_numbered has_xinfo number =
    if number == 0x00 then op.End Commit false has_xinfo
    else if number == 0x10 then op.Prepare
    else if number == 0x20 then op.End Abort false has_xinfo
    else if number == 0x30 then op.End Commit true has_xinfo
    else if number == 0x40 then op.End Abort true has_xinfo
    else if number == 0x50 then op.Assignment
    else if number == 0x60 then op.Invalidation
    else op.Unlisted number

-- the operation of `info`: XLOG_XACT_OPMASK is 70, XLOG_XACT_HAS_INFO is 80
unfoldable pub transaction_op_of : ℕ → TransactionOp
transaction_op_of info = transaction_op_numbered (has_bits info 0x80) (bit_and info 0x70)

-- the number of an operation: COMMIT, ABORT, COMMIT_PREPARED and ABORT_PREPARED are ends
abbrev pub end_number : Outcome → Bool → ℕ
end_number Commit false = 0x00
end_number Abort false = 0x20
end_number Commit true = 0x30
end_number Abort true = 0x40

abbrev pub transaction_number : TransactionOp → ℕ
transaction_number (op.End outcome prepared has_xinfo) = end_number outcome prepared
transaction_number op.Prepare = 0x10
transaction_number op.Assignment = 0x50
transaction_number op.Invalidation = 0x60
transaction_number (op.Unlisted number) = number

-- ASSIGNMENT: xl_xact_assignment, but for the transactions behind it
abbrev pub assignment_of : List ℕ → Option Assignment
assignment_of bytes = whole 4 bytes record {
  top = u32_at 0 bytes;
}

-- the main bytes hold the whole layout of an operation
abbrev pub transaction_is_whole : TransactionOp → List ℕ → Bool
transaction_is_whole (op.End outcome prepared has_xinfo) main = is_some (end_of outcome has_xinfo main)
transaction_is_whole op.Prepare main = true
transaction_is_whole op.Assignment main = is_some (assignment_of main)
transaction_is_whole op.Invalidation main = true
transaction_is_whole (op.Unlisted number) main = true
