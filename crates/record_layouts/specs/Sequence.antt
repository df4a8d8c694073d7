-- The manager Sequence: PostgreSQL 16, src/include/commands/sequence.h.
use Rattle.std.specs.Prelude.{ℕ, List, ◌==◌, bit_and, if◌then◌else◌, Option, drop, Bool, true, is_some}
use Rattle.layout_readers.specs.Whole.{whole}
use Rattle.record_layouts.specs.Fields.{relation}
use Rattle.record_layouts.specs.declared.sequence.SequenceLog.{SequenceLog}
use Rattle.record_layouts.specs.declared.sequence.SequenceOp.{SequenceOp}
use Rattle.record_layouts.specs.declared.sequence.SequenceOp.TheVariants as op

-- the operation of a number
abbrev pub sequence_op_numbered : ℕ → SequenceOp
sequence_op_numbered number =
    if number == 0x00 then op.Log
    else op.Unlisted number

-- the operation of `info`, without its low four bits
unfoldable pub sequence_op_of : ℕ → SequenceOp
sequence_op_of info = sequence_op_numbered (bit_and info 0xF0)

-- the number of an operation
abbrev pub sequence_number : SequenceOp → ℕ
sequence_number op.Log = 0x00
sequence_number (op.Unlisted number) = number

-- LOG: xl_seq_rec, a relation, and behind it a tuple
abbrev pub sequence_log_of : List ℕ → Option SequenceLog
sequence_log_of bytes = whole 12 bytes record { rel = relation 0 bytes; tuple = drop 12 bytes }

-- the main bytes hold the whole layout of an operation
abbrev pub sequence_is_whole : SequenceOp → List ℕ → Bool
sequence_is_whole op.Log main = is_some (sequence_log_of main)
sequence_is_whole (op.Unlisted number) main = true
