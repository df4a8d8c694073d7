-- The manager Tablespace: PostgreSQL 16, src/include/commands/tablespace.h.
use Rattle.std.specs.Prelude.{ℕ, ◌==◌, bit_and, if◌then◌else◌}
use Rattle.record_layouts.specs.declared.tablespace.TablespaceOp.{TablespaceOp}
use Rattle.record_layouts.specs.declared.tablespace.TablespaceOp.TheVariants as op

-- the operation of a number
abbrev pub tablespace_op_numbered : ℕ → TablespaceOp
tablespace_op_numbered number =
    if number == 0x00 then op.Create
    else if number == 0x10 then op.Drop
    else op.Unlisted number

-- the operation of `info`, without its low four bits
unfoldable pub tablespace_op_of : ℕ → TablespaceOp
tablespace_op_of info = tablespace_op_numbered (bit_and info 0xF0)

-- the number of an operation
abbrev pub tablespace_number : TablespaceOp → ℕ
tablespace_number op.Create = 0x00
tablespace_number op.Drop = 0x10
tablespace_number (op.Unlisted number) = number
