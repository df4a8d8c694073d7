-- The manager RelMap: PostgreSQL 16, src/include/utils/relmapper.h.
use Rattle.std.specs.Prelude.{ℕ, List, ◌==◌, bit_and, if◌then◌else◌, Option, Some, Bool, true, is_some}
use Rattle.record_layouts.specs.Fields.{given, word, counted_bytes}
use Rattle.record_layouts.specs.declared.relmap.RelMapUpdate.{RelMapUpdate}
use Rattle.record_layouts.specs.declared.relmap.RelMapOp.{RelMapOp}
use Rattle.record_layouts.specs.declared.relmap.RelMapOp.TheVariants as op

-- the operation of a number
abbrev pub relmap_op_numbered : ℕ → RelMapOp
relmap_op_numbered number =
    if number == 0x00 then op.Update
    else op.Unlisted number

-- the operation of `info`, without its low four bits
unfoldable pub relmap_op_of : ℕ → RelMapOp
relmap_op_of info = relmap_op_numbered (bit_and info 0xF0)

-- the number of an operation
abbrev pub relmap_number : RelMapOp → ℕ
relmap_number op.Update = 0x00
relmap_number (op.Unlisted number) = number

-- UPDATE: xl_relmap_update, a database, its tablespace, and the bytes of the map
abbrev pub relmap_update_of : List ℕ → Option RelMapUpdate
relmap_update_of bytes =
    given (word bytes) (λ database rest.
    given (word rest) (λ space rest.
    given (counted_bytes rest) (λ map rest.
    Some record { database = database; space = space; map = map })))

-- the main bytes hold the whole layout of an operation
abbrev pub relmap_is_whole : RelMapOp → List ℕ → Bool
relmap_is_whole op.Update main = is_some (relmap_update_of main)
relmap_is_whole (op.Unlisted number) main = true
