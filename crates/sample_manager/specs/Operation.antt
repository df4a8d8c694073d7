-- The operations of the sample's manager, by the high four bits of `info`: a format of this project, like that of PostgreSQL 16,
-- src/test/modules/test_custom_rmgrs.
use Rattle.std.specs.Prelude.{ℕ, ◌==◌, Bool, true, false, bit_and, if◌then◌else◌}
use Rattle.sample_manager.specs.declared.operation.SampleOp.{SampleOp}
use Rattle.sample_manager.specs.declared.operation.SampleOp.TheVariants.{Init, Update, Unlisted}

-- the operation of a number
abbrev pub sample_op_numbered : ℕ → SampleOp
sample_op_numbered number =
    if number == 0x00 then Init
    else if number == 0x10 then Update
    else Unlisted

-- the operation of `info`, without its low four bits
unfoldable pub sample_op_of : ℕ → SampleOp
sample_op_of info = sample_op_numbered (bit_and info 0xF0)

-- it is one of the manager's
abbrev pub is_listed : SampleOp → Bool
is_listed Init = true
is_listed Update = true
is_listed Unlisted = false

-- it makes its page anew
abbrev pub is_init : SampleOp → Bool
is_init Init = true
is_init Update = false
is_init Unlisted = false
