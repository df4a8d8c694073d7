-- The parts of a commit or an abort: PostgreSQL 16, src/include/access/xact.h; src/backend/access/rmgrdesc/xactdesc.c,
-- ParseCommitRecord and ParseAbortRecord.
use Rattle.std.specs.Prelude.{ℕ, Bool, true, false, List, [], Option, Some, None, if◌then◌else◌}
use Rattle.block_refs.specs.Bits.{has_bits}
use Rattle.record_layouts.specs.declared.bytes.Read.{Read}
use Rattle.record_layouts.specs.declared.kinds.Message.{Message}
use Rattle.record_layouts.specs.declared.end_parts.DatabaseName.{DatabaseName}
use Rattle.record_layouts.specs.declared.end_parts.Origin.{Origin}
use Rattle.record_layouts.specs.declared.end_parts.Outcome.{Outcome}
use Rattle.record_layouts.specs.declared.end_parts.Outcome.TheVariants.{Commit, Abort}
use Rattle.record_layouts.specs.declared.end_parts.Prepared.{Prepared}
use Rattle.record_layouts.specs.Fields.{given, long, signed, text, word}
use Rattle.record_layouts.specs.Items.{item_list, message}

-- a part that is there where xinfo has its bit
abbrev pub part : {A : Type 0} → ℕ → ℕ → A → Option (Read A) → List ℕ → Option (Read A)
part xinfo bit none read bytes = if has_bits xinfo bit then read else Some record { value = none; rest = bytes }

abbrev pub list_part : {A : Type 0} → ℕ → ℕ → ℕ → (ℕ → List ℕ → A) → List ℕ → Option (Read (List A))
list_part xinfo bit size item bytes = part xinfo bit [] (item_list size item bytes) bytes

-- xl_xact_xinfo, where the operation says that it is there
abbrev pub xinfo_part : Bool → List ℕ → Option (Read ℕ)
xinfo_part true bytes = word bytes
xinfo_part false bytes = Some record { value = 0; rest = bytes }

-- xl_xact_dbinfo: a database and its tablespace
unfoldable pub database : List ℕ → Option (Read (Option DatabaseName))
database bytes =
    given (word bytes) (λ database rest.
    given (word rest) (λ space rest.
    Some record { value = Some record { database = database; space = space }; rest = rest }))

-- xl_xact_invals, XACT_XINFO_HAS_INVALS: of a commit alone
abbrev pub messages_part : Outcome → ℕ → List ℕ → Option (Read (List Message))
messages_part Commit xinfo bytes = list_part xinfo 0x08 16 message bytes
messages_part Abort xinfo bytes = Some record { value = []; rest = bytes }

-- the name of a prepared transaction, XACT_XINFO_HAS_GID
unfoldable pub gid_part : ℕ → List ℕ → Option (Read (Option (List ℕ)))
gid_part xinfo bytes =
    if has_bits xinfo 0x80 then given (text bytes) (λ gid rest. Some record { value = Some gid; rest = rest })
    else Some record { value = None; rest = bytes }

-- xl_xact_twophase, and the name behind it
unfoldable pub prepared : ℕ → List ℕ → Option (Read (Option Prepared))
prepared xinfo bytes =
    given (word bytes) (λ xid rest.
    given (gid_part xinfo rest) (λ gid rest.
    Some record { value = Some record { xid = xid; gid = gid }; rest = rest }))

-- xl_xact_origin: a position of the log, and a time
unfoldable pub origin : List ℕ → Option (Read (Option Origin))
origin bytes =
    given (long bytes) (λ lsn rest.
    given (signed rest) (λ time rest.
    Some record { value = Some record { lsn = record { 0 = lsn }; time = time }; rest = rest }))
