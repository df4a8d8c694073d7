-- A commit or an abort: PostgreSQL 16, src/backend/access/rmgrdesc/xactdesc.c, ParseCommitRecord and ParseAbortRecord.
use Rattle.std.specs.Prelude.{ℕ, Bool, List, [], Option, Some, None, if◌then◌else◌}
use Rattle.layout.specs.Readers.{u32_at}
use Rattle.block_refs.specs.Bits.{has_bits}
use Rattle.block_refs.specs.declared.names.RelName.{RelName}
use Rattle.record_layouts.specs.declared.bytes.Read.{Read}
use Rattle.record_layouts.specs.declared.end.TransactionEnd.{TransactionEnd}
use Rattle.record_layouts.specs.declared.end_parts.Outcome.{Outcome}
use Rattle.record_layouts.specs.Fields.{given, given_or, relation, signed}
use Rattle.record_layouts.specs.Items.{item_list, item_prefix, stats_item}
use Rattle.record_layouts.specs.EndParts.{database, messages_part, origin, part, prepared, xinfo_part}

-- a time, the flags xinfo, and then each part whose bit is set, in this order
unfoldable pub end_of : Outcome → Bool → List ℕ → Option TransactionEnd
end_of outcome has_xinfo bytes =
    given (signed bytes) (λ time rest.
    given (xinfo_part has_xinfo rest) (λ xinfo rest.
    given (part xinfo 0x01 None (database rest) rest) (λ database rest.
    given (part xinfo 0x02 [] (item_list 4 u32_at rest) rest) (λ subxacts rest.
    given (part xinfo 0x04 [] (item_list 12 relation rest) rest) (λ dropped rest.
    given (part xinfo 0x100 [] (item_list 12 stats_item rest) rest) (λ stats rest.
    given (messages_part outcome xinfo rest) (λ messages rest.
    given (part xinfo 0x10 None (prepared xinfo rest) rest) (λ prepared rest.
    given (part xinfo 0x20 None (origin rest) rest) (λ origin rest.
    Some record {
      time = time;
      xinfo = xinfo;
      database = database;
      subxacts = subxacts;
      dropped = dropped;
      stats = stats;
      messages = messages;
      prepared = prepared;
      origin = origin;
    })))))))))

-- the flags, and the bytes from the dropped relations on
unfoldable pub before_dropped : Bool → List ℕ → Option (Read ℕ)
before_dropped has_xinfo bytes =
    given (signed bytes) (λ time rest.
    given (xinfo_part has_xinfo rest) (λ xinfo rest.
    given (part xinfo 0x01 None (database rest) rest) (λ database rest.
    given (part xinfo 0x02 [] (item_list 4 u32_at rest) rest) (λ subxacts rest.
    Some record { value = xinfo; rest = rest }))))

-- those that are there
abbrev pub relations_behind : ℕ → List ℕ → List RelName
relations_behind xinfo bytes = if has_bits xinfo 0x04 then item_prefix 12 relation bytes else []

-- the dropped relations of a layout that need not be whole, as many as are there
unfoldable pub dropped_prefix_of : Bool → List ℕ → List RelName
dropped_prefix_of has_xinfo bytes = given_or [] (before_dropped has_xinfo bytes) relations_behind
