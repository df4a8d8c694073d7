-- A commit or an abort as a server writes it: PostgreSQL 16, src/backend/access/transam/xact.c, XactLogCommitRecord and
-- XactLogAbortRecord.
use Rattle.std.specs.Prelude.{◌≡◌, ℕ, ◌<◌, ◌^◌, false, List, [], ◌∷◌, ◌++◌, length, Option, Some, None, is_some, if◌then◌else◌}
use Rattle.std.specs.List.{AllByRecursion, flat_map, list_any}
use Rattle.layout.specs.declared.value.Value.TheVariants.{Word, Long, Signed}
use Rattle.layout.specs.Values.{ValueFits}
use Rattle.layout.specs.Writing.{value_bytes}
use Rattle.block_refs.specs.Bits.{has_bits}
use Rattle.block_refs.specs.declared.names.RelName.{RelName}
use Rattle.record_layouts.specs.declared.end.TransactionEnd.{TransactionEnd}
use Rattle.record_layouts.specs.declared.end_parts.DatabaseName.{DatabaseName}
use Rattle.record_layouts.specs.declared.end_parts.Origin.{Origin}
use Rattle.record_layouts.specs.declared.end_parts.Outcome.{Outcome}
use Rattle.record_layouts.specs.declared.end_parts.Outcome.TheVariants.{Commit, Abort}
use Rattle.record_layouts.specs.declared.end_parts.Prepared.{Prepared}
use Rattle.record_layouts.specs.declared.kinds.Message.{Message}
use Rattle.record_layouts.specs.declared.kinds.StatsItem.{StatsItem}
use Rattle.record_layouts.specs.Fields.{is_zero}

-- numbers of four bytes, and what is made of them
abbrev pub word_bytes : ℕ → List ℕ
word_bytes n = value_bytes (Word n)

abbrev pub rel_bytes : RelName → List ℕ
rel_bytes rel = word_bytes rel.space ++ (word_bytes rel.database ++ word_bytes rel.relation)

abbrev pub stats_bytes : StatsItem → List ℕ
stats_bytes item = word_bytes item.kind ++ (word_bytes item.database ++ word_bytes item.object)

-- a list: how many items, and then these
abbrev pub list_bytes : {A : Type 0} → (A → List ℕ) → List A → List ℕ
list_bytes bytes_of xs = word_bytes (length xs) ++ flat_map bytes_of xs

-- the same where the flags say that there is one
abbrev pub listed : {A : Type 0} → ℕ → ℕ → (A → List ℕ) → List A → List ℕ
listed xinfo bit bytes_of xs = if has_bits xinfo bit then list_bytes bytes_of xs else []

-- a part that may be missing
abbrev pub if_there : {A : Type 0} → (A → List ℕ) → Option A → List ℕ
if_there bytes_of None = []
if_there bytes_of (Some part) = bytes_of part

abbrev pub database_bytes : DatabaseName → List ℕ
database_bytes name = word_bytes name.database ++ word_bytes name.space

abbrev pub gid_bytes : List ℕ → List ℕ
gid_bytes gid = gid ++ (0 ∷ [])

abbrev pub prepared_bytes : Prepared → List ℕ
prepared_bytes prepared = word_bytes prepared.xid ++ if_there gid_bytes prepared.gid

abbrev pub origin_bytes : Origin → List ℕ
origin_bytes origin = value_bytes (Long origin.lsn.0) ++ value_bytes (Signed origin.time)

-- the flags by which messages are there: an abort has none
abbrev pub message_flags : Outcome → ℕ → ℕ
message_flags Commit xinfo = xinfo
message_flags Abort xinfo = 0

-- a commit or an abort with flags, and then other bytes
abbrev pub end_then : Outcome → TransactionEnd → List ℕ → List ℕ
end_then outcome end rest =
    value_bytes (Signed end.time) ++ (word_bytes end.xinfo ++ (if_there database_bytes end.database
    ++ (listed end.xinfo 0x02 word_bytes end.subxacts ++ (listed end.xinfo 0x04 rel_bytes end.dropped
    ++ (listed end.xinfo 0x100 stats_bytes end.stats ++ (listed (message_flags outcome end.xinfo) 0x08 (λ (m : Message). m.bytes) end.messages
    ++ (if_there prepared_bytes end.prepared ++ (if_there origin_bytes end.origin ++ rest))))))))

-- what a server can write: each number has so many bytes
abbrev pub IsWord : ℕ → Type 0
IsWord n = ValueFits (Word n)

abbrev pub IsRel : RelName → Type 0
IsRel rel = IsWord rel.space × IsWord rel.database × IsWord rel.relation

abbrev pub IsStats : StatsItem → Type 0
IsStats item = IsWord item.kind × IsWord item.database × IsWord item.object

abbrev pub IsMessage : Message → Type 0
IsMessage message = length message.bytes ≡ 16

-- a list that the flags announce, or that has no items
pub record IsListed {A : Type 0} (xinfo bit : ℕ) (IsItem : A → Type 0) (xs : List A) : Type 0 where
  pub few : length xs < 2 ^ 31
  pub each : AllByRecursion IsItem xs
  pub none : has_bits xinfo bit ≡ false → xs ≡ []

-- a part that is there exactly where the flags announce it
abbrev pub OfSome : {A : Type 0} → (A → Type 0) → Option A → Type 0
OfSome IsPart None = Unit {0}
OfSome IsPart (Some part) = IsPart part

pub record IsThere {A : Type 0} (xinfo bit : ℕ) (IsPart : A → Type 0) (part : Option A) : Type 0 where
  pub flag : has_bits xinfo bit ≡ is_some part
  pub it : OfSome IsPart part

abbrev pub IsDatabase : DatabaseName → Type 0
IsDatabase name = IsWord name.database × IsWord name.space

-- a name without a zero
abbrev pub IsGid : List ℕ → Type 0
IsGid gid = list_any is_zero gid ≡ false

abbrev pub IsPrepared : ℕ → Prepared → Type 0
IsPrepared xinfo prepared = IsWord prepared.xid × IsThere xinfo 0x80 IsGid prepared.gid

abbrev pub IsOrigin : Origin → Type 0
IsOrigin origin = ValueFits (Long origin.lsn.0) × ValueFits (Signed origin.time)

-- an end that a server can write
pub record IsEnd (outcome : Outcome) (end : TransactionEnd) : Type 0 where
  pub time : ValueFits (Signed end.time)
  pub xinfo : IsWord end.xinfo
  pub database : IsThere end.xinfo 0x01 IsDatabase end.database
  pub subxacts : IsListed end.xinfo 0x02 IsWord end.subxacts
  pub dropped : IsListed end.xinfo 0x04 IsRel end.dropped
  pub stats : IsListed end.xinfo 0x100 IsStats end.stats
  pub messages : IsListed (message_flags outcome end.xinfo) 0x08 IsMessage end.messages
  pub prepared : IsThere end.xinfo 0x10 (IsPrepared end.xinfo) end.prepared
  pub origin : IsThere end.xinfo 0x20 IsOrigin end.origin
