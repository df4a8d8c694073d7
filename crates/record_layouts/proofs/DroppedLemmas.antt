-- The dropped relations of an end that is whole are those that are read off a cut one.
use Rattle.std.proofs.Common.{◌≡◌, ℕ, Bool, true, false, cond, List, [], Option, Some, None, ap, ◌∙◌}
use Rattle.std.specs.Prelude.{ℤ}
use Rattle.layout.specs.Readers.{u32_at}
use Rattle.block_refs.specs.Bits.{has_bits}
use Rattle.block_refs.specs.declared.names.RelName.{RelName}
use Rattle.record_layouts.specs.declared.bytes.Read.{Read}
use Rattle.record_layouts.specs.declared.end.TransactionEnd.{TransactionEnd}
use Rattle.record_layouts.specs.declared.end_parts.DatabaseName.{DatabaseName}
use Rattle.record_layouts.specs.declared.end_parts.Origin.{Origin}
use Rattle.record_layouts.specs.declared.end_parts.Outcome.{Outcome}
use Rattle.record_layouts.specs.declared.end_parts.Prepared.{Prepared}
use Rattle.record_layouts.specs.declared.kinds.Message.{Message}
use Rattle.record_layouts.specs.declared.kinds.StatsItem.{StatsItem}
use Rattle.record_layouts.specs.Fields.{given, given_or, relation, signed}
use Rattle.record_layouts.specs.Items.{item_list, item_prefix, stats_item}
use Rattle.record_layouts.specs.EndParts.{database, messages_part, origin, part, prepared, xinfo_part}
use Rattle.record_layouts.specs.End.{end_of, before_dropped, relations_behind, dropped_prefix_of}
use Rattle.record_layouts.proofs.PrefixLemmas.{all_there, given_some, twelve}

-- what was read up to the dropped relations
record Front : Type 0 where
  time : ℤ
  xinfo : ℕ
  database : Option DatabaseName
  subxacts : List ℕ

-- an end of these parts
abbrev end_with : Front → List RelName → List StatsItem → List Message → Option Prepared → Option Origin → TransactionEnd
end_with front dropped stats messages prepared origin = record {
  time = front.time;
  xinfo = front.xinfo;
  database = front.database;
  subxacts = front.subxacts;
  dropped = dropped;
  stats = stats;
  messages = messages;
  prepared = prepared;
  origin = origin;
}

-- the rest of the reading, from the last part to that of the dropped relations
abbrev from_origin : Front → List RelName → List StatsItem → List Message → Option Prepared → List ℕ → Option TransactionEnd
from_origin front dropped stats messages before rest =
    given (part front.xinfo 0x20 None (origin rest) rest) (λ origin rest. Some (end_with front dropped stats messages before origin))

abbrev from_prepared : Front → List RelName → List StatsItem → List Message → List ℕ → Option TransactionEnd
from_prepared front dropped stats messages rest =
    given (part front.xinfo 0x10 None (prepared front.xinfo rest) rest) (from_origin front dropped stats messages)

abbrev from_messages : Outcome → Front → List RelName → List StatsItem → List ℕ → Option TransactionEnd
from_messages outcome front dropped stats rest = given (messages_part outcome front.xinfo rest) (from_prepared front dropped stats)

abbrev from_stats : Outcome → Front → List RelName → List ℕ → Option TransactionEnd
from_stats outcome front dropped rest = given (part front.xinfo 0x100 [] (item_list 12 stats_item rest) rest) (from_messages outcome front dropped)

abbrev from_dropped : Outcome → Front → List ℕ → Option TransactionEnd
from_dropped outcome front rest = given (part front.xinfo 0x04 [] (item_list 12 relation rest) rest) (from_stats outcome front)

-- the dropped relations stay what they are
dropped_is : (front : Front) (dropped : List RelName) (stats : List StatsItem) (messages : List Message) (before : Option Prepared) (origin : Option Origin) (end : TransactionEnd)
    → Some (end_with front dropped stats messages before origin) ≡ Some end → dropped ≡ end.dropped
dropped_is front dropped stats messages before origin end e = ap (λ (x : TransactionEnd). x.dropped) (same (end_with front dropped stats messages before origin) end e)
  where
    same : (x y : TransactionEnd) → Some x ≡ Some y → x ≡ y
    same x y e = cc

origin_kept : (front : Front) (dropped : List RelName) (stats : List StatsItem) (messages : List Message) (before : Option Prepared) (rest : List ℕ) (end : TransactionEnd)
    → from_origin front dropped stats messages before rest ≡ Some end → dropped ≡ end.dropped
origin_kept front dropped stats messages before rest end e =
    let g = given_some (part front.xinfo 0x20 None (origin rest) rest) (λ (o : Option Origin) (r : List ℕ). Some (end_with front dropped stats messages before o)) end e in
    dropped_is front dropped stats messages before g.read.value end g.next

prepared_kept : (front : Front) (dropped : List RelName) (stats : List StatsItem) (messages : List Message) (rest : List ℕ) (end : TransactionEnd)
    → from_prepared front dropped stats messages rest ≡ Some end → dropped ≡ end.dropped
prepared_kept front dropped stats messages rest end e =
    let g = given_some (part front.xinfo 0x10 None (prepared front.xinfo rest) rest) (from_origin front dropped stats messages) end e in
    origin_kept front dropped stats messages g.read.value g.read.rest end g.next

messages_kept : (outcome : Outcome) (front : Front) (dropped : List RelName) (stats : List StatsItem) (rest : List ℕ) (end : TransactionEnd)
    → from_messages outcome front dropped stats rest ≡ Some end → dropped ≡ end.dropped
messages_kept outcome front dropped stats rest end e =
    let g = given_some (messages_part outcome front.xinfo rest) (from_prepared front dropped stats) end e in
    prepared_kept front dropped stats g.read.value g.read.rest end g.next

stats_kept : (outcome : Outcome) (front : Front) (dropped : List RelName) (rest : List ℕ) (end : TransactionEnd) → from_stats outcome front dropped rest ≡ Some end → dropped ≡ end.dropped
stats_kept outcome front dropped rest end e =
    let g = given_some (part front.xinfo 0x100 [] (item_list 12 stats_item rest) rest) (from_messages outcome front dropped) end e in
    messages_kept outcome front dropped g.read.value g.read.rest end g.next

-- what stands there of the relations is all of them
relations_are : (xinfo : ℕ) (rest : List ℕ) (dropped : Read (List RelName)) → part xinfo 0x04 [] (item_list 12 relation rest) rest ≡ Some dropped → relations_behind xinfo rest ≡ dropped.value
relations_are xinfo rest dropped e = by (has_bits xinfo 0x04) e
  where
    by : (b : Bool) → cond b (item_list 12 relation rest) (Some record { value = []; rest = rest }) ≡ Some dropped → cond b (item_prefix 12 relation rest) [] ≡ dropped.value
    by true e = all_there 12 relation rest dropped twelve e
    by false e = let same : record { value = []; rest = rest } ≡ dropped = cc in ap (λ (r : Read (List RelName)). r.value) same

dropped_told : (outcome : Outcome) (front : Front) (rest : List ℕ) (end : TransactionEnd) → from_dropped outcome front rest ≡ Some end → relations_behind front.xinfo rest ≡ end.dropped
dropped_told outcome front rest end e =
    let g = given_some (part front.xinfo 0x04 [] (item_list 12 relation rest) rest) (from_stats outcome front) end e in
    relations_are front.xinfo rest g.read g.is ∙ stats_kept outcome front g.read.value g.read.rest end g.next

-- ---- the parts before them

abbrev from_subxacts : Outcome → ℤ → ℕ → Option DatabaseName → List ℕ → Option TransactionEnd
from_subxacts outcome time xinfo db rest = given (part xinfo 0x02 [] (item_list 4 u32_at rest) rest) (λ subxacts rest. from_dropped outcome record { time = time; xinfo = xinfo; database = db; subxacts = subxacts } rest)

-- the flags and what stands behind the subtransactions
abbrev past : ℕ → List ℕ → Option (Read ℕ)
past xinfo rest = given (part xinfo 0x02 [] (item_list 4 u32_at rest) rest) (λ subxacts rest. Some record { value = xinfo; rest = rest })

subxacts_told : (outcome : Outcome) (time : ℤ) (xinfo : ℕ) (db : Option DatabaseName) (rest : List ℕ) (end : TransactionEnd) → from_subxacts outcome time xinfo db rest ≡ Some end
    → given_or [] (past xinfo rest) relations_behind ≡ end.dropped
subxacts_told outcome time xinfo db rest end e =
    by (part xinfo 0x02 [] (item_list 4 u32_at rest) rest) e
  where
    by : (o : Option (Read (List ℕ))) → given o (λ subxacts rest. from_dropped outcome record { time = time; xinfo = xinfo; database = db; subxacts = subxacts } rest) ≡ Some end
        → given_or [] (given o (λ subxacts rest. Some record { value = xinfo; rest = rest })) relations_behind ≡ end.dropped
    by None e = absurd cc
    by (Some read) e = dropped_told outcome record { time = time; xinfo = xinfo; database = db; subxacts = read.value } read.rest end e

database_told : (outcome : Outcome) (time : ℤ) (xinfo : ℕ) (rest : List ℕ) (end : TransactionEnd)
    → given (part xinfo 0x01 None (database rest) rest) (from_subxacts outcome time xinfo) ≡ Some end
    → given_or [] (given (part xinfo 0x01 None (database rest) rest) (λ db rest. past xinfo rest)) relations_behind ≡ end.dropped
database_told outcome time xinfo rest end e = by (part xinfo 0x01 None (database rest) rest) e
  where
    by : (o : Option (Read (Option DatabaseName))) → given o (from_subxacts outcome time xinfo) ≡ Some end → given_or [] (given o (λ db rest. past xinfo rest)) relations_behind ≡ end.dropped
    by None e = absurd cc
    by (Some read) e = subxacts_told outcome time xinfo read.value read.rest end e

-- from the flags on
abbrev from_database : Outcome → ℤ → ℕ → List ℕ → Option TransactionEnd
from_database outcome time xinfo rest = given (part xinfo 0x01 None (database rest) rest) (from_subxacts outcome time xinfo)

abbrev past_database : ℕ → List ℕ → Option (Read ℕ)
past_database xinfo rest = given (part xinfo 0x01 None (database rest) rest) (λ db rest. past xinfo rest)

xinfo_told : (outcome : Outcome) (has_xinfo : Bool) (time : ℤ) (rest : List ℕ) (end : TransactionEnd) → given (xinfo_part has_xinfo rest) (from_database outcome time) ≡ Some end
    → given_or [] (given (xinfo_part has_xinfo rest) past_database) relations_behind ≡ end.dropped
xinfo_told outcome has_xinfo time rest end e = by (xinfo_part has_xinfo rest) e
  where
    by : (o : Option (Read ℕ)) → given o (from_database outcome time) ≡ Some end → given_or [] (given o past_database) relations_behind ≡ end.dropped
    by None e = absurd cc
    by (Some read) e = database_told outcome time read.value read.rest end e

time_told : (outcome : Outcome) (has_xinfo : Bool) (bytes : List ℕ) (end : TransactionEnd)
    → given (signed bytes) (λ time rest. given (xinfo_part has_xinfo rest) (from_database outcome time)) ≡ Some end
    → given_or [] (given (signed bytes) (λ time rest. given (xinfo_part has_xinfo rest) past_database)) relations_behind ≡ end.dropped
time_told outcome has_xinfo bytes end e = by (signed bytes) e
  where
    by : (o : Option (Read ℤ)) → given o (λ time rest. given (xinfo_part has_xinfo rest) (from_database outcome time)) ≡ Some end
        → given_or [] (given o (λ time rest. given (xinfo_part has_xinfo rest) past_database)) relations_behind ≡ end.dropped
    by None e = absurd cc
    by (Some read) e = xinfo_told outcome has_xinfo read.value read.rest end e

pub ends : (outcome : Outcome) (has_xinfo : Bool) (bytes : List ℕ) (end : TransactionEnd) → end_of outcome has_xinfo bytes ≡ Some end → dropped_prefix_of has_xinfo bytes ≡ end.dropped
unfolding end_of dropped_prefix_of before_dropped
ends outcome has_xinfo bytes end e = time_told outcome has_xinfo bytes end e
