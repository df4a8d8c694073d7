-- Lists in a layout: items of one size, one behind the other.
use Rattle.std.specs.Prelude.{ℕ, ◌+◌, ◌*◌, ◌/◌, Bool, true, false, List, [], length, take, drop, map, min, Option, if◌then◌else◌}
use Rattle.std.specs.List.{range_with_len}
use Rattle.layout.specs.Readers.{u32_at, u16_at}
use Rattle.record_layouts.specs.declared.bytes.Read.{Read}
use Rattle.record_layouts.specs.declared.kinds.Member.{Member}
use Rattle.record_layouts.specs.declared.kinds.Message.{Message}
use Rattle.record_layouts.specs.declared.kinds.StatsItem.{StatsItem}
use Rattle.layout_readers.specs.Whole.{whole}
use Rattle.record_layouts.specs.Fields.{count, given, given_or, taken}

-- so many items from the front of some bytes
abbrev pub items : {A : Type 0} → ℕ → (ℕ → List ℕ → A) → ℕ → List ℕ → List A
items size item n bytes = map (λ i. item (size * i) bytes) (range_with_len 0 n)

-- a list: as many items as the count before them says
abbrev pub item_list : {A : Type 0} → ℕ → (ℕ → List ℕ → A) → List ℕ → Option (Read (List A))
item_list size item bytes = given (count bytes) (λ n rest. taken (size * n) rest (items size item n rest))

-- what is there of a list that need not be whole
abbrev pub item_prefix : {A : Type 0} → ℕ → (ℕ → List ℕ → A) → List ℕ → List A
item_prefix size item bytes =
    given_or [] (count bytes) (λ n rest. items size item (min n (length rest / size)) rest)

-- a member of a multixact: MultiXactMember of src/include/access/multixact.h
abbrev pub member : ℕ → List ℕ → Member
member at bytes = record { xid = u32_at at bytes; status = u32_at (at + 4) bytes }

-- statistics that are dropped: xl_xact_stats_item of src/include/access/xact.h
abbrev pub stats_item : ℕ → List ℕ → StatsItem
stats_item at bytes = record { kind = u32_at at bytes; database = u32_at (at + 4) bytes; object = u32_at (at + 8) bytes }

-- a message: SharedInvalidationMessage of src/include/storage/sinval.h, whose sixteen bytes are not looked into
abbrev pub message : ℕ → List ℕ → Message
message at bytes = record { bytes = take 16 (drop at bytes) }

-- so many places of tuples: 1, 2 and so on, or those that stand there
abbrev pub listed_places : Bool → ℕ → List ℕ → List ℕ
listed_places true n bytes = range_with_len 1 n
listed_places false n bytes = items 2 u16_at n bytes

-- the same where they are there
abbrev pub places_of : Bool → ℕ → List ℕ → Option (List ℕ)
places_of in_turn n bytes = whole (if in_turn then 0 else 2 * n) bytes (listed_places in_turn n bytes)
