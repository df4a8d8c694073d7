-- A page as pg_walcompare and replay compare it: PostgreSQL 16, src/backend/access/heap/heapam.c, heap_mask, and nbtree/nbtxlog.c, btree_mask.
use Rattle.std.specs.Prelude.{ℕ, zero, suc, ◌+◌, ◌-◌, ◌*◌, ◌/◌, ◌%◌, ◌<◌, ◌==◌, ◌&&◌, List, [], ◌∷◌, ◌++◌, Bool, nat_le, nat_lt, length, replicate, Option, Some, None, if◌then◌else◌}
use Rattle.layout.specs.Splice.{splice}
use Rattle.page_layout.specs.Bytes.{byte, u16_at, with_u16, up8, page_of}
use Rattle.page_layout.specs.Page.{pd_lower, pd_upper, count, lp_off, lp_flags, lp_len, item}
use Rattle.page_layout.specs.Edits.{trimmed_count}
use Rattle.page_masks.specs.declared.kind.PageKind.{PageKind}
use Rattle.page_masks.specs.declared.kind.PageKind.TheVariants.{Zero, Heap, Btree, Sequence, Other}
use Rattle.page_masks.specs.Kind.{kind_of}

-- hint bits: all but the low four where the transaction is not frozen, else the two of xmax
abbrev pub masked_infomask : ℕ → ℕ
masked_infomask bits = if bits / 256 % 4 == 3 then bits / 4096 * 4096 + bits % 1024 else bits % 16

-- block and place as the tuple's own address
abbrev pub tid_bytes : ℕ → ℕ → List ℕ
tid_bytes block place =
    block / 65536 % 256 ∷ block / 16777216 ∷ block % 256 ∷ block / 256 % 256 ∷ place % 256 ∷ place / 256 ∷ []

-- a tuple of 23 bytes or more: hint bits, the command id, and an address that marks a speculative insertion
abbrev pub masked_tuple : ℕ → ℕ → List ℕ → List ℕ
masked_tuple block place t =
    with_u16 (splice (if u16_at t 16 == 0xFFFE then splice t 12 (tid_bytes block place) else t) 8 (0 ∷ 0 ∷ 0 ∷ 0 ∷ [])) 20 (masked_infomask (u16_at t 20))

-- what a line's item shows
unfoldable pub masked_item : ℕ → ℕ → ℕ → List ℕ → List ℕ
masked_item block place flags t = if flags == 1 && nat_le 23 (length t) then masked_tuple block place t else t

-- with the zeros up to the next multiple of 8
unfoldable pub masked_held : ℕ → List ℕ → ℕ → List ℕ
masked_held block p k = masked_item block (k + 1) (lp_flags p k) (item p k) ++ replicate (up8 (lp_len p k) - lp_len p k) 0

-- line k holds byte i: its item, its length rounded up to 8
unfoldable pub holds : List ℕ → ℕ → ℕ → Bool
holds p k i = nat_le (lp_off p k) i && nat_lt i (lp_off p k + up8 (lp_len p k))

-- the last of the first n lines that holds byte i
abbrev pub holder : List ℕ → ℕ → ℕ → Option ℕ
holder p zero i = None
holder p (suc n) i = if holds p n i then Some n else holder p n i

-- byte i by the line that holds it, and the old byte where none does
abbrev pub by_holder : ℕ → List ℕ → ℕ → ℕ → Option ℕ → ℕ
by_holder block p old i None = old
by_holder block p old i (Some k) = byte (masked_held block p k) (i - lp_off p k)

-- where the lines end once unused ones at the end are dropped
abbrev pub shown_count : List ℕ → ℕ
shown_count p = trimmed_count p (count p)

abbrev pub shown_lower : List ℕ → ℕ
shown_lower p = 24 + 4 * shown_count p

-- byte i below the items
unfoldable pub masked_front : List ℕ → ℕ → ℕ
masked_front p i =
    if nat_lt i 10 then 0
    else if i == 10 then byte p 10 / 8 * 8
    else if i == 12 then shown_lower p % 256
    else if i == 13 then shown_lower p / 256
    else if nat_le 20 i && nat_lt i 24 then 0
    else if nat_lt i (shown_lower p) then byte p i
    else 0

unfoldable pub heap_byte : ℕ → List ℕ → ℕ → ℕ
heap_byte block p i = if nat_lt i (pd_upper p) then masked_front p i else by_holder block p (byte p i) i (holder p (shown_count p) i)

abbrev pub is_leaf : List ℕ → Bool
is_leaf p = byte p 8188 % 2 == 1

-- byte i of an index page's lines: on a leaf their kinds don't show
abbrev pub shown_line : Bool → ℕ → ℕ → ℕ
shown_line leaf i b = if leaf && i % 4 == 1 then b % 128 else if leaf && i % 4 == 2 then b / 2 * 2 else b

-- an index page's flags without BTP_SPLIT_END and BTP_HAS_GARBAGE
abbrev pub shown_flags : ℕ → ℕ
shown_flags b = b / 128 * 128 + b % 32

unfoldable pub btree_front : List ℕ → ℕ → ℕ
btree_front p i =
    if nat_lt i 10 then 0
    else if i == 10 then byte p 10 / 8 * 8
    else if nat_lt i 20 then byte p i
    else if nat_lt i 24 then 0
    else if nat_lt i (pd_lower p) then shown_line (is_leaf p) i (byte p i)
    else 0

unfoldable pub btree_byte : List ℕ → ℕ → ℕ
btree_byte p i =
    if nat_lt i (pd_upper p) then btree_front p i
    else if i == 8188 then shown_flags (byte p i)
    else if nat_le 8190 i then 0
    else byte p i

unfoldable pub sequence_byte : List ℕ → ℕ → ℕ
sequence_byte p i =
    if nat_lt i 10 then 0
    else if nat_le (pd_lower p) i && nat_lt i (pd_upper p) then 0
    else byte p i

unfoldable pub other_byte : List ℕ → ℕ → ℕ
other_byte p i = if nat_lt i 10 then 0 else byte p i

abbrev pub masked_by : PageKind → ℕ → List ℕ → ℕ → ℕ
masked_by Zero block p i = byte p i
masked_by Heap block p i = heap_byte block p i
masked_by Btree block p i = btree_byte p i
masked_by Sequence block p i = sequence_byte p i
masked_by Other block p i = other_byte p i

abbrev pub masked_byte : ℕ → List ℕ → ℕ → ℕ
masked_byte block p i = masked_by (kind_of p) block p i

unfoldable pub mask : ℕ → List ℕ → List ℕ
mask block p = page_of (masked_byte block p)

-- each number of the list is a byte
abbrev pub AreBytes : List ℕ → Type 0
AreBytes p = (i : ℕ) → byte p i < 256
