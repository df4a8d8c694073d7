-- Index tuples with a list of tids: PostgreSQL 16, src/include/access/itup.h, IndexTupleData; src/include/access/nbtree.h,
-- BTreeTupleIsPosting and its kin; src/include/storage/itemptr.h, ItemPointerData. A tuple is its item's bytes, a tid is six.
use Rattle.std.specs.Prelude.{ℕ, ◌≡◌, ◌≤◌, ◌+◌, ◌*◌, ◌%◌, ◌==◌, ◌&&◌, List, [], ◌∷◌, Bool, length, take, nat_le, nat_lt, if◌then◌else◌}
use Rattle.block_layouts.specs.Row.{row_of}
use Rattle.page_layout.specs.Bytes.{u16_at, cut}
use Rattle.redo_steps.specs.Bits.{has_bit}

-- t_tid: the block, its high half first, and the offset; then t_info
abbrev pub tid_block : List ℕ → ℕ
tid_block t = 65536 * u16_at t 0 + u16_at t 2

abbrev pub tid_offset : List ℕ → ℕ
tid_offset t = u16_at t 4

abbrev pub t_info : List ℕ → ℕ
t_info t = u16_at t 6

-- a posting tuple: t_info has INDEX_ALT_TID_MASK, 2000, and the offset BT_IS_POSTING, 2000 (BTreeTupleIsPosting)
abbrev pub is_posting_tuple : List ℕ → Bool
is_posting_tuple t = nat_le 8 (length t) && has_bit 0x2000 (t_info t) && has_bit 0x2000 (tid_offset t)

-- how many tids its list has (BTreeTupleGetNPosting, BT_OFFSET_MASK is 0FFF), and where it begins (BTreeTupleGetPostingOffset)
abbrev pub tid_count : List ℕ → ℕ
tid_count t = tid_offset t % 0x1000

abbrev pub list_at : List ℕ → ℕ
list_at t = tid_block t

-- a posting tuple whose list has two tids at least, and lies in the tuple behind a key of whole multiples of 8 (MAXALIGN)
abbrev pub list_stands : List ℕ → Bool
list_stands t =
    is_posting_tuple t && nat_le 2 (tid_count t) && nat_le 8 (list_at t) && list_at t % 8 == 0
    && nat_le (list_at t + 6 * tid_count t) (length t)

-- the same as facts
pub record HasList (t : List ℕ) : Type 0 where
  pub header : 8 ≤ length t
  pub some : 2 ≤ tid_count t
  pub key : 8 ≤ list_at t
  pub by8 : list_at t % 8 ≡ 0
  pub within : list_at t + 6 * tid_count t ≤ length t

-- the tid at an offset, and the offset behind it
abbrev pub tid_at : List ℕ → ℕ → List ℕ
tid_at t at = cut t at 6

abbrev pub tid_behind : List ℕ → ℕ → ℕ
tid_behind t at = at + 6

-- so many tids, the first at an offset
abbrev pub tids_from : ℕ → List ℕ → ℕ → List (List ℕ)
tids_from count t at = row_of tid_at tid_behind count t at

-- the tids of a tuple: those of its list, or its own; none where the list doesn't stand, or there is no header of eight bytes
abbrev pub tids_of : List ℕ → List (List ℕ)
tids_of t =
    if list_stands t then tids_from (tid_count t) t (list_at t)
    else if is_posting_tuple t then []
    else if nat_le 8 (length t) then tid_at t 0 ∷ []
    else []

abbrev pub has_tids : List ℕ → Bool
has_tids t = nat_lt 0 (length (tids_of t))

-- the key: a posting tuple's bytes before its list, else the whole tuple
abbrev pub key_of : List ℕ → List ℕ
key_of t = if is_posting_tuple t then take (list_at t) t else t

-- a key that can get a list behind it: its header, and whole multiples of 8
abbrev pub is_key : List ℕ → Bool
is_key key = nat_le 8 (length key) && length key % 8 == 0
