-- Index tuples that get other tids: PostgreSQL 16, src/backend/access/nbtree/nbtdedup.c, _bt_form_posting, _bt_swap_posting and
-- _bt_update_posting; src/include/access/nbtree.h, BTreeTupleSetPosting, BTreeTupleGetMaxHeapTID.
use Rattle.std.specs.Prelude.{ℕ, ◌+◌, ◌-◌, ◌*◌, ◌/◌, ◌==◌, ◌&&◌, List, [], ◌∷◌, ◌++◌, Bool, true, length, take, drop, replicate, nat_le, nat_lt, if◌then◌else◌}
use Rattle.std.specs.List.{concat, list_any}
use Rattle.layout.specs.Splice.{splice}
use Rattle.page_layout.specs.Bytes.{u16_bytes, up8}
use Rattle.page_masks.specs.Mask.{tid_bytes}
use Rattle.btree_posting.specs.Tuple.{t_info, tid_count, list_at, list_stands, tid_at, tids_of, key_of}

-- a tid, and t_info of 2000 or 0 (INDEX_ALT_TID_MASK) and a size, over those of a tuple; its two higher flags stay
abbrev pub with_header : List ℕ → ℕ → ℕ → List ℕ → List ℕ
with_header tid alt size t = splice t 0 (tid ++ u16_bytes (t_info t / 0x4000 * 0x4000 + alt + size))

-- a key with one tid, which is its own
abbrev pub with_own : List ℕ → List ℕ → List ℕ
with_own key tid = with_header tid 0 (length key) key

-- a key with a list behind it, and zeros up to the next multiple of 8
abbrev pub padded : List ℕ → List ℕ
padded bytes = bytes ++ replicate (up8 (length bytes) - length bytes) 0

abbrev pub listed : ℕ → ℕ → List ℕ → List ℕ
listed at count t = with_header (tid_bytes at (0x2000 + count)) 0x2000 (length t) t

abbrev pub with_list : List ℕ → List (List ℕ) → List ℕ
with_list key tids = listed (length key) (length tids) (padded (key ++ concat tids))

-- a key with these tids (_bt_form_posting). One that is longer than its size can tell is longer than a page, too.
abbrev pub form : List ℕ → List (List ℕ) → List ℕ
form key (tid ∷ []) = with_own key tid
form key tids = with_list key tids

-- the same of a key's length, and the key with the tids behind it as bytes
abbrev pub form_of : ℕ → List ℕ → List ℕ
form_of at bytes =
    if length bytes == at + 6 then with_own (take at bytes) (drop at bytes)
    else listed at ((length bytes - at) / 6) (padded bytes)

-- can a new tid come to an index of a list: behind the first tid, before the last (_bt_swap_posting)
abbrev pub can_swap : ℕ → List ℕ → Bool
can_swap k old = list_stands old && nat_lt 0 k && nat_lt k (tid_count old)

-- a tid at an index, those from there on moved up by one, and the last one lost
abbrev pub with_tid : ℕ → List ℕ → List (List ℕ) → List (List ℕ)
with_tid k tid tids = take (length tids) (take k tids ++ tid ∷ drop k tids)

-- the posting tuple then, with the new tuple's tid
abbrev pub swapped_posting : ℕ → List ℕ → List ℕ → List ℕ
swapped_posting k new old = splice old (list_at old) (concat (with_tid k (tid_at new 0) (tids_of old)))

-- the last tid of a list (BTreeTupleGetMaxHeapTID), and the new tuple with it
abbrev pub last_tid : List ℕ → List ℕ
last_tid t = tid_at t (list_at t + 6 * (tid_count t - 1))

abbrev pub swapped_new : List ℕ → List ℕ → List ℕ
swapped_new new old = splice new 0 (last_tid old)

-- the indexes rise, and lie in a list of so many tids, from an index on
abbrev pub are_indexes : ℕ → ℕ → List ℕ → Bool
are_indexes from count [] = true
are_indexes from count (index ∷ gone) = nat_le from index && nat_lt index count && are_indexes (index + 1) count gone

-- the tids, the first at an index, without those at these indexes
abbrev pub without_tids : List ℕ → ℕ → List (List ℕ) → List (List ℕ)
without_tids gone index [] = []
without_tids gone index (tid ∷ tids) =
    if list_any (λ i. i == index) gone then without_tids gone (index + 1) tids
    else tid ∷ without_tids gone (index + 1) tids

-- can a posting tuple lose the tids at these indexes: a tid is left
abbrev pub can_shorten : List ℕ → List ℕ → Bool
can_shorten gone t = list_stands t && are_indexes 0 (tid_count t) gone && nat_lt (length gone) (tid_count t)

-- it without them (_bt_update_posting)
abbrev pub shortened : List ℕ → List ℕ → List ℕ
shortened gone t = form (key_of t) (without_tids gone 0 (tids_of t))
