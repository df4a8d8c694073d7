-- The options of pg_resetwal that are no faulty words: PostgreSQL 16 manual, reference page of pg_resetwal. Own: "The numbers of a reset".
use Rattle.std.specs.Prelude.{◌≡◌, ◌^◌, ◌*◌, ◌-◌, ◌==◌, ◌&&◌, ℕ, Bool, true, not, nat_le, nat_lt, Option}
use Rattle.std.specs.Option.{option_map_or}
use Rattle.wal_base.specs.SegSize.{is_seg_size}
use Rattle.reset_numbers.specs.declared.options.ResetOptions.{ResetOptions}

-- what is given, if it is, meets this test
abbrev pub fits : {A : Type 0} → (A → Bool) → Option A → Bool
fits test given = option_map_or test given true

-- each end of the commit timestamps is 0, which leaves it, or no less than 2
abbrev pub are_ends : ℕ × ℕ → Bool
are_ends ends = not (ends.0 == 1) && not (ends.1 == 1)

-- a transaction is a normal one
abbrev pub is_normal : ℕ → Bool
is_normal xid = nat_le 3 xid

-- neither multixact is 0
abbrev pub are_multis : ℕ × ℕ → Bool
are_multis ids = not (ids.0 == 0) && not (ids.1 == 0)

-- an object isn't 0
abbrev pub is_object : ℕ → Bool
is_object oid = not (oid == 0)

-- a place in the members of multixacts isn't 2 ^ 32 - 1
abbrev pub is_member_place : ℕ → Bool
is_member_place offset = nat_lt offset (2 ^ 32 - 1)

-- the second and third eight digits of a segment's name are words
abbrev pub are_digits : ℕ × ℕ × ℕ → Bool
are_digits log = nat_lt log.1 (2 ^ 32) && nat_lt log.2 (2 ^ 32)

-- so many megabytes are the size of a segment: a power of two from 1 to 1024
abbrev pub is_size_mb : ℕ → Bool
is_size_mb mb = is_seg_size (mb * 2 ^ 20)

-- all that is given meets its test
unfoldable pub is_fit : ResetOptions → Bool
is_fit options =
    fits are_ends options.commit_ts && fits is_normal options.xid && fits is_normal options.oldest_xid && fits are_multis options.multi
    && fits is_object options.oid && fits is_member_place options.multi_offset && fits are_digits options.log && fits is_size_mb options.segment_mb

abbrev pub IsFit : ResetOptions → Type 0
IsFit options = is_fit options ≡ true
