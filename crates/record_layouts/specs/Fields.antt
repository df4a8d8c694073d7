-- Fields of main bytes, at an offset or from the front.
use Rattle.std.specs.Prelude.{ℕ, ◌+◌, ◌==◌, ℤ, Bool, List, take, drop, slice_get, Option, Some, None, nat_lt, option_and_then, if◌then◌else◌}
use Rattle.std.specs.Int.{w32, cast_signed}
use Rattle.std.specs.List.{position}
use Rattle.wal_base.specs.declared.lsn.Lsn.{Lsn}
use Rattle.layout.specs.Readers.{u32_at, u64_at, i64_at}
use Rattle.block_refs.specs.declared.names.RelName.{RelName}
use Rattle.block_refs.specs.Header.{relation_at}
use Rattle.layout_readers.specs.Whole.{whole}
use Rattle.record_layouts.specs.declared.bytes.Read.{Read}

-- at an offset: a signed number of four bytes, a position of the log, a relation
unfoldable pub int_at : ℕ → List ℕ → ℤ
int_at at bytes = cast_signed w32 (u32_at at bytes)

abbrev pub lsn_at : ℕ → List ℕ → Lsn
lsn_at at bytes = record { 0 = u64_at at bytes }

abbrev pub relation : ℕ → List ℕ → RelName
relation at bytes = relation_at bytes at

-- what stands at an offset, if all its bytes are there
abbrev pub byte_if : ℕ → List ℕ → Option ℕ
byte_if at bytes = slice_get bytes at

abbrev pub word_if : ℕ → List ℕ → Option ℕ
word_if at bytes = whole (at + 4) bytes (u32_at at bytes)

abbrev pub int_if : ℕ → List ℕ → Option ℤ
int_if at bytes = whole (at + 4) bytes (int_at at bytes)

abbrev pub relation_if : ℕ → List ℕ → Option RelName
relation_if at bytes = whole (at + 12) bytes (relation at bytes)

-- A layout in parts is read from its front, a part at a time: what one reads, and the bytes behind it, go to the next.
abbrev pub given_or : {A B : Type 0} → B → Option (Read A) → (A → List ℕ → B) → B
given_or none None answer = none
given_or none (Some read) answer = answer read.value read.rest

-- where a part is not whole, neither is the layout
abbrev pub given : {A B : Type 0} → Option (Read A) → (A → List ℕ → Option B) → Option B
given None answer = None
given (Some read) answer = answer read.value read.rest

-- a part of so many bytes, where they are there
abbrev pub taken : {A : Type 0} → ℕ → List ℕ → A → Option (Read A)
taken size bytes value = whole size bytes record { value = value; rest = drop size bytes }

-- a number of four bytes, of eight, and a signed one of eight
unfoldable pub word : List ℕ → Option (Read ℕ)
word bytes = taken 4 bytes (u32_at 0 bytes)

unfoldable pub long : List ℕ → Option (Read ℕ)
long bytes = taken 8 bytes (u64_at 0 bytes)

unfoldable pub signed : List ℕ → Option (Read ℤ)
signed bytes = taken 8 bytes (i64_at 0 bytes)

-- how many of something follow: a signed number of four bytes that is not negative
abbrev pub if_not_negative : ℕ → List ℕ → Option (Read ℕ)
if_not_negative n rest = if nat_lt n 0x80000000 then Some record { value = n; rest = rest } else None

unfoldable pub count : List ℕ → Option (Read ℕ)
count bytes = given (word bytes) if_not_negative

-- as many bytes as the count before them says
unfoldable pub counted_bytes : List ℕ → Option (Read (List ℕ))
counted_bytes bytes = given (count bytes) (λ n rest. taken n rest (take n rest))

-- the bytes before the first zero, which itself belongs to the part
abbrev pub is_zero : ℕ → Bool
is_zero byte = byte == 0

abbrev pub text_to : List ℕ → ℕ → Option (Read (List ℕ))
text_to bytes at = Some record { value = take at bytes; rest = drop (at + 1) bytes }

unfoldable pub text : List ℕ → Option (Read (List ℕ))
text bytes = option_and_then (text_to bytes) (position is_zero bytes)
