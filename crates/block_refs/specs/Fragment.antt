-- The fragments at the front of a record's body: PostgreSQL 16, src/include/access/xlogrecord.h, XLR_BLOCK_ID_.. and
-- XLogRecordDataHeaderShort and ..Long; src/backend/access/transam/xlogreader.c, DecodeXLogRecord.
use Rattle.std.specs.Prelude.{ℕ, ◌+◌, ◌-◌, ◌==◌, Bool, List, length, Option, Some, None, Result, Ok, Err, nat_lt, nat_le, if◌then◌else◌}
use Rattle.layout.specs.Readers.{u8_at, u32_at}
use Rattle.block_refs.specs.declared.block_ref.BlockRef.{BlockRef}
use Rattle.block_refs.specs.declared.block_ref.ImageRef.{ImageRef}
use Rattle.block_refs.specs.declared.fault.Flaw.{Flaw}
use Rattle.block_refs.specs.declared.fault.Flaw.TheVariants as flaw
use Rattle.block_refs.specs.declared.fragment.Fragment.{Fragment}
use Rattle.block_refs.specs.declared.fragment.Fragment.TheVariants.{Block, Main, Other}
use Rattle.block_refs.specs.declared.fragment.Piece.{Piece}
use Rattle.block_refs.specs.declared.fragment.Seen.{Seen}
use Rattle.block_refs.specs.declared.header.Head.{Head}
use Rattle.block_refs.specs.declared.image.Image.{Image}
use Rattle.block_refs.specs.declared.image.Image.TheVariants.{Missing, Plain, Compressed}
use Rattle.block_refs.specs.Header.{head_at}

-- the answer of a value, where there is one
abbrev pub given : {A B : Type 0} → Result A Flaw → (A → Result B Flaw) → Result B Flaw
given (Ok value) answer = answer value
given (Err flaw) answer = Err flaw

-- how many bytes the image of a reference has: a page less its hole
abbrev pub stored_size : Option ImageRef → ℕ
stored_size None = 0
stored_size (Some image) = 8192 - image.hole

abbrev pub image_size : BlockRef → ℕ
image_size block = stored_size block.image

-- how many bytes behind the headers a fragment announces
abbrev pub announced_by : Fragment → ℕ
announced_by (Block block size) = image_size block + size
announced_by (Main size) = size
announced_by Other = 0

-- a reference with this header and image
abbrev pub reference : Head → Option ImageRef → BlockRef
reference head image = record { id = head.id; name = head.name; will_init = head.will_init; image = image }

abbrev pub piece_with : Head → Option ImageRef → Piece
piece_with head image = record { fragment = Block (reference head image) head.size; next = head.next }

-- what a header makes: an image that is compressed is a flaw
abbrev pub piece_by : Head → Image → Result Piece Flaw
piece_by head Missing = Ok (piece_with head None)
piece_by head (Plain image) = Ok (piece_with head (Some image))
piece_by head Compressed = Err (flaw.Compressed head.id)

abbrev pub block_piece : ℕ → Option Head → Result Piece Flaw
block_piece at None = Err (flaw.Bad at)
block_piece at (Some head) = piece_by head head.image

-- a fragment of these bytes in all, where they are there
abbrev pub fixed : List ℕ → ℕ → ℕ → Fragment → Result Piece Flaw
fixed body at size fragment =
    if nat_lt (length body) (at + size) then Err (flaw.Bad at)
    else Ok record { fragment = fragment; next = at + size }

-- the fragment that begins with the byte at an offset, behind a block reference: the main bytes' number in one byte or
-- in four, an origin, a transaction, or a block reference
abbrev pub fragment_by : List ℕ → ℕ → Option BlockRef → Result Piece Flaw
fragment_by body at before =
    if u8_at at body == 255 then fixed body at 2 (Main (u8_at (at + 1) body))
    else if u8_at at body == 254 then fixed body at 5 (Main (u32_at (at + 1) body))
    else if u8_at at body == 253 then fixed body at 3 Other
    else if u8_at at body == 252 then fixed body at 5 Other
    else block_piece at (head_at body at before)

-- the fragment at an offset, behind a block reference, or its flaw
unfoldable pub fragment_at : List ℕ → ℕ → Option BlockRef → Result Piece Flaw
fragment_at body at before = if nat_lt at (length body) then fragment_by body at before else Err (flaw.Bad at)

-- what is announced fits what is left behind a fragment, and the last one, that of the main bytes, announces all of it
abbrev pub fits : List ℕ → ℕ → Piece → Fragment → Bool
fits body announced piece (Main size) = announced + size == length body - piece.next
fits body announced piece (Block block size) =
    nat_le (announced + (image_size block + size)) (length body - piece.next)
fits body announced piece Other = nat_le announced (length body - piece.next)

-- a fragment that announces too much, or main bytes that aren't the last
abbrev pub checked : List ℕ → Seen → Piece → Result Piece Flaw
checked body seen piece =
    if fits body seen.announced piece piece.fragment then Ok piece else Err (flaw.Bad seen.at)

-- the fragment behind those that were seen, or what is wrong with it
unfoldable pub piece_at : List ℕ → Seen → Result Piece Flaw
piece_at body seen = given (fragment_at body seen.at seen.before) (checked body seen)
