-- The parts of a record's body: block references, their images and bytes, and the main bytes. PostgreSQL 16,
-- src/backend/access/transam/xlogreader.c, DecodeXLogRecord.
use Rattle.std.specs.Prelude.{ℕ, zero, suc, ◌+◌, ◌-◌, ◌==◌, ◌≡◌, Bool, List, [], ◌∷◌, ◌++◌, length, Option, Some, None, Result, Ok, Err, if◌then◌else◌}
use Rattle.wal_records.specs.Reading.{LogRecord}
use Rattle.block_refs.specs.declared.block_ref.BlockRef.{BlockRef}
use Rattle.block_refs.specs.declared.fault.Flaw.{Flaw}
use Rattle.block_refs.specs.declared.fault.Flaw.TheVariants as flaw
use Rattle.block_refs.specs.declared.fragment.Fragment.{Fragment}
use Rattle.block_refs.specs.declared.fragment.Fragment.TheVariants.{Block, Main, Other}
use Rattle.block_refs.specs.declared.fragment.Piece.{Piece}
use Rattle.block_refs.specs.declared.placed.Placed.{Placed}
use Rattle.block_refs.specs.declared.fragment.Seen.{Seen}
use Rattle.block_refs.specs.Fragment.{given, image_size, announced_by, piece_at}

-- Where the parts of a body stand: the headers end at `start`, from which the places of the blocks are counted, and the
-- main bytes go from `main` to the body's end.
pub record PartsView : Type 0 where
  pub start : ℕ
  pub blocks : List Placed
  pub main : ℕ

-- no parts: those of an empty body
abbrev pub no_parts : PartsView
no_parts = record { start = 0; blocks = []; main = 0 }

-- before the first fragment
abbrev pub nothing_seen : Seen
nothing_seen = record { at = 0; announced = 0; before = None; main = 0 }

-- the last block reference
abbrev pub last_block : Option BlockRef → Fragment → Option BlockRef
last_block before (Block block size) = Some block
last_block before (Main size) = before
last_block before Other = before

-- how many main bytes there are
abbrev pub main_size : ℕ → Fragment → ℕ
main_size before (Block block size) = before
main_size before (Main size) = size
main_size before Other = before

-- behind one more fragment
abbrev pub after : Seen → Piece → Seen
after seen piece = record {
  at = piece.next;
  announced = seen.announced + announced_by piece.fragment;
  before = last_block seen.before piece.fragment;
  main = main_size seen.main piece.fragment;
}

-- the headers end where the bytes that they announce are those that are left
abbrev pub is_ended : List ℕ → Seen → Bool
is_ended body seen = seen.announced == length body - seen.at

-- a block's image, and then its bytes, stand behind what was announced before
abbrev pub placed_by : ℕ → Fragment → List Placed
placed_by at (Block block size) = record { block = block; image_at = at; at = at + image_size block; size = size } ∷ []
placed_by at (Main size) = []
placed_by at Other = []

-- no more blocks
abbrev pub ended_at : Seen → PartsView
ended_at seen = record { start = seen.at; blocks = []; main = (seen.at + seen.announced) - seen.main }

-- these blocks, and then those of parts
abbrev pub with_blocks : List Placed → PartsView → PartsView
with_blocks blocks parts = record { start = parts.start; blocks = blocks ++ parts.blocks; main = parts.main }

abbrev pub led_by : List Placed → Result PartsView Flaw → Result PartsView Flaw
led_by blocks (Ok parts) = Ok (with_blocks blocks parts)
led_by blocks (Err flaw) = Err flaw

-- the parts from some fragments on, where fewer than so many are to come
unfoldable pub parts_from : ℕ → List ℕ → Seen → Result PartsView Flaw
parts_from zero body seen = Err (flaw.Bad seen.at)
parts_from (suc more) body seen =
    if is_ended body seen then Ok (ended_at seen)
    else given (piece_at body seen)
    (λ piece. led_by (placed_by seen.announced piece.fragment) (parts_from more body (after seen piece)))

-- the parts of a body, or its first flaw
unfoldable pub parts_of : List ℕ → Result PartsView Flaw
parts_of body = parts_from (suc (length body)) body nothing_seen

-- the parts are those of a record
abbrev pub ArePartsOf : LogRecord → PartsView → Type 0
ArePartsOf rec parts = parts_of rec.body ≡ Ok parts
