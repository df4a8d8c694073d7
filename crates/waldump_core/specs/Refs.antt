-- Block references as pg_waldump shows them: PostgreSQL 16, src/backend/access/rmgrdesc/xlogdesc.c,
-- XLogRecGetBlockRefInfo.
use Rattle.std.specs.Prelude.{ℕ, Bool, true, false, List, [], ◌++◌, Option, None, Some, codes, decimal, if◌then◌else◌}
use Rattle.std.specs.List.{flat_map}
use Rattle.block_refs.specs.declared.block_ref.BlockRef.{BlockRef}
use Rattle.block_refs.specs.declared.block_ref.ImageRef.{ImageRef}
use Rattle.block_refs.specs.declared.placed.Placed.{Placed}
use Rattle.block_refs.specs.Names.{fork_name, rel_text}
use Rattle.block_refs.specs.declared.names.Fork.{Fork}
use Rattle.block_refs.specs.declared.names.Fork.TheVariants.{Main, FreeSpace, Visibility, Init}

-- the fork of a block, which isn't named where it is the main one
abbrev pub fork_mark : Fork → List ℕ
fork_mark Main = []
fork_mark FreeSpace = codes " fork fsm"
fork_mark Visibility = codes " fork vm"
fork_mark Init = codes " fork init"

-- that there is a full-page image, and what it is for
abbrev pub image_mark : Option ImageRef → List ℕ
image_mark None = []
image_mark (Some image) = if image.apply then codes " FPW" else codes " FPW for WAL verification"

-- a block reference within the line of its record
unfoldable pub short_ref : BlockRef → List ℕ
short_ref block =
    codes ", blkref #" ++ (decimal block.id ++ (codes ": rel " ++ (rel_text block.name.rel ++ (fork_mark block.name.fork
    ++ (codes " blk " ++ (decimal block.name.block ++ image_mark block.image))))))

abbrev pub image_word : ImageRef → List ℕ
image_word image = if image.apply then codes " (FPW)" else codes " (FPW for WAL verification)"

-- a full-page image with its hole
abbrev pub image_text : Option ImageRef → List ℕ
image_text None = []
image_text (Some image) =
    image_word image ++ (codes "; hole: offset: " ++ (decimal image.hole_at ++ (codes ", length: " ++ decimal image.hole)))

-- a block reference in a line of its own
unfoldable pub long_ref : BlockRef → List ℕ
long_ref block =
    codes "\tblkref #" ++ (decimal block.id ++ (codes ": rel " ++ (rel_text block.name.rel ++ (codes " fork "
    ++ (fork_name block.name.fork ++ (codes " blk " ++ (decimal block.name.block ++ (image_text block.image ++ codes "\n"))))))))

abbrev pub short_text : Placed → List ℕ
short_text placed = short_ref placed.block

abbrev pub long_text : Placed → List ℕ
long_text placed = long_ref placed.block

-- the end of a record's line, with its block references in it or below it
abbrev pub refs_text : Bool → List Placed → List ℕ
refs_text false blocks = flat_map short_text blocks ++ codes "\n"
refs_text true blocks = codes "\n" ++ flat_map long_text blocks
