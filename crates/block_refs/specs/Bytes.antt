-- The bytes of a record's parts, and an image as a page: PostgreSQL 16, src/backend/access/transam/xlogreader.c,
-- XLogRecGetBlockData and RestoreBlockImage.
use Rattle.std.specs.Prelude.{ℕ, ◌+◌, ◌==◌, List, ◌++◌, take, drop, replicate, find, sum_by, Option, Some, None, option_map, option_and_then}
use Rattle.block_refs.specs.declared.block_ref.ImageRef.{ImageRef}
use Rattle.block_refs.specs.declared.placed.Placed.{Placed}
use Rattle.block_refs.specs.Fragment.{image_size}
use Rattle.block_refs.specs.Parts.{PartsView}

-- the block with an id, where there is one
abbrev pub block_with : ℕ → List Placed → Option Placed
block_with id blocks = find (λ placed. placed.block.id == id) blocks

-- the bytes of a body from a place on, so many
abbrev pub bytes_at : List ℕ → ℕ → ℕ → List ℕ
bytes_at body at size = take size (drop at body)

-- the image of a block as it is stored, and its bytes
abbrev pub stored_image : List ℕ → PartsView → Placed → List ℕ
stored_image body parts placed = bytes_at body (parts.start + placed.image_at) (image_size placed.block)

abbrev pub placed_bytes : List ℕ → PartsView → Placed → List ℕ
placed_bytes body parts placed = bytes_at body (parts.start + placed.at) placed.size

-- a block's part of the body: its image, and then its bytes
abbrev pub block_part : List ℕ → PartsView → Placed → List ℕ
block_part body parts placed = stored_image body parts placed ++ placed_bytes body parts placed

-- the bytes of the block with an id
abbrev pub block_bytes : List ℕ → PartsView → ℕ → Option (List ℕ)
block_bytes body parts id = option_map (placed_bytes body parts) (block_with id parts.blocks)

-- the main bytes
abbrev pub main_bytes : List ℕ → PartsView → List ℕ
main_bytes body parts = drop parts.main body

-- how many bytes the images have
abbrev pub image_total : List Placed → ℕ
image_total blocks = sum_by (λ placed. image_size placed.block) blocks

-- the page of an image: its bytes, with zeros in its hole
abbrev pub filled : ImageRef → List ℕ → List ℕ
filled image stored = take image.hole_at stored ++ replicate image.hole 0 ++ drop image.hole_at stored

abbrev pub placed_page : List ℕ → PartsView → Placed → Option (List ℕ)
placed_page body parts placed =
    option_map (λ image. filled image (stored_image body parts placed)) placed.block.image

-- the page of the block with an id, where it has an image
abbrev pub page_of : List ℕ → PartsView → ℕ → Option (List ℕ)
page_of body parts id = option_and_then (placed_page body parts) (block_with id parts.blocks)

-- what room holds once a page, if there is one, was written at its front
abbrev pub overwritten : Option (List ℕ) → List ℕ → List ℕ
overwritten None old = old
overwritten (Some page) old = page ++ drop 8192 old
