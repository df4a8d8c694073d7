-- How a body spells its parts, as a relation: PostgreSQL 16, src/include/access/xlogrecord.h.
use Rattle.std.specs.Prelude.{◌≡◌, ℕ, ◌+◌, ◌-◌, ◌<◌, ◌≤◌, List, [], ◌∷◌, ◌++◌, length, Option, Some, IfSome}
use Rattle.block_refs.specs.declared.block_ref.BlockRef.{BlockRef}
use Rattle.block_refs.specs.declared.fault.Flaw.{Flaw}
use Rattle.block_refs.specs.declared.fault.Flaw.TheVariants as flaw
use Rattle.block_refs.specs.declared.fragment.Fragment.{Fragment}
use Rattle.block_refs.specs.declared.fragment.Fragment.TheVariants.{Block, Main, Other}
use Rattle.block_refs.specs.declared.fragment.Piece.{Piece}
use Rattle.block_refs.specs.declared.placed.Placed.{Placed}
use Rattle.block_refs.specs.declared.fragment.Seen.{Seen}
use Rattle.block_refs.specs.declared.header.Head.{Head}
use Rattle.block_refs.specs.declared.image.Image.TheVariants.{Compressed}
use Rattle.block_refs.specs.Fragment.{announced_by}
use Rattle.block_refs.specs.Parts.{PartsView, nothing_seen, after, placed_by}
use Rattle.block_refs.specs.Standing.{IsHead, IsFragment}

-- main bytes are all that is left
abbrev pub IsLeft : List ℕ → ℕ → ℕ → Fragment → Type 0
IsLeft body announced next (Block block size) = Unit {0}
IsLeft body announced next (Main size) = next + (announced + size) ≡ length body
IsLeft body announced next Other = Unit {0}

-- A fragment stands behind those that were seen, and what is announced then fits what is left of the body.
pub record IsPiece (body : List ℕ) (seen : Seen) (piece : Piece) : Type 0 where
  pub stands : IsFragment body seen.at seen.before piece.fragment piece.next
  pub fits : piece.next + (seen.announced + announced_by piece.fragment) ≤ length body
  pub left : IsLeft body seen.announced piece.next piece.fragment

-- a block reference stands there whose image is compressed
pub record IsCompressed (body : List ℕ) (seen : Seen) (id : ℕ) : Type 0 where
  pub head : Head
  pub stands : IsHead body seen.at seen.before head
  pub image : head.image ≡ Compressed
  pub named : head.id ≡ id

-- what is wrong there: a compressed image, or that nothing stands there
abbrev pub IsFlaw : List ℕ → Seen → Flaw → Type 0
IsFlaw body seen (flaw.Compressed id) = IsCompressed body seen id
IsFlaw body seen (flaw.Bad at) =
    (at ≡ seen.at) × ((piece : Piece) → ¬ (IsPiece body seen piece)) × ((id : ℕ) → ¬ (IsCompressed body seen id))

-- fragments stand one behind another, each where the headers haven't ended, up to the last of what was seen
abbrev pub AreHeaders : List ℕ → Seen → List Piece → Seen → Type 0
AreHeaders body seen [] last = seen ≡ last
AreHeaders body seen (piece ∷ pieces) last =
    (seen.at + seen.announced < length body) × IsPiece body seen piece × AreHeaders body (after seen piece) pieces last

-- the blocks of fragments: in order, each with its image and then its bytes behind those before it
abbrev pub placed_in : ℕ → List Piece → List Placed
placed_in at [] = []
placed_in at (piece ∷ pieces) = placed_by at piece.fragment ++ placed_in (at + announced_by piece.fragment) pieces

-- A body has these parts: its headers announce what is left of it, the blocks are theirs, and the main bytes are the last.
pub record HasParts (body : List ℕ) (parts : PartsView) : Type 0 where
  pub pieces : List Piece
  pub last : Seen
  pub headers : AreHeaders body nothing_seen pieces last
  pub whole : last.at + last.announced ≡ length body
  pub start : parts.start ≡ last.at
  pub blocks : parts.blocks ≡ placed_in 0 pieces
  pub main : parts.main ≡ length body - last.main

-- The first flaw of a body: behind fragments that stand, where the headers haven't ended.
pub record IsFirstFlaw (body : List ℕ) (flaw : Flaw) : Type 0 where
  pub pieces : List Piece
  pub last : Seen
  pub headers : AreHeaders body nothing_seen pieces last
  pub more : last.at + last.announced < length body
  pub here : IsFlaw body last flaw

-- The ids of blocks rise, the first above that of a block before them, and none is above 32.
abbrev pub IdsRise : Option BlockRef → List Placed → Type 0
IdsRise before [] = Unit {0}
IdsRise before (placed ∷ rest) =
    IfSome before (λ last. last.id < placed.block.id) × (placed.block.id ≤ 32) × IdsRise (Some placed.block) rest
