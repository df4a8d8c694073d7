-- Numbers that are read off bytes are of their width.
use Rattle.std.proofs.Common.{ℕ, ◌+◌, ◌<◌, ◌^◌, List, [], ◌∷◌, ◌++◌, drop, Option, None, Some, inl, inr, subst, sym}
use Rattle.std.proofs.lemmas.List.{get_or-drop}
use Rattle.byteorder.specs.Numbers.{little_from-lt}
use Rattle.layout.specs.Readers.{u32_at}
use Rattle.layout_readers.specs.Rows.{AreBytes}
use Rattle.block_refs.specs.Header.{relation_at}
use Rattle.block_refs.specs.Parts.{PartsView, after, last_block, nothing_seen, placed_by}
use Rattle.block_refs.specs.Fragment.{announced_by}
use Rattle.block_refs.specs.Spelling.{AreHeaders, HasParts, placed_in}
use Rattle.block_refs.specs.Standing.{IsFragment, IsHead, IsRelation, flags_at}
use Rattle.block_refs.specs.declared.block_ref.BlockRef.{BlockRef}
use Rattle.block_refs.specs.declared.fragment.Fragment.{Fragment}
use Rattle.block_refs.specs.declared.fragment.Fragment.TheVariants.{Block, Main, Other}
use Rattle.block_refs.specs.declared.fragment.Piece.{Piece}
use Rattle.block_refs.specs.declared.fragment.Seen.{Seen}
use Rattle.block_refs.specs.declared.header.Head.{Head}
use Rattle.block_refs.specs.declared.names.BlockName.{BlockName}
use Rattle.block_refs.specs.declared.names.RelName.{RelName}
use Rattle.block_refs.specs.declared.placed.Placed.{Placed}
use Rattle.storage_laws.specs.Names.{IsRel}

pub still-bytes : (at : ℕ) (bytes : List ℕ) → AreBytes bytes → AreBytes (drop at bytes)
still-bytes at bytes are i = rw (get_or-drop at bytes i 0) (are (at + i))

pub word-fits : (at : ℕ) (bytes : List ℕ) → AreBytes bytes → u32_at at bytes < 2 ^ 32
unfolding u32_at
word-fits at bytes are = little_from-lt 0 4 (drop at bytes) (still-bytes at bytes are)

pub rel-fits : (at : ℕ) (bytes : List ℕ) → AreBytes bytes → IsRel (relation_at bytes at)
rel-fits at bytes are = record { database = word-fits (at + 4) bytes are; relation = word-fits (at + 8) bytes are }

-- the numbers of blocks that references name

pub record IsNumbered (name : BlockName) : Type 0 where
  pub rel : IsRel name.rel
  pub block : name.block < 2 ^ 32

abbrev pub AreNumbered : List Placed → Type 0
AreNumbered [] = Unit {0}
AreNumbered (placed ∷ rest) = IsNumbered placed.block.name × AreNumbered rest

abbrev IsAfter : Option BlockRef → Type 0
IsAfter None = Unit {0}
IsAfter (Some last) = IsNumbered last.name

relation_fits : (body : List ℕ) (at flags : ℕ) (before : Option BlockRef) (rel : RelName) → AreBytes body → IsAfter before → IsRelation body at flags before rel → IsRel rel
relation_fits body at flags before rel are was (inl h) = subst IsRel (sym h.3) (subst IsAfter h.2 was).rel
relation_fits body at flags before rel are was (inr h) = subst IsRel (sym h.1) (rel-fits at body are)

head_fits : (body : List ℕ) (at : ℕ) (before : Option BlockRef) (head : Head) → AreBytes body → IsAfter before → IsHead body at before head → IsNumbered head.name
head_fits body at before head are was h = record {
  rel = relation_fits body (at + 4 + h.image_width) (flags_at body at) before head.name.rel are was h.relation;
  block = subst (λ (n : ℕ). n < 2 ^ 32) h.block (word-fits (at + 4 + h.image_width + h.relation_width) body are);
}

fragment_fits : (body : List ℕ) (at : ℕ) (before : Option BlockRef) (next place : ℕ) (fragment : Fragment) (rest : List Placed) → AreBytes body → IsAfter before → IsFragment body at before fragment next
    → AreNumbered rest → AreNumbered (placed_by place fragment ++ rest)
fragment_fits body at before next place (Block block size) rest are was h others = (head_fits body at before _ are was h, others)
fragment_fits body at before next place (Main size) rest are was h others = others
fragment_fits body at before next place Other rest are was h others = others

after_fits : (body : List ℕ) (at : ℕ) (before : Option BlockRef) (next : ℕ) (fragment : Fragment) → AreBytes body → IsAfter before → IsFragment body at before fragment next → IsAfter (last_block before fragment)
after_fits body at before next (Block block size) are was h = head_fits body at before _ are was h
after_fits body at before next (Main size) are was h = was
after_fits body at before next Other are was h = was

headers_fit : (body : List ℕ) (seen : Seen) (pieces : List Piece) (last : Seen) → AreBytes body → IsAfter seen.before → AreHeaders body seen pieces last → AreNumbered (placed_in seen.announced pieces)
headers_fit body seen [] last are was h = tt
headers_fit body seen (piece ∷ pieces) last are was h =
    fragment_fits body seen.at seen.before piece.next seen.announced piece.fragment (placed_in (seen.announced + announced_by piece.fragment) pieces) are was h.1.stands
    (headers_fit body (after seen piece) pieces last are (after_fits body seen.at seen.before piece.next piece.fragment are was h.1.stands) h.2)

pub parts-numbered : (body : List ℕ) (parts : PartsView) → AreBytes body → HasParts body parts → AreNumbered parts.blocks
parts-numbered body parts are h = subst AreNumbered (sym h.blocks) (headers_fit body nothing_seen h.pieces h.last are tt h.headers)
