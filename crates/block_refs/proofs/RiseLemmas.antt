-- The ids of a body's blocks rise, so that each names one block.
use Rattle.std.proofs.Common.{◌≡◌, ℕ, zero, suc, ◌+◌, ◌<◌, true, false, eqb, List, [], ◌∷◌, ◌++◌, Option, Some, None, refl, sym, subst, arith}
use Rattle.std.specs.Prelude.{IfSome}
use Rattle.std.specs.List.{slice_get}
use Rattle.std.proofs.lemmas.Bool.Decides.{nat_tests}
use Rattle.block_refs.specs.declared.block_ref.BlockRef.{BlockRef}
use Rattle.block_refs.specs.declared.fragment.Fragment.{Fragment}
use Rattle.block_refs.specs.declared.fragment.Fragment.TheVariants.{Block, Main, Other}
use Rattle.block_refs.specs.declared.fragment.Piece.{Piece}
use Rattle.block_refs.specs.declared.placed.Placed.{Placed}
use Rattle.block_refs.specs.declared.fragment.Seen.{Seen}
use Rattle.block_refs.specs.Fragment.{announced_by}
use Rattle.block_refs.specs.Parts.{PartsView, nothing_seen, last_block, after, placed_by}
use Rattle.block_refs.specs.Bytes.{block_with}
use Rattle.block_refs.specs.Standing.{IsFragment}
use Rattle.block_refs.specs.Spelling.{AreHeaders, placed_in, HasParts, IdsRise}

fragment_rises : (body : List ℕ) (at : ℕ) (before : Option BlockRef) (next place : ℕ) (fragment : Fragment) (rest : List Placed) → IsFragment body at before fragment next
    → IdsRise (last_block before fragment) rest → IdsRise before (placed_by place fragment ++ rest)
fragment_rises body at before next place (Block block size) rest h others = (h.rises, h.greatest, others)
fragment_rises body at before next place (Main size) rest h others = others
fragment_rises body at before next place Other rest h others = others

headers_rise : (body : List ℕ) (seen : Seen) (pieces : List Piece) (last : Seen) → AreHeaders body seen pieces last → IdsRise seen.before (placed_in seen.announced pieces)
headers_rise body seen [] last h = tt
headers_rise body seen (piece ∷ pieces) last h =
    fragment_rises body seen.at seen.before piece.next seen.announced piece.fragment (placed_in (seen.announced + announced_by piece.fragment) pieces) h.1.stands
    (headers_rise body (after seen piece) pieces last h.2)

pub parts_rise : (body : List ℕ) (parts : PartsView) → HasParts body parts → IdsRise None parts.blocks
parts_rise body parts h = subst (IdsRise None) (sym h.blocks) (headers_rise body nothing_seen h.pieces h.last h.headers)

above_both : (before : Option BlockRef) (low high : ℕ) → IfSome before (λ last. last.id < low) → low < high → IfSome before (λ last. last.id < high)
above_both None low high h k = tt
above_both (Some last) low high h k = omega arith

-- a block among those whose ids rise is above the one before, and the one that its id names
record Named (before : Option BlockRef) (blocks : List Placed) (placed : Placed) : Type 0 where
  above : IfSome before (λ last. last.id < placed.block.id)
  named : block_with placed.block.id blocks ≡ Some placed

same_some : (x y : Placed) → Some x ≡ Some y → x ≡ y
same_some x y e = cc

rising_named : (before : Option BlockRef) (blocks : List Placed) (at : ℕ) (placed : Placed) → IdsRise before blocks → slice_get blocks at ≡ Some placed → Named before blocks placed
rising_named before [] at placed h e = absurd cc
rising_named before (first ∷ rest) zero placed h e =
    subst (Named before (first ∷ rest)) (same_some first placed e) (record { above = h.0; named = first_named })
  where
    first_named : block_with first.block.id (first ∷ rest) ≡ Some first
    first_named = let here : eqb first.block.id first.block.id ≡ true = grind (arith, nat_tests) in rw here refl
rising_named before (first ∷ rest) (suc at) placed h e =
    let later = rising_named (Some first.block) rest at placed h.2 e in
    let above = later.above in
    let no : eqb first.block.id placed.block.id ≡ false = grind (arith, nat_tests) in
    record { above = above_both before first.block.id placed.block.id h.0 above; named = rw no later.named }

pub id_names : (body : List ℕ) (parts : PartsView) (at : ℕ) (placed : Placed) → HasParts body parts → slice_get parts.blocks at ≡ Some placed → block_with placed.block.id parts.blocks ≡ Some placed
id_names body parts at placed h e = (rising_named None parts.blocks at placed (parts_rise body parts h) e).named
