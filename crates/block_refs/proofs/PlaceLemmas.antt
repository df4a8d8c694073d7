-- Where the parts of a body stand: within it.
use Rattle.std.proofs.Common.{◌≡◌, ℕ, ◌+◌, ◌-◌, ◌≤◌, eqb, inl, inr, List, [], ◌∷◌, ◌++◌, length, take, drop, replicate, Option, Some, None, Ok, refl, sym, ap, subst, ◌∙◌, arith, option_map, option_and_then}
use Rattle.std.specs.Prelude.{IfSome}
use Rattle.std.specs.List.{AllByRecursion}
use Rattle.std.proofs.lemmas.List.{length-append, length-take, length-take-le, length-drop, length-replicate, take_at, drop_at, drop-drop}
use Rattle.layout.specs.Splice.{splice}
use Rattle.block_refs.specs.declared.block_ref.BlockRef.{BlockRef}
use Rattle.block_refs.specs.declared.block_ref.ImageRef.{ImageRef}
use Rattle.block_refs.specs.declared.fragment.Fragment.{Fragment}
use Rattle.block_refs.specs.declared.fragment.Fragment.TheVariants.{Block, Main, Other}
use Rattle.block_refs.specs.declared.fragment.Piece.{Piece}
use Rattle.block_refs.specs.declared.placed.Placed.{Placed}
use Rattle.block_refs.specs.declared.fragment.Seen.{Seen}
use Rattle.block_refs.specs.Fragment.{image_size, announced_by}
use Rattle.block_refs.specs.Parts.{PartsView, nothing_seen, after, placed_by, parts_of}
use Rattle.block_refs.specs.Bytes.{block_with, stored_image, filled, placed_page, page_of}
use Rattle.block_refs.specs.Standing.{IsHole, IsImage, image_as, IsFragment}
use Rattle.block_refs.specs.Spelling.{AreHeaders, placed_in}
use Rattle.block_refs.proofs.Steps.{either_some}
use Rattle.block_refs.proofs.PartsLemmas.{has_parts}

-- a hole lies within a page
abbrev pub HoleFits : Option ImageRef → Type 0
HoleFits None = Unit {0}
HoleFits (Some image) = image.hole_at + image.hole ≤ 8192

-- a block's image and bytes stand before an end, and its hole lies within the page
pub record Sits (end : ℕ) (placed : Placed) : Type 0 where
  pub fits : placed.image_at + (image_size placed.block + placed.size) ≤ end
  pub behind : placed.at ≡ placed.image_at + image_size placed.block
  pub hole : HoleFits placed.block.image

hole_fits : (image : ImageRef) (info : ℕ) → IsHole image info → image.hole_at + image.hole ≤ 8192
hole_fits image info (inl h) = h.3
hole_fits image info (inr h) = let at = h.1 in let none = h.2 in omega arith

image_fits : (body : List ℕ) (at flags : ℕ) (image : Option ImageRef) → IsImage body at flags (image_as image) → HoleFits image
image_fits body at flags None h = tt
image_fits body at flags (Some image) h = hole_fits image _ h.2.hole

fragment_sits : (body : List ℕ) (at : ℕ) (before : Option BlockRef) (next place end : ℕ) (fragment : Fragment) (rest : List Placed) → IsFragment body at before fragment next
    → place + announced_by fragment ≤ end → AllByRecursion (Sits end) rest → AllByRecursion (Sits end) (placed_by place fragment ++ rest)
fragment_sits body at before next place end (Block block size) rest h fits others = (record { fits = fits; behind = refl; hole = image_fits body _ _ block.image h.image }, others)
fragment_sits body at before next place end (Main size) rest h fits others = others
fragment_sits body at before next place end Other rest h fits others = others

headers_sit : (body : List ℕ) (seen : Seen) (pieces : List Piece) (last : Seen) → AreHeaders body seen pieces last
    → (seen.announced ≤ last.announced) × AllByRecursion (Sits last.announced) (placed_in seen.announced pieces)
headers_sit body seen [] last h = (let e : seen.announced ≡ last.announced = ap (λ (s : Seen). s.announced) h in omega arith, tt)
headers_sit body seen (piece ∷ pieces) last h =
    let rest = headers_sit body (after seen piece) pieces last h.2 in
    let up = rest.0 in
    (omega arith, fragment_sits body seen.at seen.before piece.next seen.announced last.announced piece.fragment (placed_in (seen.announced + announced_by piece.fragment) pieces) h.1.stands up rest.1)

block_sits : (end id : ℕ) (blocks : List Placed) (placed : Placed) → AllByRecursion (Sits end) blocks → block_with id blocks ≡ Some placed → Sits end placed
block_sits end id [] placed h e = absurd cc
block_sits end id (first ∷ blocks) placed h e =
    elim (either_some (eqb first.block.id id) first (block_with id blocks) placed e) [
      | inl a ↦ subst (Sits end) a.1 h.0
      | inr a ↦ block_sits end id blocks placed h.1 a.1
    ]

-- where a block stands
record StandsIn (body : List ℕ) (parts : PartsView) (placed : Placed) : Type 0 where
  within : parts.start + (placed.image_at + (image_size placed.block + placed.size)) ≤ length body
  behind : placed.at ≡ placed.image_at + image_size placed.block
  hole : HoleFits placed.block.image

block_stands : (body : List ℕ) (parts : PartsView) (id : ℕ) (placed : Placed) → parts_of body ≡ Ok parts → block_with id parts.blocks ≡ Some placed → StandsIn body parts placed
block_stands body parts id placed e found =
    let h = has_parts body parts e in
    let all = headers_sit body nothing_seen h.pieces h.last h.headers in
    let blocks = h.blocks in
    let sits = block_sits h.last.announced id (placed_in 0 h.pieces) placed all.1 (ap (block_with id) (sym blocks) ∙ found) in
    let start = h.start in
    let whole = h.whole in
    let fits = sits.fits in
    record { within = omega arith; behind = sits.behind; hole = sits.hole }

pub bytes_within : (body : List ℕ) (parts : PartsView) (id : ℕ) (placed : Placed) → parts_of body ≡ Ok parts → block_with id parts.blocks ≡ Some placed → parts.start + (placed.at + placed.size) ≤ length body
bytes_within body parts id placed e found =
    let s = block_stands body parts id placed e found in
    let within = s.within in
    let behind = s.behind in
    omega arith

pub image_within : (body : List ℕ) (parts : PartsView) (id : ℕ) (placed : Placed) → parts_of body ≡ Ok parts → block_with id parts.blocks ≡ Some placed → parts.start + (placed.image_at + image_size placed.block) ≤ length body
image_within body parts id placed e found =
    let s = block_stands body parts id placed e found in
    let within = s.within in
    omega arith

-- an image's hole lies within its page, and its bytes are the rest
pub hole_within : (body : List ℕ) (parts : PartsView) (id : ℕ) (placed : Placed) (image : ImageRef) → parts_of body ≡ Ok parts → block_with id parts.blocks ≡ Some placed → placed.block.image ≡ Some image
    → image.hole_at + image.hole ≤ 8192
hole_within body parts id placed image e found is = subst HoleFits is (block_stands body parts id placed e found).hole

pub image_whole : (body : List ℕ) (parts : PartsView) (id : ℕ) (placed : Placed) (image : ImageRef) → parts_of body ≡ Ok parts → block_with id parts.blocks ≡ Some placed → placed.block.image ≡ Some image
    → image_size placed.block + image.hole ≡ 8192
image_whole body parts id placed image e found is =
    let hole = hole_within body parts id placed image e found is in
    rw is (omega arith)

filled_size : (image : ImageRef) (stored : List ℕ) → image.hole_at + image.hole ≤ 8192 → length stored + image.hole ≡ 8192 → length (filled image stored) ≡ 8192
filled_size image stored within whole =
    let a : length (filled image stored) ≡ length (take image.hole_at stored ++ replicate {A = ℕ} image.hole 0) + length (drop image.hole_at stored) = length-append (take image.hole_at stored ++ replicate {A = ℕ} image.hole 0) (drop image.hole_at stored) in
    let b : length (take image.hole_at stored ++ replicate {A = ℕ} image.hole 0) ≡ length (take image.hole_at stored) + length (replicate {A = ℕ} image.hole 0) = length-append (take image.hole_at stored) (replicate {A = ℕ} image.hole 0) in
    let c : length (take image.hole_at stored) ≡ image.hole_at = length-take-le image.hole_at stored (omega arith) in
    let d : length (replicate {A = ℕ} image.hole 0) ≡ image.hole = length-replicate {A = ℕ} image.hole 0 in
    let e : length (drop image.hole_at stored) ≡ length stored - image.hole_at = length-drop image.hole_at stored in
    omega arith

pub page_size : (body : List ℕ) (parts : PartsView) (id : ℕ) → parts_of body ≡ Ok parts → IfSome (page_of body parts id) (λ page. length page ≡ 8192)
page_size body parts id e = by (block_with id parts.blocks) refl
  where
    image_by : (placed : Placed) → block_with id parts.blocks ≡ Some placed → (image : Option ImageRef) → placed.block.image ≡ image
        → IfSome (option_map (λ image. filled image (stored_image body parts placed)) image) (λ page. length page ≡ 8192)
    image_by placed found None is = tt
    image_by placed found (Some image) is =
        let within = image_within body parts id placed e found in
        let whole = image_whole body parts id placed image e found is in
        let size = length-take (image_size placed.block) (drop (parts.start + placed.image_at) body) in
        let rest = length-drop (parts.start + placed.image_at) body in
        filled_size image (stored_image body parts placed) (hole_within body parts id placed image e found is) (omega arith)

    by : (o : Option Placed) → block_with id parts.blocks ≡ o → IfSome (option_and_then (placed_page body parts) o) (λ page. length page ≡ 8192)
    by None found = tt
    by (Some placed) found = image_by placed found placed.block.image refl

pub main_stands : (body : List ℕ) (parts : PartsView) → parts_of body ≡ Ok parts → parts.main ≤ length body
main_stands body parts e = let h = has_parts body parts e in let main = h.main in omega arith

-- ---- a page, piece by piece

-- bytes laid over what stands behind a text
behind : (text rest bytes : List ℕ) (at : ℕ) → length text ≡ at → splice (text ++ rest) at bytes ≡ (text ++ bytes) ++ drop (length bytes) rest
unfolding splice
behind text rest bytes at size =
    let over : drop (at + length bytes) (text ++ rest) ≡ drop (length bytes) rest = sym (drop-drop (length bytes) at (text ++ rest)) ∙ ap (drop (length bytes)) (drop_at text rest at size) in
    rw (take_at text rest at size, over) refl

pub pieces_fill : (image : ImageRef) (stored old first second third : List ℕ) → image.hole_at + image.hole ≤ 8192 → length stored + image.hole ≡ 8192
    → first ≡ splice old 0 (take image.hole_at stored) → second ≡ splice first image.hole_at (replicate image.hole 0)
    → third ≡ splice second (image.hole_at + image.hole) (drop image.hole_at stored) → third ≡ filled image stored ++ drop 8192 old
pieces_fill image stored old first second third within whole a b c =
    let front = take image.hole_at stored in
    let zeros : List ℕ = replicate image.hole 0 in
    let back = drop image.hole_at stored in
    let front_size : length front ≡ image.hole_at = length-take-le image.hole_at stored (omega arith) in
    let zeros_size : length zeros ≡ image.hole = length-replicate image.hole 0 in
    let back_size : length back ≡ length stored - image.hole_at = length-drop image.hole_at stored in
    let both_size : length (front ++ zeros) ≡ image.hole_at + image.hole = length-append front zeros ∙ omega arith in
    let one : first ≡ front ++ drop (length front) old = a ∙ behind [] old front 0 refl in
    let two : second ≡ (front ++ zeros) ++ drop (length zeros) (drop (length front) old) = b ∙ ap (λ bytes. splice bytes image.hole_at zeros) one ∙ behind front (drop (length front) old) zeros image.hole_at front_size in
    let three : third ≡ ((front ++ zeros) ++ back) ++ drop (length back) (drop (length zeros) (drop (length front) old))
    = c ∙ ap (λ bytes. splice bytes (image.hole_at + image.hole) back) two ∙ behind (front ++ zeros) (drop (length zeros) (drop (length front) old)) back (image.hole_at + image.hole) both_size in
    let sum : (length front + length zeros) + length back ≡ 8192 = omega arith in
    let rest : drop (length back) (drop (length zeros) (drop (length front) old)) ≡ drop 8192 old
    = ap (drop (length back)) (drop-drop (length zeros) (length front) old) ∙ drop-drop (length back) (length front + length zeros) old ∙ ap (λ n. drop n old) sum in
    three ∙ ap (λ (r : List ℕ). ((front ++ zeros) ++ back) ++ r) rest
