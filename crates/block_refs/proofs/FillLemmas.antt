-- The parts of a body are all that stands behind its headers.
use Rattle.std.proofs.Common.{◌≡◌, ℕ, ◌+◌, ◌-◌, List, [], ◌∷◌, ◌++◌, length, take, drop, refl, sym, ap, ◌∙◌, append_assoc, arith}
use Rattle.std.specs.List.{flat_map}
use Rattle.std.proofs.lemmas.List.{take-append-drop, drop-drop}
use Rattle.block_refs.specs.declared.fragment.Fragment.{Fragment}
use Rattle.block_refs.specs.declared.fragment.Fragment.TheVariants.{Block, Main, Other}
use Rattle.block_refs.specs.declared.fragment.Piece.{Piece}
use Rattle.block_refs.specs.declared.placed.Placed.{Placed}
use Rattle.block_refs.specs.declared.fragment.Seen.{Seen}
use Rattle.block_refs.specs.Fragment.{image_size, announced_by}
use Rattle.block_refs.specs.Parts.{PartsView, nothing_seen, after, placed_by}
use Rattle.block_refs.specs.Bytes.{block_part, main_bytes}
use Rattle.block_refs.specs.Spelling.{AreHeaders, placed_in, HasParts}

-- from a place behind the headers on stand the parts of these blocks, and then the main bytes
abbrev Fills : List ℕ → PartsView → ℕ → List Placed → Type 0
Fills body parts at blocks = drop (parts.start + at) body ≡ flat_map (block_part body parts) blocks ++ main_bytes body parts

-- how a piece of a list is cut
cut : (size at : ℕ) (body : List ℕ) → drop at body ≡ take size (drop at body) ++ drop (at + size) body
cut size at body = sym (take-append-drop size (drop at body)) ∙ ap (λ (rest : List ℕ). take size (drop at body) ++ rest) (drop-drop size at body)

-- where headers end, with these main bytes
record Ends (body : List ℕ) (parts : PartsView) (last : Seen) : Type 0 where
  whole : last.at + last.announced ≡ length body
  start : parts.start ≡ last.at
  main : parts.main ≡ length body - last.main

-- no main bytes
NoMain : Fragment → Type 0
NoMain (Block block size) = Unit {0}
NoMain (Main size) = ⊥
NoMain Other = Unit {0}

fragment_fills : (body : List ℕ) (parts : PartsView) (announced : ℕ) (fragment : Fragment) (rest : List Placed) → NoMain fragment
    → Fills body parts (announced + announced_by fragment) rest → Fills body parts announced (placed_by announced fragment ++ rest)
unfolding NoMain
fragment_fills body parts announced (Block block size) rest plain h =
    let from = parts.start + announced in
    let image : drop from body ≡ take (image_size block) (drop from body) ++ drop (from + image_size block) body = cut (image_size block) from body in
    let behind : from + image_size block ≡ parts.start + (announced + image_size block) = omega arith in
    let bytes : drop (parts.start + (announced + image_size block)) body ≡ take size (drop (parts.start + (announced + image_size block)) body) ++ drop (parts.start + (announced + image_size block) + size) body
    = cut size (parts.start + (announced + image_size block)) body in
    let end : parts.start + (announced + image_size block) + size ≡ parts.start + (announced + (image_size block + size)) = omega arith in
    let first = take (image_size block) (drop from body) in
    let second = take size (drop (parts.start + (announced + image_size block)) body) in
    let others = flat_map (block_part body parts) rest in
    image ∙ ap (λ (r : List ℕ). first ++ r) (ap (λ n. drop n body) behind ∙ bytes ∙ ap (λ (r : List ℕ). second ++ r) (ap (λ n. drop n body) end ∙ h))
    ∙ sym (append_assoc first second (others ++ main_bytes body parts)) ∙ sym (append_assoc (first ++ second) others (main_bytes body parts))
fragment_fills body parts announced (Main size) rest plain h = absurd plain
fragment_fills body parts announced Other rest plain h = let same : parts.start + announced ≡ parts.start + (announced + 0) = omega arith in ap (λ n. drop n body) same ∙ h

-- headers that end here, before or behind main bytes
ends_fill : (body : List ℕ) (parts : PartsView) (last : Seen) → Ends body parts last → last.main ≡ 0 → Fills body parts last.announced []
ends_fill body parts last h none =
    let whole = h.whole in
    let start = h.start in
    let main = h.main in
    let at : parts.start + last.announced ≡ parts.main = omega arith in
    ap (λ n. drop n body) at

main_fills : (body : List ℕ) (parts : PartsView) (seen : Seen) (next size : ℕ) (pieces : List Piece) (last : Seen)
    → AreHeaders body (after seen record { fragment = Main size; next = next }) pieces last → next + (seen.announced + size) ≡ length body → Ends body parts last
    → Fills body parts seen.announced (placed_in (seen.announced + size) pieces)
main_fills body parts seen next size [] last h left ends =
    let main : parts.main ≡ length body - size = ends.main ∙ ap (λ (s : Seen). length body - s.main) (sym h) in
    let start : parts.start ≡ next = ends.start ∙ ap (λ (s : Seen). s.at) (sym h) in
    let at : parts.start + seen.announced ≡ parts.main = omega arith in
    ap (λ n. drop n body) at
main_fills body parts seen next size (piece ∷ pieces) last h left ends = let more = h.0 in absurd (omega arith)

next_fills : (body : List ℕ) (parts : PartsView) (seen : Seen) (piece : Piece) (pieces : List Piece) (last : Seen) → AreHeaders body seen (piece ∷ pieces) last → seen.main ≡ 0 → Ends body parts last
    → ((after seen piece).main ≡ 0 → Fills body parts (after seen piece).announced (placed_in (after seen piece).announced pieces)) → Fills body parts seen.announced (placed_in seen.announced (piece ∷ pieces))
unfolding NoMain
next_fills body parts seen piece pieces last h none ends ih = by piece.fragment refl
  where
    by : (fragment : Fragment) → piece.fragment ≡ fragment → Fills body parts seen.announced (placed_in seen.announced (piece ∷ pieces))
    by (Block block size) e = fragment_fills body parts seen.announced piece.fragment (placed_in (after seen piece).announced pieces) (rw e tt) (ih (rw e none))
    by Other e = fragment_fills body parts seen.announced piece.fragment (placed_in (after seen piece).announced pieces) (rw e tt) (ih (rw e none))
    by (Main size) e = rw e (main_fills body parts seen piece.next size pieces last (rw e at h.2) (rw e at h.1.left) ends)

headers_fill : (body : List ℕ) (parts : PartsView) (seen : Seen) (pieces : List Piece) (last : Seen) → AreHeaders body seen pieces last → seen.main ≡ 0 → Ends body parts last
    → Fills body parts seen.announced (placed_in seen.announced pieces)
headers_fill body parts seen [] last h none ends =
    let same : seen.announced ≡ last.announced = ap (λ (s : Seen). s.announced) h in
    let main : last.main ≡ 0 = ap (λ (s : Seen). s.main) (sym h) ∙ none in
    ap (λ n. drop (parts.start + n) body) same ∙ ends_fill body parts last ends main
headers_fill body parts seen (piece ∷ pieces) last h none ends =
    next_fills body parts seen piece pieces last h none ends (λ m. headers_fill body parts (after seen piece) pieces last h.2 m ends)

pub parts_fill : (body : List ℕ) (parts : PartsView) → HasParts body parts → drop parts.start body ≡ flat_map (block_part body parts) parts.blocks ++ main_bytes body parts
parts_fill body parts h =
    let start : parts.start ≡ parts.start + 0 = omega arith in
    let all = headers_fill body parts nothing_seen h.pieces h.last h.headers refl (record { whole = h.whole; start = h.start; main = h.main }) in
    ap (λ n. drop n body) start ∙ all ∙ ap (λ (bs : List Placed). flat_map (block_part body parts) bs ++ main_bytes body parts) (sym h.blocks)
