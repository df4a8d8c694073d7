-- Bodies that are written are read again.
use Rattle.std.proofs.Common.{◌≡◌, inl, inr, ℕ, ◌+◌, ◌<◌, ◌≤◌, ◌^◌, Bool, true, false, eqb, ltb, List, [], ◌∷◌, ◌++◌, length, take, drop, Option, Some, None, Ok, refl, sym, ap, subst, ◌∙◌, arith, append_assoc, length-append}
use Rattle.std.specs.Prelude.{is_some, map}
use Rattle.std.specs.List.{flat_map}
use Rattle.std.proofs.lemmas.Bool.{eqb-true, ltb-true}
use Rattle.std.proofs.lemmas.Bool.Decides.{nat_tests}
use Rattle.std.proofs.lemmas.List.{append-nil, drop_at, take_at}
use Rattle.layout.specs.declared.value.Value.{Value}
use Rattle.layout.specs.declared.value.Value.TheVariants.{Byte, Word}
use Rattle.layout.specs.Readers.{u8_at, u32_at}
use Rattle.layout.specs.Values.{number as told}
use Rattle.block_refs.specs.declared.block_ref.BlockRef.{BlockRef}
use Rattle.block_refs.specs.declared.block_ref.ImageRef.{ImageRef}
use Rattle.block_refs.specs.declared.fragment.Fragment.TheVariants.{Block, Main}
use Rattle.block_refs.specs.declared.fragment.Piece.{Piece}
use Rattle.block_refs.specs.declared.fragment.Seen.{Seen}
use Rattle.block_refs.specs.declared.placed.Placed.{Placed}
use Rattle.block_refs.specs.Fragment.{image_size}
use Rattle.block_refs.specs.Parts.{PartsView, nothing_seen, after, placed_by, parts_of}
use Rattle.block_refs.specs.Standing.{IsMain}
use Rattle.block_refs.specs.Spelling.{AreHeaders, placed_in}
use Rattle.block_refs.specs.Written.{Written, flags_of, main_values, head_bytes, data_bytes, body_bytes, CanWrite, CanWriteAll, placed_from, heads_size, written_parts}
use Rattle.block_refs.specs.Bytes.{main_bytes, placed_bytes, stored_image}
use Rattle.block_refs.proofs.PartsLemmas.{parts_are}
use Rattle.layout_readers.proofs.RowLemmas.{length_row}
use Rattle.layout_readers.specs.Rows.{row_bytes as bytes_of}
use Rattle.block_refs.proofs.WrittenHeads.{row_at, says, image_room, There, there_is, kept_of, head_is, head_fits, head_size, stored_size}

-- headers that were laid, from what was seen on
record Laid (body : List ℕ) (seen : Seen) (blocks : List Written) (main : List ℕ) : Type 0 where
  pieces : List Piece
  last : Seen
  headers : AreHeaders body seen pieces last
  whole : last.at + last.announced ≡ length body
  start : last.at ≡ seen.at + heads_size blocks main
  size : last.main ≡ length main
  placed : placed_in seen.announced pieces ≡ placed_from seen.announced blocks

-- what stands behind the headers
abbrev behind_size : ℕ → List Written → List ℕ → ℕ
behind_size announced blocks main = announced + (length (flat_map data_bytes blocks) + length main)

abbrev main_piece : ℕ → ℕ → Piece
main_piece size next = record { fragment = Main size; next = next }

-- the header of the main bytes, of this width
main_by : (body : List ℕ) (seen : Seen) (main : List ℕ) (room : ℕ) → IsMain body seen.at (length main) (seen.at + room) → 0 < room → length (bytes_of (main_values (length main))) ≡ room → 0 < length main
    → length body ≡ seen.at + (room + behind_size seen.announced [] main) → seen.main ≡ 0 → Laid body seen [] main
main_by body seen main room is some size there total none =
    let piece = main_piece (length main) (seen.at + room) in
    record {
      pieces = piece ∷ [];
      last = after seen piece;
      headers = (omega (arith, total, some), record { stands = is; fits = omega (arith, total); left = omega (arith, total) }, refl);
      whole = omega (arith, total);
      start = omega (arith, size);
      size = refl;
      placed = refl;
    }

main_laid : (main front rest body : List ℕ) (seen : Seen) → body ≡ front ++ (bytes_of (main_values (length main)) ++ rest) → length rest ≡ behind_size seen.announced [] main → length front ≡ seen.at → seen.main ≡ 0
    → length main < 2 ^ 32 → Laid body seen [] main
main_laid main front rest body seen e left at none few = none_by (eqb (length main) 0) refl
  where
    total : (vs : List Value) → main_values (length main) ≡ vs → length body ≡ seen.at + (length (bytes_of vs) + behind_size seen.announced [] main)
    total vs same =
        let row : length (bytes_of (main_values (length main))) ≡ length (bytes_of vs) = ap (λ (x : List Value). length (bytes_of x)) same in
        let all = ap length e ∙ length-append front (bytes_of (main_values (length main)) ++ rest) in
        let inner = length-append (bytes_of (main_values (length main))) rest in
        omega (arith, all, inner, row, left, at)

    laid_as : (vs : List Value) → main_values (length main) ≡ vs → body ≡ front ++ (bytes_of (vs ++ []) ++ rest)
    laid_as vs same = e ∙ ap (λ (x : List Value). front ++ (bytes_of x ++ rest)) (same ∙ sym (append-nil vs))

    byte_at : (v w : ℕ) → main_values (length main) ≡ Byte v ∷ Byte w ∷ [] → v < 2 ^ 8 → w < 2 ^ 8 → (u8_at seen.at body ≡ v) × (u8_at (seen.at + 1) body ≡ w)
    byte_at v w same fv fw =
        let a0 : seen.at ≡ length front + 0 = omega (arith, at) in
        let a1 : seen.at + 1 ≡ length front + (1 + 0) = omega (arith, at) in
        let laid = laid_as (Byte v ∷ Byte w ∷ []) same in
        (ap told (row_at front rest body [] (Byte v) (Byte w ∷ []) seen.at laid tt fv a0), ap told (row_at front rest body (Byte v ∷ []) (Byte w) [] (seen.at + 1) laid (fv, tt) fw a1))

    word_at : (v w : ℕ) → main_values (length main) ≡ Byte v ∷ Word w ∷ [] → v < 2 ^ 8 → w < 2 ^ 32 → (u8_at seen.at body ≡ v) × (u32_at (seen.at + 1) body ≡ w)
    word_at v w same fv fw =
        let a0 : seen.at ≡ length front + 0 = omega (arith, at) in
        let a1 : seen.at + 1 ≡ length front + (1 + 0) = omega (arith, at) in
        let laid = laid_as (Byte v ∷ Word w ∷ []) same in
        (ap told (row_at front rest body [] (Byte v) (Word w ∷ []) seen.at laid tt fv a0), ap told (row_at front rest body (Byte v ∷ []) (Word w) [] (seen.at + 1) laid (fv, tt) fw a1))

    short_by : (b : Bool) → ltb (length main) 256 ≡ b → eqb (length main) 0 ≡ false → Laid body seen [] main
    short_by true small some =
        let same : main_values (length main) ≡ Byte 255 ∷ Byte (length main) ∷ [] = rw (some, small) refl in
        let fits : length main < 2 ^ 8 = ltb-true _ _ small in
        let there = byte_at 255 (length main) same (omega arith) fits in
        let size : length (bytes_of (main_values (length main))) ≡ 2 = ap (λ (x : List Value). length (bytes_of x)) same ∙ length_row (Byte 255 ∷ Byte (length main) ∷ []) (omega arith, (fits, tt)) in
        let all = total (main_values (length main)) refl in
        main_by body seen main 2 (inl (there.0, sym there.1, refl)) (omega arith) size (grind (arith, nat_tests, some)) (omega (arith, all, size)) none
    short_by false large some =
        let same : main_values (length main) ≡ Byte 254 ∷ Word (length main) ∷ [] = rw (some, large) refl in
        let there = word_at 254 (length main) same (omega arith) few in
        let size : length (bytes_of (main_values (length main))) ≡ 5 = ap (λ (x : List Value). length (bytes_of x)) same ∙ length_row (Byte 254 ∷ Word (length main) ∷ []) (omega arith, (few, tt)) in
        let all = total (main_values (length main)) refl in
        main_by body seen main 5 (inr (there.0, sym there.1, refl)) (omega arith) size (grind (arith, nat_tests, some)) (omega (arith, all, size)) none

    none_by : (b : Bool) → eqb (length main) 0 ≡ b → Laid body seen [] main
    none_by true zero =
        let empty : length main ≡ 0 = eqb-true _ _ zero in
        let same : main_values (length main) ≡ [] = rw zero refl in
        let size : length (bytes_of (main_values (length main))) ≡ 0 = ap (λ (x : List Value). length (bytes_of x)) same in
        let all = total (main_values (length main)) refl in
        record {
          pieces = [];
          last = seen;
          headers = refl;
          whole = omega (arith, all, size, empty);
          start = omega (arith, size);
          size = omega (arith, none, empty);
          placed = refl;
        }
    none_by false some = short_by (ltb (length main) 256) refl some

-- ---- blocks one behind another

abbrev block_piece : ℕ → Written → Piece
block_piece next w = record { fragment = Block w.block (length w.bytes); next = next }

kept_size : (w : Written) → CanWrite w → length w.image ≡ image_size w.block
kept_size w can = by w.block.image refl (stored_size w.block.image w.image can.image)
  where
    by : (image : Option ImageRef) → w.block.image ≡ image → length w.image ≡ kept_of w.block.image → length w.image ≡ image_size w.block
    by None e size = size ∙ rw e refl
    by (Some image) e size = size ∙ rw e refl

-- where a block is placed, and those behind it
placed_step : (announced : ℕ) (block : BlockRef) (kept size : ℕ) (more : List Placed) (ws : List Written) → kept ≡ image_size block → more ≡ placed_from (announced + (image_size block + size)) ws
    → placed_by announced (Block block size) ++ more ≡ record { block = block; image_at = announced; at = announced + kept; size = size } ∷ placed_from (announced + (kept + size)) ws
placed_step announced block kept size more ws e same = rw (e, same) refl

laid : (blocks : List Written) (main front rest body : List ℕ) (seen : Seen) → body ≡ front ++ (flat_map head_bytes blocks ++ (bytes_of (main_values (length main)) ++ rest))
    → length rest ≡ behind_size seen.announced blocks main → length front ≡ seen.at → seen.main ≡ 0 → CanWriteAll seen.before blocks → length main < 2 ^ 32 → Laid body seen blocks main
laid [] main front rest body seen e left at none can few = main_laid main front rest body seen e left at none few
laid (w ∷ ws) main front rest body seen e left at none can few =
    let heads : List ℕ = flat_map head_bytes ws in
    let tail : List ℕ = bytes_of (main_values (length main)) ++ rest in
    let room : length (head_bytes w) ≡ 20 + image_room w.block.image = head_size w can.0 can.2 in
    let kept = kept_size w can.0 in
    let next : ℕ = seen.at + 20 + image_room w.block.image in
    let piece : Piece = block_piece next w in
    let first : body ≡ front ++ (head_bytes w ++ (heads ++ tail)) = e ∙ simp append_assoc in
    let rest_of : body ≡ (front ++ head_bytes w) ++ (heads ++ tail) = first ∙ sym (append_assoc front (head_bytes w) (heads ++ tail)) in
    let grown : length (flat_map data_bytes (w ∷ ws)) ≡ length w.image + length w.bytes + length (flat_map data_bytes ws) =
    length-append (w.image ++ w.bytes) (flat_map data_bytes ws) ∙ ap (λ (n : ℕ). n + length (flat_map data_bytes ws)) (length-append w.image w.bytes) in
    let total = ap length first ∙ length-append front (head_bytes w ++ (heads ++ tail)) in
    let inner = length-append (head_bytes w) (heads ++ tail) in
    let outer = length-append heads tail in
    let end = length-append (bytes_of (main_values (length main))) rest in
    let say = says w.block.name.fork (is_some w.block.image) (ltb 0 (length w.bytes)) w.block.will_init in
    let there0 = there_is w.block.image front (heads ++ tail) body w.block.id (flags_of w) (length w.bytes) w.block.name.rel w.block.name.block first (head_fits w can.0 can.2) in
    let there : There body seen.at w.block.id (flags_of w) (length w.bytes) w.block.image w.block.name.rel w.block.name.block =
    subst (λ (n : ℕ). There body n w.block.id (flags_of w) (length w.bytes) w.block.image w.block.name.rel w.block.name.block) at there0 in
    let within : next ≤ length body = omega (arith, total, inner, room, at) in
    let stands = head_is body seen.at seen.before w.block (length w.bytes) (flags_of w) w.image there say can.0.image can.1 can.2 within in
    let l = laid ws main (front ++ head_bytes w) rest body (after seen piece) rest_of (omega (arith, left, grown, kept)) (length-append front (head_bytes w) ∙ omega (arith, room, at)) none can.3 few in
    let size : length (flat_map head_bytes (w ∷ ws)) ≡ length (head_bytes w) + length heads = length-append (head_bytes w) heads in
    let start = l.start in
    record {
      pieces = piece ∷ l.pieces;
      last = l.last;
      headers = (omega (arith, total, inner, room, at, outer, end, left, grown), record { stands = stands; fits = omega (arith, total, inner, room, at, outer, end, left, grown, kept); left = tt }, l.headers);
      whole = l.whole;
      start = omega (arith, start, size, room);
      size = l.size;
      placed = placed_step seen.announced w.block (length w.image) (length w.bytes) (placed_in (seen.announced + (image_size w.block + length w.bytes)) l.pieces) ws kept l.placed;
    }

pub written_read : (blocks : List Written) (main : List ℕ) → CanWriteAll None blocks → length main < 2 ^ 32 → parts_of (body_bytes blocks main) ≡ Ok (written_parts blocks main)
written_read blocks main can few =
    let body = body_bytes blocks main in
    let rest : List ℕ = flat_map data_bytes blocks ++ main in
    let l = laid blocks main [] rest body nothing_seen refl (omega (arith, length-append (flat_map data_bytes blocks) main)) refl refl can few in
    let start = l.start in
    let size = l.size in
    let all = length-append (flat_map head_bytes blocks) (bytes_of (main_values (length main)) ++ rest) in
    let inner = length-append (bytes_of (main_values (length main))) rest in
    let last = length-append (flat_map data_bytes blocks) main in
    parts_are body (written_parts blocks main) (record {
      pieces = l.pieces;
      last = l.last;
      headers = l.headers;
      whole = l.whole;
      start = omega (arith, start);
      blocks = sym l.placed;
      main = omega (arith, size, all, inner, last);
    })

-- ---- what is told of the blocks

-- the images and bytes from a place on
record Told (body : List ℕ) (parts : PartsView) (blocks : List Written) (placed : List Placed) : Type 0 where
  images : map (stored_image body parts) placed ≡ map (λ (w : Written). w.image) blocks
  bytes : map (placed_bytes body parts) placed ≡ map (λ (w : Written). w.bytes) blocks

told_from : (blocks : List Written) (before : Option BlockRef) (at : ℕ) (front rest body : List ℕ) (parts : PartsView) → CanWriteAll before blocks → body ≡ front ++ (flat_map data_bytes blocks ++ rest)
    → length front ≡ parts.start + at → Told body parts blocks (placed_from at blocks)
told_from [] before at front rest body parts can e there = record { images = refl; bytes = refl }
told_from (w ∷ ws) before at front rest body parts can e there =
    let more : List ℕ = flat_map data_bytes ws ++ rest in
    let kept = kept_size w can.0 in
    let first : body ≡ front ++ (w.image ++ (w.bytes ++ more)) = e ∙ simp append_assoc in
    let second : body ≡ (front ++ w.image) ++ (w.bytes ++ more) = first ∙ sym (append_assoc front w.image (w.bytes ++ more)) in
    let third : body ≡ (front ++ (w.image ++ w.bytes)) ++ more = first ∙ simp append_assoc in
    let image : take (image_size w.block) (drop (parts.start + at) body) ≡ w.image =
    ap (λ (b : List ℕ). take (image_size w.block) (drop (parts.start + at) b)) first ∙ ap (take (image_size w.block)) (drop_at front (w.image ++ (w.bytes ++ more)) (parts.start + at) there)
    ∙ take_at w.image (w.bytes ++ more) (image_size w.block) kept in
    let bytes_place : length (front ++ w.image) ≡ parts.start + (at + length w.image) = length-append front w.image ∙ omega (arith, there) in
    let bytes : take (length w.bytes) (drop (parts.start + (at + length w.image)) body) ≡ w.bytes =
    ap (λ (b : List ℕ). take (length w.bytes) (drop (parts.start + (at + length w.image)) b)) second
    ∙ ap (take (length w.bytes)) (drop_at (front ++ w.image) (w.bytes ++ more) (parts.start + (at + length w.image)) bytes_place) ∙ take_at w.bytes more (length w.bytes) refl in
    let next : length (front ++ (w.image ++ w.bytes)) ≡ parts.start + (at + (length w.image + length w.bytes)) =
    length-append front (w.image ++ w.bytes) ∙ ap (λ (n : ℕ). length front + n) (length-append w.image w.bytes) ∙ omega (arith, there) in
    let others = told_from ws (Some w.block) (at + (length w.image + length w.bytes)) (front ++ (w.image ++ w.bytes)) rest body parts can.3 third next in
    record {
      images = ap (λ (x : List ℕ). x ∷ map (stored_image body parts) (placed_from (at + (length w.image + length w.bytes)) ws)) image ∙ ap (λ (xs : List (List ℕ)). w.image ∷ xs) others.images;
      bytes = ap (λ (x : List ℕ). x ∷ map (placed_bytes body parts) (placed_from (at + (length w.image + length w.bytes)) ws)) bytes ∙ ap (λ (xs : List (List ℕ)). w.bytes ∷ xs) others.bytes;
    }

told_again : (blocks : List Written) (main : List ℕ) → CanWriteAll None blocks → Told (body_bytes blocks main) (written_parts blocks main) blocks (placed_from 0 blocks)
told_again blocks main can =
    let heads : List ℕ = flat_map head_bytes blocks in
    let row : List ℕ = bytes_of (main_values (length main)) in
    told_from blocks None 0 (heads ++ row) main (body_bytes blocks main) (written_parts blocks main) can (sym (append_assoc heads row (flat_map data_bytes blocks ++ main))) (length-append heads row ∙ omega arith)

pub images_again : (blocks : List Written) (main : List ℕ) → CanWriteAll None blocks → map (stored_image (body_bytes blocks main) (written_parts blocks main)) (placed_from 0 blocks) ≡ map (λ (w : Written). w.image) blocks
images_again blocks main can = (told_again blocks main can).images

pub bytes_again : (blocks : List Written) (main : List ℕ) → CanWriteAll None blocks → map (placed_bytes (body_bytes blocks main) (written_parts blocks main)) (placed_from 0 blocks) ≡ map (λ (w : Written). w.bytes) blocks
bytes_again blocks main can = (told_again blocks main can).bytes

pub main_again : (blocks : List Written) (main : List ℕ) → main_bytes (body_bytes blocks main) (written_parts blocks main) ≡ main
main_again blocks main =
    let heads : List ℕ = flat_map head_bytes blocks in
    let row : List ℕ = bytes_of (main_values (length main)) in
    let rest : List ℕ = flat_map data_bytes blocks in
    let size : length (heads ++ (row ++ rest)) ≡ heads_size blocks main + length rest = length-append heads (row ++ rest) ∙ ap (λ (n : ℕ). length heads + n) (length-append row rest) ∙ omega arith in
    let all : body_bytes blocks main ≡ (heads ++ (row ++ rest)) ++ main = simp append_assoc in
    ap (drop (heads_size blocks main + length rest)) all ∙ drop_at (heads ++ (row ++ rest)) main (heads_size blocks main + length rest) size

pub references_again : (at : ℕ) (blocks : List Written) → map (λ (p : Placed). p.block) (placed_from at blocks) ≡ map (λ (w : Written). w.block) blocks
references_again at [] = refl
references_again at (w ∷ ws) = ap (λ (bs : List BlockRef). w.block ∷ bs) (references_again (at + (length w.image + length w.bytes)) ws)
