-- Reading fragments one after another.
use Rattle.std.proofs.Common.{◌≡◌, ℕ, zero, suc, ◌+◌, ◌-◌, ◌<◌, ◌≤◌, true, false, List, [], ◌++◌, length, Option, Some, None, Result, Ok, Err, refl, sym, ap, ◌∙◌, append_assoc, arith}
use Rattle.std.proofs.lemmas.List.{append-nil, length-append}
use Rattle.std.proofs.lemmas.List.Sums.{sum_by-append}
use Rattle.block_refs.specs.declared.block_ref.BlockRef.{BlockRef}
use Rattle.block_refs.specs.declared.fault.Flaw.{Flaw}
use Rattle.block_refs.specs.declared.fragment.Fragment.{Fragment}
use Rattle.block_refs.specs.declared.fragment.Fragment.TheVariants.{Block, Main, Other}
use Rattle.block_refs.specs.declared.fragment.Piece.{Piece}
use Rattle.block_refs.specs.declared.placed.Placed.{Placed}
use Rattle.block_refs.specs.declared.fragment.Seen.{Seen}
use Rattle.block_refs.specs.Fragment.{image_size, announced_by, piece_at}
use Rattle.block_refs.specs.Parts.{PartsView, nothing_seen, last_block, main_size, after, is_ended, placed_by, led_by, parts_from, parts_of}
use Rattle.block_refs.specs.Bytes.{image_total}
use Rattle.block_refs.specs.Standing.{IsFragment}
use Rattle.block_refs.proofs.PieceLemmas.{piece_found, piece_above}
use Rattle.block_refs.proofs.PartsLemmas.{ended_step, piece_step, flaw_step}

-- how many blocks there may be up to a block reference, since ids rise
abbrev ids_to : Option BlockRef → ℕ
ids_to None = 0
ids_to (Some block) = suc block.id

-- these blocks were read so far, and the rest is still read
pub record Reading (body : List ℕ) (seen : Seen) (blocks : List Placed) : Type 0 where
  pub fuel : ℕ
  pub enough : length body - seen.at < fuel
  pub room : seen.at + seen.announced ≤ length body
  pub main : seen.main ≤ seen.announced
  pub total : image_total blocks ≤ seen.announced
  pub few : length blocks ≤ ids_to seen.before
  pub most : ids_to seen.before ≤ 33
  pub so_far : led_by blocks (parts_from fuel body seen) ≡ parts_of body

led_by_none : (r : Result PartsView Flaw) → led_by [] r ≡ r
led_by_none (Ok parts) = refl
led_by_none (Err d) = refl

led_twice : (first then : List Placed) (r : Result PartsView Flaw) → led_by first (led_by then r) ≡ led_by (first ++ then) r
led_twice first then (Ok parts) = ap (λ (bs : List Placed). Ok record { start = parts.start; blocks = bs; main = parts.main }) (sym (append_assoc first then parts.blocks))
led_twice first then (Err d) = refl

pub begun : (body : List ℕ) → Reading body nothing_seen []
unfolding parts_of
begun body = record {
  fuel = suc (length body);
  enough = omega arith;
  room = omega arith;
  main = omega arith;
  total = omega arith;
  few = omega arith;
  most = omega arith;
  so_far = led_by_none (parts_from (suc (length body)) body nothing_seen);
}

-- no blocks were read so far
pub begun_with : (body : List ℕ) (blocks : List Placed) → blocks ≡ [] → Reading body nothing_seen blocks
begun_with body blocks none = rw none (begun body)

main_within : (before announced : ℕ) (fragment : Fragment) → before ≤ announced → main_size before fragment ≤ announced + announced_by fragment
main_within before announced (Block block size) h = omega arith
main_within before announced (Main size) h = omega arith
main_within before announced Other h = omega arith

total_by : (at : ℕ) (fragment : Fragment) → image_total (placed_by at fragment) ≤ announced_by fragment
total_by at (Block block size) = omega arith
total_by at (Main size) = omega arith
total_by at Other = omega arith

-- one more block at most, whose id is above those before it
few_by : (body : List ℕ) (at : ℕ) (before : Option BlockRef) (fragment : Fragment) (next place count : ℕ) → IsFragment body at before fragment next → count ≤ ids_to before → ids_to before ≤ 33
    → (count + length (placed_by place fragment) ≤ ids_to (last_block before fragment)) × (ids_to (last_block before fragment) ≤ 33)
few_by body at None (Block block size) next place count h few most = let greatest = h.greatest in (omega arith, omega arith)
few_by body at (Some last) (Block block size) next place count h few most = let greatest = h.greatest in let rises = h.rises in (omega arith, omega arith)
few_by body at before (Main size) next place count h few most = (omega arith, most)
few_by body at before Other next place count h few most = (omega arith, most)

-- there is room for the block of a fragment that stands there
pub has_room : (body : List ℕ) (seen : Seen) (blocks : List Placed) (piece : Piece) → Reading body seen blocks → piece_at body seen ≡ Ok piece → length blocks + length (placed_by seen.announced piece.fragment) ≤ 33
has_room body seen blocks piece h read =
    let stands = piece_found body seen piece read in
    let few = few_by body seen.at seen.before piece.fragment piece.next seen.announced (length blocks) stands.stands h.few h.most in
    let count = few.0 in
    let most = few.1 in
    omega arith

-- a fragment that stands there, and what was read
pub goes_on : (body : List ℕ) (seen : Seen) (blocks : List Placed) (piece : Piece) → Reading body seen blocks → is_ended body seen ≡ false → piece_at body seen ≡ Ok piece
    → Reading body (after seen piece) (blocks ++ placed_by seen.announced piece.fragment)
goes_on body seen blocks piece h e read = by h.fuel h.enough h.so_far
  where
    by : (fuel : ℕ) → length body - seen.at < fuel → led_by blocks (parts_from fuel body seen) ≡ parts_of body
        → Reading body (after seen piece) (blocks ++ placed_by seen.announced piece.fragment)
    by zero enough so_far = absurd (omega arith)
    by (suc more) enough so_far =
        let placed = placed_by seen.announced piece.fragment in
        let stands = piece_found body seen piece read in
        let above = piece_above body seen piece stands in
        let fits = stands.fits in
        let images : image_total placed ≤ announced_by piece.fragment = total_by seen.announced piece.fragment in
        let all : image_total (blocks ++ placed) ≡ image_total blocks + image_total placed = sum_by-append (λ p. image_size p.block) blocks placed in
        let total = h.total in
        let few = few_by body seen.at seen.before piece.fragment piece.next seen.announced (length blocks) stands.stands h.few h.most in
        let count : length (blocks ++ placed) ≡ length blocks + length placed = length-append blocks placed in
        let added = few.0 in
        record {
          fuel = more;
          enough = omega arith;
          room = fits;
          main = main_within seen.main seen.announced piece.fragment h.main;
          total = omega arith;
          few = omega arith;
          most = few.1;
          so_far = sym (led_twice blocks placed (parts_from more body (after seen piece))) ∙ ap (led_by blocks) (sym (piece_step body more seen piece e read)) ∙ so_far;
        }

pub went_on : (body : List ℕ) (seen : Seen) (blocks : List Placed) (piece : Piece) (next : Seen) (items : List Placed) → Reading body seen blocks → is_ended body seen ≡ false
    → piece_at body seen ≡ Ok piece → next ≡ after seen piece → items ≡ blocks ++ placed_by seen.announced piece.fragment → Reading body next items
went_on body seen blocks piece next items h e read n i = rw (n, i) (goes_on body seen blocks piece h e read)

pub moves : (body : List ℕ) (seen : Seen) (piece : Piece) (next : Seen) → piece_at body seen ≡ Ok piece → next ≡ after seen piece → length body - next.at < length body - seen.at
moves body seen piece next read n =
    let stands = piece_found body seen piece read in
    let above = piece_above body seen piece stands in
    let fits = stands.fits in
    rw n (omega arith)

-- the headers end there
pub ends : (body : List ℕ) (seen : Seen) (blocks : List Placed) → Reading body seen blocks → is_ended body seen ≡ true
    → parts_of body ≡ Ok record { start = seen.at; blocks = blocks; main = (seen.at + seen.announced) - seen.main }
ends body seen blocks h e = by h.fuel h.enough h.so_far
  where
    by : (fuel : ℕ) → length body - seen.at < fuel → led_by blocks (parts_from fuel body seen) ≡ parts_of body
        → parts_of body ≡ Ok record { start = seen.at; blocks = blocks; main = (seen.at + seen.announced) - seen.main }
    by zero enough so_far = absurd (omega arith)
    by (suc more) enough so_far =
        sym so_far ∙ ap (led_by blocks) (ended_step body more seen e)
        ∙ ap (λ (bs : List Placed). Ok record { start = seen.at; blocks = bs; main = (seen.at + seen.announced) - seen.main }) (append-nil blocks)

-- no fragment stands there
pub stops : (body : List ℕ) (seen : Seen) (blocks : List Placed) (d : Flaw) → Reading body seen blocks → is_ended body seen ≡ false → piece_at body seen ≡ Err d → parts_of body ≡ Err d
stops body seen blocks d h e read = by h.fuel h.enough h.so_far
  where
    by : (fuel : ℕ) → length body - seen.at < fuel → led_by blocks (parts_from fuel body seen) ≡ parts_of body → parts_of body ≡ Err d
    by zero enough so_far = absurd (omega arith)
    by (suc more) enough so_far = sym so_far ∙ ap (led_by blocks) (flaw_step body more seen d e read)

pub ruleset reading_steps = (begun_with)
