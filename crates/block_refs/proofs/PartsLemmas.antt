-- A body is read as the parts that it has, or as its first flaw.
use Rattle.std.proofs.Common.{◌≡◌, ℕ, zero, suc, ◌+◌, ◌-◌, ◌<◌, ◌≤◌, true, false, inl, inr, List, [], ◌∷◌, ◌++◌, length, Result, Ok, Err, refl, ap, subst, ◌∙◌, arith}
use Rattle.std.proofs.lemmas.Bool.{eqb-true}
use Rattle.std.proofs.lemmas.Bool.Decides.{nat_tests}
use Rattle.block_refs.specs.declared.fault.Flaw.{Flaw}
use Rattle.block_refs.specs.declared.fragment.Piece.{Piece}
use Rattle.block_refs.specs.declared.placed.Placed.{Placed}
use Rattle.block_refs.specs.declared.fragment.Seen.{Seen}
use Rattle.block_refs.specs.Fragment.{given, piece_at}
use Rattle.block_refs.specs.Parts.{PartsView, nothing_seen, after, is_ended, placed_by, ended_at, with_blocks, led_by, parts_from, parts_of}
use Rattle.block_refs.specs.Spelling.{IsPiece, IsFlaw, AreHeaders, placed_in, HasParts, IsFirstFlaw}
use Rattle.block_refs.proofs.Steps.{either_way, given_ok, given_err}
use Rattle.block_refs.proofs.PieceLemmas.{piece_found, piece_again, piece_above, flaw_here, flaw_again}

abbrev known : PartsView → Result PartsView Flaw
known parts = Ok parts

parts_is : (x y : PartsView) → known x ≡ known y → x ≡ y
parts_is x y e = cc

led_ok : (blocks : List Placed) (r : Result PartsView Flaw) (parts : PartsView) → led_by blocks r ≡ Ok parts → (rest : PartsView) × (r ≡ Ok rest) × (with_blocks blocks rest ≡ parts)
led_ok blocks (Ok rest) parts e = (rest, refl, parts_is (with_blocks blocks rest) parts e)
led_ok blocks (Err d) parts e = absurd cc

led_err : (blocks : List Placed) (r : Result PartsView Flaw) (d : Flaw) → led_by blocks r ≡ Err d → r ≡ Err d
led_err blocks (Ok rest) d e = absurd cc
led_err blocks (Err g) d e = e

pub ended_step : (body : List ℕ) (more : ℕ) (seen : Seen) → is_ended body seen ≡ true → parts_from (suc more) body seen ≡ Ok (ended_at seen)
unfolding parts_from
ended_step body more seen e = rw e refl

pub piece_step : (body : List ℕ) (more : ℕ) (seen : Seen) (piece : Piece) → is_ended body seen ≡ false → piece_at body seen ≡ Ok piece
    → parts_from (suc more) body seen ≡ led_by (placed_by seen.announced piece.fragment) (parts_from more body (after seen piece))
unfolding parts_from
piece_step body more seen piece e h = rw (e, h) refl

pub flaw_step : (body : List ℕ) (more : ℕ) (seen : Seen) (d : Flaw) → is_ended body seen ≡ false → piece_at body seen ≡ Err d → parts_from (suc more) body seen ≡ Err d
unfolding parts_from
flaw_step body more seen d e h = rw (e, h) refl

-- ---- what is read is so spelled

record Found (body : List ℕ) (seen : Seen) (parts : PartsView) : Type 0 where
  pieces : List Piece
  last : Seen
  headers : AreHeaders body seen pieces last
  whole : last.at + last.announced ≡ length body
  start : parts.start ≡ last.at
  blocks : parts.blocks ≡ placed_in seen.announced pieces
  main : parts.main ≡ length body - last.main

ended_found : (body : List ℕ) (seen : Seen) → seen.at + seen.announced ≤ length body → is_ended body seen ≡ true → Found body seen (ended_at seen)
ended_found body seen room e =
    let left : seen.announced ≡ length body - seen.at = eqb-true _ _ e in
    let whole : seen.at + seen.announced ≡ length body = omega arith in
    record { pieces = []; last = seen; headers = refl; whole = whole; start = refl; blocks = refl; main = ap (λ n. n - seen.main) whole }

not_ended : (body : List ℕ) (seen : Seen) → seen.at + seen.announced ≤ length body → is_ended body seen ≡ false → seen.at + seen.announced < length body
not_ended body seen room e = grind (arith, nat_tests)

piece_room : (body : List ℕ) (seen : Seen) (piece : Piece) → IsPiece body seen piece → (after seen piece).at + (after seen piece).announced ≤ length body
piece_room body seen piece h = h.fits

parts_found : (n : ℕ) (body : List ℕ) (seen : Seen) (parts : PartsView) → seen.at + seen.announced ≤ length body → parts_from n body seen ≡ Ok parts → Found body seen parts
unfolding parts_from
parts_found zero body seen parts room e = absurd cc
parts_found (suc more) body seen parts room e =
    elim (either_way (is_ended body seen) (Ok (ended_at seen)) (given (piece_at body seen) (λ piece. led_by (placed_by seen.announced piece.fragment) (parts_from more body (after seen piece)))) (Ok parts) e) [
      | inl a ↦ subst (λ p. Found body seen p) (parts_is (ended_at seen) parts a.1) (ended_found body seen room a.0)
      | inr a ↦
          let g = given_ok (λ piece. led_by (placed_by seen.announced piece.fragment) (parts_from more body (after seen piece))) (piece_at body seen) parts a.1 in
          let piece = g.0 in
          let stands = piece_found body seen piece g.1 in
          let k = led_ok (placed_by seen.announced piece.fragment) (parts_from more body (after seen piece)) parts g.2 in
          let rest = parts_found more body (after seen piece) k.0 (piece_room body seen piece stands) k.1 in
          subst (λ p. Found body seen p) k.2 (record {
            pieces = piece ∷ rest.pieces;
            last = rest.last;
            headers = (not_ended body seen room a.0, stands, rest.headers);
            whole = rest.whole;
            start = rest.start;
            blocks = ap (λ (bs : List Placed). placed_by seen.announced piece.fragment ++ bs) rest.blocks;
            main = rest.main;
          })
    ]

pub has_parts : (body : List ℕ) (parts : PartsView) → parts_of body ≡ Ok parts → HasParts body parts
unfolding parts_of
has_parts body parts e =
    let f = parts_found (suc (length body)) body nothing_seen parts (omega arith) e in
    record { pieces = f.pieces; last = f.last; headers = f.headers; whole = f.whole; start = f.start; blocks = f.blocks; main = f.main }

-- ---- what is so spelled is read

-- the parts of these headers
abbrev laid : List ℕ → Seen → List Piece → Seen → PartsView
laid body seen pieces last = record { start = last.at; blocks = placed_in seen.announced pieces; main = length body - last.main }

is_more : (body : List ℕ) (seen : Seen) → seen.at + seen.announced < length body → is_ended body seen ≡ false
is_more body seen h = grind (arith, nat_tests)

ended_again : (body : List ℕ) (more : ℕ) (seen : Seen) → seen.at + seen.announced ≡ length body → parts_from (suc more) body seen ≡ Ok (laid body seen [] seen)
ended_again body more seen whole =
    let ended : is_ended body seen ≡ true = grind (arith, nat_tests) in
    ended_step body more seen ended ∙ ap (λ n. known record { start = seen.at; blocks = []; main = n - seen.main }) whole

parts_again : (n : ℕ) (body : List ℕ) (seen : Seen) (pieces : List Piece) (last : Seen) → AreHeaders body seen pieces last → last.at + last.announced ≡ length body
    → length body - seen.at < n → parts_from n body seen ≡ Ok (laid body seen pieces last)
parts_again zero body seen pieces last h whole enough = absurd (omega arith)
parts_again (suc more) body seen [] last h whole enough = subst (λ (s : Seen). s.at + s.announced ≡ length body → parts_from (suc more) body seen ≡ Ok (laid body seen [] s)) h (ended_again body more seen) whole
parts_again (suc more) body seen (piece ∷ pieces) last h whole enough =
    let above = piece_above body seen piece h.1 in
    let there = h.0 in
    let rest = parts_again more body (after seen piece) pieces last h.2 whole (omega arith) in
    piece_step body more seen piece (is_more body seen h.0) (piece_again body seen piece h.1) ∙ ap (led_by (placed_by seen.announced piece.fragment)) rest

pub parts_are : (body : List ℕ) (parts : PartsView) → HasParts body parts → parts_of body ≡ Ok parts
unfolding parts_of
parts_are body parts h =
    let start = h.start in
    let blocks = h.blocks in
    let main = h.main in
    parts_again (suc (length body)) body nothing_seen h.pieces h.last h.headers h.whole (omega arith) ∙ rw (← start, ← blocks, ← main) refl

-- ---- the first flaw

record Flawed (body : List ℕ) (seen : Seen) (d : Flaw) : Type 0 where
  pieces : List Piece
  last : Seen
  headers : AreHeaders body seen pieces last
  more : last.at + last.announced < length body
  here : IsFlaw body last d

flawed_found : (n : ℕ) (body : List ℕ) (seen : Seen) (d : Flaw) → seen.at + seen.announced ≤ length body → length body - seen.at < n → parts_from n body seen ≡ Err d → Flawed body seen d
unfolding parts_from
flawed_found zero body seen d room enough e = absurd (omega arith)
flawed_found (suc more) body seen d room enough e =
    elim (either_way (is_ended body seen) (Ok (ended_at seen)) (given (piece_at body seen) (λ piece. led_by (placed_by seen.announced piece.fragment) (parts_from more body (after seen piece)))) (Err d) e) [
      | inl a ↦ absurd cc
      | inr a ↦ elim (given_err (λ piece. led_by (placed_by seen.announced piece.fragment) (parts_from more body (after seen piece))) (piece_at body seen) d a.1) [
        | inl b ↦ record { pieces = []; last = seen; headers = refl; more = not_ended body seen room a.0; here = flaw_here body seen d b }
        | inr b ↦
            let piece = b.0 in
            let stands = piece_found body seen piece b.1 in
            let above = piece_above body seen piece stands in
            let there = not_ended body seen room a.0 in
            let rest = flawed_found more body (after seen piece) d (piece_room body seen piece stands) (omega arith) (led_err (placed_by seen.announced piece.fragment) (parts_from more body (after seen piece)) d b.2) in
            record { pieces = piece ∷ rest.pieces; last = rest.last; headers = (there, stands, rest.headers); more = rest.more; here = rest.here }
      ]
    ]

pub first_flaw : (body : List ℕ) (d : Flaw) → parts_of body ≡ Err d → IsFirstFlaw body d
unfolding parts_of
first_flaw body d e =
    let f = flawed_found (suc (length body)) body nothing_seen d (omega arith) (omega arith) e in
    record { pieces = f.pieces; last = f.last; headers = f.headers; more = f.more; here = f.here }

flaw_ends : (body : List ℕ) (more : ℕ) (seen : Seen) (d : Flaw) → seen.at + seen.announced < length body → IsFlaw body seen d → parts_from (suc more) body seen ≡ Err d
flaw_ends body more seen d there here = flaw_step body more seen d (is_more body seen there) (flaw_again body seen d here)

flawed_again : (n : ℕ) (body : List ℕ) (seen : Seen) (pieces : List Piece) (last : Seen) (d : Flaw) → AreHeaders body seen pieces last → last.at + last.announced < length body → IsFlaw body last d
    → length body - seen.at < n → parts_from n body seen ≡ Err d
flawed_again zero body seen pieces last d h there here enough = absurd (omega arith)
flawed_again (suc more) body seen [] last d h there here enough =
    subst (λ (s : Seen). s.at + s.announced < length body → IsFlaw body s d → parts_from (suc more) body seen ≡ Err d) h (flaw_ends body more seen d) there here
flawed_again (suc more) body seen (piece ∷ pieces) last d h there here enough =
    let above = piece_above body seen piece h.1 in
    let begun = h.0 in
    let rest = flawed_again more body (after seen piece) pieces last d h.2 there here (omega arith) in
    piece_step body more seen piece (is_more body seen h.0) (piece_again body seen piece h.1) ∙ ap (led_by (placed_by seen.announced piece.fragment)) rest

pub flaw_is : (body : List ℕ) (d : Flaw) → IsFirstFlaw body d → parts_of body ≡ Err d
unfolding parts_of
flaw_is body d h = flawed_again (suc (length body)) body nothing_seen h.pieces h.last d h.headers h.more h.here (omega arith)

-- ---- one reading

pub one_reading : (body : List ℕ) (parts other : PartsView) → HasParts body parts → HasParts body other → parts ≡ other
one_reading body parts other h k = let a = parts_are body parts h in let b = parts_are body other k in cc

pub one_flaw : (body : List ℕ) (d other : Flaw) → IsFirstFlaw body d → IsFirstFlaw body other → d ≡ other
one_flaw body d other h k = let a = flaw_is body d h in let b = flaw_is body other k in cc

pub parts_or_flaw : (body : List ℕ) (parts : PartsView) (d : Flaw) → HasParts body parts → ¬ (IsFirstFlaw body d)
parts_or_flaw body parts d h k = let a = parts_are body parts h in let b = flaw_is body d k in absurd cc
