-- A fragment is read exactly where it stands, and else the flaw is that of the place.
use Rattle.std.proofs.Common.{◌≡◌, ℕ, ◌+◌, ◌≤◌, true, false, ltb, eqb, ◌⊎◌, inl, inr, List, length, Option, Some, None, Result, Ok, Err, refl, subst, ◌∙◌, arith}
use Rattle.std.proofs.lemmas.Bool.{ltb-false, le-ltb, eqb-true}
use Rattle.std.proofs.lemmas.Bool.Decides.{nat_tests}
use Rattle.layout.specs.Readers.{u8_at, u32_at}
use Rattle.block_refs.specs.declared.block_ref.BlockRef.{BlockRef}
use Rattle.block_refs.specs.declared.block_ref.ImageRef.{ImageRef}
use Rattle.block_refs.specs.declared.fault.Flaw.{Flaw}
use Rattle.block_refs.specs.declared.fault.Flaw.TheVariants as flaw
use Rattle.block_refs.specs.declared.fragment.Fragment.{Fragment}
use Rattle.block_refs.specs.declared.fragment.Fragment.TheVariants.{Block, Main, Other}
use Rattle.block_refs.specs.declared.fragment.Piece.{Piece}
use Rattle.block_refs.specs.declared.fragment.Seen.{Seen}
use Rattle.block_refs.specs.declared.header.Head.{Head}
use Rattle.block_refs.specs.declared.image.Image.{Image}
use Rattle.block_refs.specs.declared.image.Image.TheVariants.{Missing, Plain, Compressed}
use Rattle.block_refs.specs.Header.{head_at}
use Rattle.block_refs.specs.Fragment.{announced_by, piece_with, piece_by, block_piece, fixed, fragment_at, fits, checked, piece_at}
use Rattle.block_refs.specs.Standing.{IsHead, image_as, head_of, IsFragment}
use Rattle.block_refs.specs.Spelling.{IsLeft, IsPiece, IsCompressed, IsFlaw}
use Rattle.block_refs.proofs.Steps.{either_way, given_ok, given_err}
use Rattle.block_refs.proofs.HeadLemmas.{head_found, head_again, head_above}

abbrev answer : Piece → Result Piece Flaw
answer piece = Ok piece

ok_is : (x y : Piece) → answer x ≡ answer y → x ≡ y
ok_is x y e = cc

-- a piece of these parts
abbrev pub piece_of : Fragment → ℕ → Piece
piece_of fragment next = record { fragment = fragment; next = next }

-- what is known of a fragment that was read at an offset
pub record Stands (body : List ℕ) (at : ℕ) (before : Option BlockRef) (piece : Piece) : Type 0 where
  pub stands : IsFragment body at before piece.fragment piece.next
  pub within : piece.next ≤ length body

-- ---- block references

with_image : (head : Head) (image : Image) → head.image ≡ image
    → head ≡ record { id = head.id; name = head.name; will_init = head.will_init; image = image; size = head.size; next = head.next }
with_image head image e = rw (← e) refl

block_found : (body : List ℕ) (at : ℕ) (before : Option BlockRef) (piece : Piece) → block_piece at (head_at body at before) ≡ Ok piece → Stands body at before piece
block_found body at before piece e = by (head_at body at before) refl e
  where
    image_by : (head : Head) → IsHead body at before head → (image : Image) → head.image ≡ image → piece_by head image ≡ Ok piece → Stands body at before piece
    image_by head h Missing i e = subst (λ p. Stands body at before p) (ok_is (piece_with head None) piece e)
        (record { stands = subst (λ x. IsHead body at before x) (with_image head Missing i) h; within = h.within })
    image_by head h (Plain image) i e = subst (λ p. Stands body at before p) (ok_is (piece_with head (Some image)) piece e)
        (record { stands = subst (λ x. IsHead body at before x) (with_image head (Plain image) i) h; within = h.within })
    image_by head h Compressed i e = absurd cc

    by : (o : Option Head) → head_at body at before ≡ o → block_piece at o ≡ Ok piece → Stands body at before piece
    by None o e = absurd cc
    by (Some head) o e = image_by head (head_found body at before head o) head.image refl e

block_flawed : (body : List ℕ) (at : ℕ) (before : Option BlockRef) (id : ℕ) → block_piece at (head_at body at before) ≡ Err (flaw.Compressed id)
    → (head : Head) × IsHead body at before head × (head.image ≡ Compressed) × (head.id ≡ id)
block_flawed body at before id e = by (head_at body at before) refl e
  where
    image_by : (head : Head) → IsHead body at before head → (image : Image) → head.image ≡ image → piece_by head image ≡ Err (flaw.Compressed id)
        → (head : Head) × IsHead body at before head × (head.image ≡ Compressed) × (head.id ≡ id)
    image_by head h Missing i e = absurd cc
    image_by head h (Plain image) i e = absurd cc
    image_by head h Compressed i e = (head, h, i, cc)

    by : (o : Option Head) → head_at body at before ≡ o → block_piece at o ≡ Err (flaw.Compressed id)
        → (head : Head) × IsHead body at before head × (head.image ≡ Compressed) × (head.id ≡ id)
    by None o e = absurd cc
    by (Some head) o e = image_by head (head_found body at before head o) head.image refl e

block_bad : (body : List ℕ) (at : ℕ) (before : Option BlockRef) (offset : ℕ) → block_piece at (head_at body at before) ≡ Err (flaw.Bad offset) → offset ≡ at
block_bad body at before offset e = by (head_at body at before) e
  where
    image_by : (head : Head) (image : Image) → piece_by head image ≡ Err (flaw.Bad offset) → offset ≡ at
    image_by head Missing e = absurd cc
    image_by head (Plain image) e = absurd cc
    image_by head Compressed e = absurd cc

    by : (o : Option Head) → block_piece at o ≡ Err (flaw.Bad offset) → offset ≡ at
    by None e = cc
    by (Some head) e = image_by head head.image e

-- where the header of a block reference stands, it is what is read
head_route : (body : List ℕ) (at : ℕ) (before : Option BlockRef) (head : Head) → IsHead body at before head → fragment_at body at before ≡ piece_by head head.image
unfolding fragment_at
head_route body at before head h =
    let above = head_above body at before head h in
    let within = h.within in
    let id = h.id in
    let small = h.greatest in
    let there : ltb at (length body) ≡ true = grind (arith, nat_tests) in
    let no_short : eqb (u8_at at body) 255 ≡ false = grind (arith, nat_tests) in
    let no_long : eqb (u8_at at body) 254 ≡ false = grind (arith, nat_tests) in
    let no_origin : eqb (u8_at at body) 253 ≡ false = grind (arith, nat_tests) in
    let no_top : eqb (u8_at at body) 252 ≡ false = grind (arith, nat_tests) in
    rw (there, no_short, no_long, no_origin, no_top, head_again body at before head h) refl

block_again : (body : List ℕ) (at : ℕ) (before : Option BlockRef) (block : BlockRef) (size next : ℕ) → IsHead body at before (head_of block size next)
    → fragment_at body at before ≡ Ok (piece_of (Block block size) next)
block_again body at before block size next h = head_route body at before (head_of block size next) h ∙ by block.image refl
  where
    by : (image : Option ImageRef) → block.image ≡ image → piece_by (head_of block size next) (image_as image) ≡ Ok (piece_of (Block block size) next)
    by None e = rw (← e) refl
    by (Some image) e = rw (← e) refl

-- ---- the other fragments

fixed_found : (body : List ℕ) (at size : ℕ) (fragment : Fragment) (piece : Piece) → fixed body at size fragment ≡ Ok piece → (at + size ≤ length body) × (piece_of fragment (at + size) ≡ piece)
fixed_found body at size fragment piece e =
    elim (either_way (ltb (length body) (at + size)) (Err (flaw.Bad at)) (Ok (piece_of fragment (at + size))) (Ok piece) e) [
      | inl a ↦ absurd cc
      | inr a ↦ (ltb-false _ _ a.0, ok_is (piece_of fragment (at + size)) piece a.1)
    ]

fixed_flawed : (body : List ℕ) (at size : ℕ) (fragment : Fragment) (d : Flaw) → fixed body at size fragment ≡ Err d → d ≡ flaw.Bad at
fixed_flawed body at size fragment d e =
    elim (either_way (ltb (length body) (at + size)) (Err (flaw.Bad at)) (Ok (piece_of fragment (at + size))) (Err d) e) [
      | inl a ↦ cc
      | inr a ↦ absurd cc
    ]

fixed_again : (body : List ℕ) (at size : ℕ) (fragment : Fragment) → at + size ≤ length body → fixed body at size fragment ≡ Ok (piece_of fragment (at + size))
fixed_again body at size fragment h = rw (le-ltb (length body) (at + size) h) refl

-- ---- fragments

pub fragment_found : (body : List ℕ) (at : ℕ) (before : Option BlockRef) (piece : Piece) → fragment_at body at before ≡ Ok piece → Stands body at before piece
unfolding fragment_at
fragment_found body at before piece e =
    let id = u8_at at body in
    elim (either_way (ltb at (length body)) _ (Err (flaw.Bad at)) (Ok piece) e) [
      | inr a ↦ absurd cc
      | inl a ↦ elim (either_way (eqb id 255) (fixed body at 2 (Main (u8_at (at + 1) body))) _ (Ok piece) a.1) [
        | inl b ↦ let f = fixed_found body at 2 (Main (u8_at (at + 1) body)) piece b.1 in
            subst (λ p. Stands body at before p) f.1 (record { stands = inl (eqb-true _ _ b.0, refl, refl); within = f.0 })
        | inr b ↦ elim (either_way (eqb id 254) (fixed body at 5 (Main (u32_at (at + 1) body))) _ (Ok piece) b.1) [
          | inl c ↦ let f = fixed_found body at 5 (Main (u32_at (at + 1) body)) piece c.1 in
              subst (λ p. Stands body at before p) f.1 (record { stands = inr (eqb-true _ _ c.0, refl, refl); within = f.0 })
          | inr c ↦ elim (either_way (eqb id 253) (fixed body at 3 Other) _ (Ok piece) c.1) [
            | inl d ↦ let f = fixed_found body at 3 Other piece d.1 in
                subst (λ p. Stands body at before p) f.1 (record { stands = inl (eqb-true _ _ d.0, refl); within = f.0 })
            | inr d ↦ elim (either_way (eqb id 252) (fixed body at 5 Other) _ (Ok piece) d.1) [
              | inl g ↦ let f = fixed_found body at 5 Other piece g.1 in
                  subst (λ p. Stands body at before p) f.1 (record { stands = inr (eqb-true _ _ g.0, refl); within = f.0 })
              | inr g ↦ block_found body at before piece g.1
            ]
          ]
        ]
      ]
    ]

-- a flaw is that of a block reference, or a bad fragment
flaw_found : (body : List ℕ) (at : ℕ) (before : Option BlockRef) (d : Flaw) → fragment_at body at before ≡ Err d → (d ≡ flaw.Bad at) ⊎ (block_piece at (head_at body at before) ≡ Err d)
unfolding fragment_at
flaw_found body at before d e =
    let id = u8_at at body in
    elim (either_way (ltb at (length body)) _ (Err (flaw.Bad at)) (Err d) e) [
      | inr a ↦ inl cc
      | inl a ↦ elim (either_way (eqb id 255) (fixed body at 2 (Main (u8_at (at + 1) body))) _ (Err d) a.1) [
        | inl b ↦ inl (fixed_flawed body at 2 (Main (u8_at (at + 1) body)) d b.1)
        | inr b ↦ elim (either_way (eqb id 254) (fixed body at 5 (Main (u32_at (at + 1) body))) _ (Err d) b.1) [
          | inl c ↦ inl (fixed_flawed body at 5 (Main (u32_at (at + 1) body)) d c.1)
          | inr c ↦ elim (either_way (eqb id 253) (fixed body at 3 Other) _ (Err d) c.1) [
            | inl g ↦ inl (fixed_flawed body at 3 Other d g.1)
            | inr g ↦ elim (either_way (eqb id 252) (fixed body at 5 Other) _ (Err d) g.1) [
              | inl k ↦ inl (fixed_flawed body at 5 Other d k.1)
              | inr k ↦ inr k.1
            ]
          ]
        ]
      ]
    ]

pub fragment_above : (body : List ℕ) (at : ℕ) (before : Option BlockRef) (fragment : Fragment) (next : ℕ) → IsFragment body at before fragment next → at + 2 ≤ next
fragment_above body at before (Block block size) next h = let above = head_above body at before (head_of block size next) h in omega arith
fragment_above body at before (Main size) next (inl h) = let e = h.2 in omega arith
fragment_above body at before (Main size) next (inr h) = let e = h.2 in omega arith
fragment_above body at before Other next (inl h) = let e = h.1 in omega arith
fragment_above body at before Other next (inr h) = let e = h.1 in omega arith

pub fragment_again : (body : List ℕ) (at : ℕ) (before : Option BlockRef) (fragment : Fragment) (next : ℕ) → IsFragment body at before fragment next → next ≤ length body
    → fragment_at body at before ≡ Ok (piece_of fragment next)
unfolding fragment_at
fragment_again body at before (Block block size) next h within = block_again body at before block size next h
fragment_again body at before (Main size) next (inl h) within =
    let there : ltb at (length body) ≡ true = let e = h.2 in grind (arith, nat_tests) in
    rw (there, h.0, h.1, h.2, fixed_again body at 2 (Main (u8_at (at + 1) body)) (omega (arith, h.2, within))) refl
fragment_again body at before (Main size) next (inr h) within =
    let there : ltb at (length body) ≡ true = let e = h.2 in grind (arith, nat_tests) in
    rw (there, h.0, h.1, h.2, fixed_again body at 5 (Main (u32_at (at + 1) body)) (omega (arith, h.2, within))) refl
fragment_again body at before Other next (inl h) within =
    let there : ltb at (length body) ≡ true = let e = h.1 in grind (arith, nat_tests) in
    rw (there, h.0, h.1, fixed_again body at 3 Other (omega (arith, h.1, within))) refl
fragment_again body at before Other next (inr h) within =
    let there : ltb at (length body) ≡ true = let e = h.1 in grind (arith, nat_tests) in
    rw (there, h.0, h.1, fixed_again body at 5 Other (omega (arith, h.1, within))) refl

-- ---- pieces

-- what fits
record Fitting (body : List ℕ) (announced : ℕ) (fragment : Fragment) (next : ℕ) : Type 0 where
  fit : next + (announced + announced_by fragment) ≤ length body
  left : IsLeft body announced next fragment

fits_found : (body : List ℕ) (announced : ℕ) (fragment : Fragment) (next : ℕ) → next ≤ length body → fits body announced (piece_of fragment next) fragment ≡ true → Fitting body announced fragment next
fits_found body announced (Block block size) next within e = record { fit = grind (arith, nat_tests); left = tt }
fits_found body announced (Main size) next within e = record { fit = grind (arith, nat_tests); left = grind (arith, nat_tests) }
fits_found body announced Other next within e = record { fit = grind (arith, nat_tests); left = tt }

fits_again : (body : List ℕ) (announced : ℕ) (fragment : Fragment) (next : ℕ) → next + (announced + announced_by fragment) ≤ length body → IsLeft body announced next fragment
    → fits body announced (piece_of fragment next) fragment ≡ true
fits_again body announced (Block block size) next h left = grind (arith, nat_tests)
fits_again body announced (Main size) next h left = grind (arith, nat_tests)
fits_again body announced Other next h left = grind (arith, nat_tests)

pub piece_found : (body : List ℕ) (seen : Seen) (piece : Piece) → piece_at body seen ≡ Ok piece → IsPiece body seen piece
unfolding piece_at
piece_found body seen piece e =
    let a = given_ok (checked body seen) (fragment_at body seen.at seen.before) piece e in
    let f = fragment_found body seen.at seen.before a.0 a.1 in
    elim (either_way (fits body seen.announced a.0 a.0.fragment) (Ok a.0) (Err (flaw.Bad seen.at)) (Ok piece) a.2) [
      | inr b ↦ absurd cc
      | inl b ↦
          let k = fits_found body seen.announced a.0.fragment a.0.next f.within b.0 in
          subst (λ p. IsPiece body seen p) (ok_is a.0 piece b.1) (record { stands = f.stands; fits = k.fit; left = k.left })
    ]

pub piece_again : (body : List ℕ) (seen : Seen) (piece : Piece) → IsPiece body seen piece → piece_at body seen ≡ Ok piece
unfolding piece_at
piece_again body seen piece h =
    let fit = h.fits in
    let within : piece.next ≤ length body = omega arith in
    rw (fragment_again body seen.at seen.before piece.fragment piece.next h.stands within, fits_again body seen.announced piece.fragment piece.next h.fits h.left) refl

pub piece_above : (body : List ℕ) (seen : Seen) (piece : Piece) → IsPiece body seen piece → seen.at + 2 ≤ piece.next
piece_above body seen piece h = fragment_above body seen.at seen.before piece.fragment piece.next h.stands

compressed_found : (body : List ℕ) (seen : Seen) (id : ℕ) → piece_at body seen ≡ Err (flaw.Compressed id) → IsCompressed body seen id
unfolding piece_at
compressed_found body seen id e =
    elim (given_err (checked body seen) (fragment_at body seen.at seen.before) (flaw.Compressed id) e) [
      | inl a ↦ elim (flaw_found body seen.at seen.before (flaw.Compressed id) a) [
        | inl b ↦ absurd cc
        | inr b ↦ let c = block_flawed body seen.at seen.before id b in record { head = c.0; stands = c.1; image = c.2; named = c.3 }
      ]
      | inr a ↦ elim (either_way (fits body seen.announced a.0 a.0.fragment) (Ok a.0) (Err (flaw.Bad seen.at)) (Err (flaw.Compressed id)) a.2) [
        | inl b ↦ absurd cc
        | inr b ↦ absurd cc
      ]
    ]

compressed_again : (body : List ℕ) (seen : Seen) (id : ℕ) → IsCompressed body seen id → piece_at body seen ≡ Err (flaw.Compressed id)
unfolding piece_at
compressed_again body seen id h = rw (head_route body seen.at seen.before h.head h.stands, h.image, h.named) refl

bad_found : (body : List ℕ) (seen : Seen) (offset : ℕ) → piece_at body seen ≡ Err (flaw.Bad offset) → offset ≡ seen.at
unfolding piece_at
bad_found body seen offset e =
    elim (given_err (checked body seen) (fragment_at body seen.at seen.before) (flaw.Bad offset) e) [
      | inl a ↦ elim (flaw_found body seen.at seen.before (flaw.Bad offset) a) [
        | inl b ↦ cc
        | inr b ↦ block_bad body seen.at seen.before offset b
      ]
      | inr a ↦ elim (either_way (fits body seen.announced a.0 a.0.fragment) (Ok a.0) (Err (flaw.Bad seen.at)) (Err (flaw.Bad offset)) a.2) [
        | inl b ↦ absurd cc
        | inr b ↦ cc
      ]
    ]

pub flaw_here : (body : List ℕ) (seen : Seen) (d : Flaw) → piece_at body seen ≡ Err d → IsFlaw body seen d
flaw_here body seen (flaw.Compressed id) e = compressed_found body seen id e
flaw_here body seen (flaw.Bad at) e = (
  bad_found body seen at e,
  λ piece h. let read = piece_again body seen piece h in absurd cc,
  λ id h. let read = compressed_again body seen id h in absurd cc,
)

pub flaw_again : (body : List ℕ) (seen : Seen) (d : Flaw) → IsFlaw body seen d → piece_at body seen ≡ Err d
flaw_again body seen (flaw.Compressed id) h = compressed_again body seen id h
flaw_again body seen (flaw.Bad at) h = by (piece_at body seen) refl
  where
    by : (r : Result Piece Flaw) → piece_at body seen ≡ r → r ≡ Err (flaw.Bad at)
    by (Ok piece) e = absurd (h.1 piece (piece_found body seen piece e))
    by (Err (flaw.Compressed id)) e = absurd (h.2 id (compressed_found body seen id e))
    by (Err (flaw.Bad offset)) e = let same = bad_found body seen offset e in let here = h.0 in cc
