-- The header of a block reference is read exactly where it stands.
use Rattle.std.proofs.Common.{◌≡◌, ℕ, ◌+◌, ◌-◌, ◌<◌, ◌≤◌, Bool, true, false, cond, ltb, leb, eqb, ◌&&◌, ◌⊎◌, inl, inr, List, length, Option, Some, None, refl, sym, ap, subst, ◌∙◌, arith}
use Rattle.std.specs.Prelude.{bit_and, IfSome}
use Rattle.std.proofs.lemmas.Bool.{ltb-false, le-ltb, and_parts, and_from}
use Rattle.std.proofs.lemmas.Bool.Decides.{nat_tests}
use Rattle.layout.specs.Readers.{u8_at, u16_at, u32_at}
use Rattle.block_refs.specs.declared.names.Fork.{Fork}
use Rattle.block_refs.specs.declared.names.Fork.TheVariants.{Main, FreeSpace, Visibility, Init}
use Rattle.block_refs.specs.declared.names.RelName.{RelName}
use Rattle.block_refs.specs.declared.block_ref.BlockRef.{BlockRef}
use Rattle.block_refs.specs.declared.block_ref.ImageRef.{ImageRef}
use Rattle.block_refs.specs.declared.header.Head.{Head}
use Rattle.block_refs.specs.declared.image.Image.{Image}
use Rattle.block_refs.specs.declared.image.Image.TheVariants.{Missing, Plain, Compressed}
use Rattle.block_refs.specs.Names.{fork_number, fork_of}
use Rattle.block_refs.specs.Bits.{has_image, has_bytes, will_init, is_same_rel, has_hole, is_applied, is_compressed, has_unknown}
use Rattle.block_refs.specs.Image.{fills_page, image_of, image_at, image_end}
use Rattle.block_refs.specs.Header.{is_above, is_id_after, bytes_agree, relation_at, relation_before, relation_end, relation_of, head_with, head_whole, head_from, head_behind, head_at}
use Rattle.block_refs.specs.Standing.{IsImage, IsImageWidth, IsRelation, IsRelationWidth, flags_at, IsHead}
use Rattle.block_refs.proofs.Steps.{then_some, else_some, either_some, bind_some, some_is, agree_found, agree_again}

-- ---- forks

fork_found : (number : ℕ) (fork : Fork) → fork_of number ≡ Some fork → number ≡ fork_number fork
unfolding fork_of
fork_found number fork e =
    elim (either_some (eqb number 0) Main _ fork e) [
      | inl a ↦ subst (λ f. number ≡ fork_number f) a.1 (grind (arith, nat_tests))
      | inr a ↦ elim (either_some (eqb number 1) FreeSpace _ fork a.1) [
        | inl b ↦ subst (λ f. number ≡ fork_number f) b.1 (grind (arith, nat_tests))
        | inr b ↦ elim (either_some (eqb number 2) Visibility _ fork b.1) [
          | inl c ↦ subst (λ f. number ≡ fork_number f) c.1 (grind (arith, nat_tests))
          | inr c ↦ let d = then_some (eqb number 3) (Some Init) fork c.1 in subst (λ f. number ≡ fork_number f) (some_is Init fork d.1) (grind (arith, nat_tests))
        ]
      ]
    ]

fork_again : (fork : Fork) → fork_of (fork_number fork) ≡ Some fork
unfolding fork_of
fork_again Main = refl
fork_again FreeSpace = refl
fork_again Visibility = refl
fork_again Init = refl

-- ---- images

-- the image that these tests choose
chosen : (unknown compressed fills : Bool) (plain : ImageRef) (image : Image) → cond unknown None (cond compressed (Some Compressed) (cond fills (Some (Plain plain)) None)) ≡ Some image
    → (unknown ≡ false) × (((compressed ≡ true) × (Compressed ≡ image)) ⊎ ((compressed ≡ false) × (fills ≡ true) × (Plain plain ≡ image)))
chosen true compressed fills plain image e = absurd cc
chosen false true fills plain image e = (refl, inl (refl, cc))
chosen false false true plain image e = (refl, inr (refl, refl, cc))
chosen false false false plain image e = absurd cc

hole_found : (hole : Bool) (size hole_at : ℕ) → fills_page hole size hole_at ≡ true
    → ((hole ≡ true) × (0 < hole_at) × (0 < 8192 - size) × (hole_at + (8192 - size) ≤ 8192)) ⊎ ((hole ≡ false) × (hole_at ≡ 0) × (8192 - size ≡ 0))
hole_found true size hole_at e =
    let a = and_parts (ltb 0 hole_at && ltb size 8192) (leb (hole_at + (8192 - size)) 8192) e in
    let b = and_parts (ltb 0 hole_at) (ltb size 8192) a.0 in
    inl (refl, grind (arith, nat_tests), grind (arith, nat_tests), grind (arith, nat_tests))
hole_found false size hole_at e =
    let a = and_parts (eqb hole_at 0) (eqb size 8192) e in
    inr (refl, grind (arith, nat_tests), grind (arith, nat_tests))

size_found : (hole : Bool) (size hole_at : ℕ) → fills_page hole size hole_at ≡ true → size + (8192 - size) ≡ 8192
size_found true size hole_at e =
    let a = and_parts (ltb 0 hole_at && ltb size 8192) (leb (hole_at + (8192 - size)) 8192) e in
    let b = and_parts (ltb 0 hole_at) (ltb size 8192) a.0 in
    grind (arith, nat_tests)
size_found false size hole_at e =
    let a = and_parts (eqb hole_at 0) (eqb size 8192) e in
    grind (arith, nat_tests)

fills_again : (hole : Bool) (size hole_at left : ℕ) → size + left ≡ 8192
    → ((hole ≡ true) × (0 < hole_at) × (0 < left) × (hole_at + left ≤ 8192)) ⊎ ((hole ≡ false) × (hole_at ≡ 0) × (left ≡ 0)) → fills_page hole size hole_at ≡ true
fills_again true size hole_at left e (inl h) =
    let at : ltb 0 hole_at ≡ true = grind (arith, nat_tests) in
    let short : ltb size 8192 ≡ true = grind (arith, nat_tests) in
    let within : leb (hole_at + (8192 - size)) 8192 ≡ true = grind (arith, nat_tests) in
    and_from (ltb 0 hole_at && ltb size 8192) (leb (hole_at + (8192 - size)) 8192) (and_from (ltb 0 hole_at) (ltb size 8192) at short) within
fills_again false size hole_at left e (inl h) = absurd cc
fills_again true size hole_at left e (inr h) = absurd cc
fills_again false size hole_at left e (inr h) =
    let none : eqb hole_at 0 ≡ true = grind (arith, nat_tests) in
    let whole : eqb size 8192 ≡ true = grind (arith, nat_tests) in
    and_from (eqb hole_at 0) (eqb size 8192) none whole

pub image_found : (body : List ℕ) (at flags : ℕ) (image : Image) → image_at body at flags ≡ Some image → IsImage body at flags image
unfolding image_at image_of
image_found body at flags image e = by (has_image flags) refl e
  where
    by : (b : Bool) → has_image flags ≡ b
        → cond b (cond (ltb (length body) (at + 5)) None (image_of (u16_at at body) (u16_at (at + 2) body) (u8_at (at + 4) body))) (Some Missing) ≡ Some image → IsImage body at flags image
    by false h e = subst (λ i. IsImage body at flags i) (some_is Missing image e) h
    by true h e =
        let info = u8_at (at + 4) body in
        let g = else_some (ltb (length body) (at + 5)) _ image e in
        let room : at + 5 ≤ length body = ltb-false _ _ g.0 in
        let size = u16_at at body in
        let c = chosen (has_unknown info) (is_compressed info) (fills_page (has_hole info) size (u16_at (at + 2) body)) record { apply = is_applied info; hole_at = u16_at (at + 2) body; hole = 8192 - size } image g.1 in
        elim c.1 [
          | inl d ↦ subst (λ i. IsImage body at flags i) d.1 (h, room, c.0, d.0)
          | inr d ↦ subst (λ i. IsImage body at flags i) d.2 (
            h,
            room,
            record {
              size = size_found (has_hole info) size (u16_at (at + 2) body) d.1;
              hole_at = refl;
              apply = refl;
              known = c.0;
              plain = d.0;
              hole = hole_found (has_hole info) size (u16_at (at + 2) body) d.1;
            },
          )
        ]

pub image_again : (body : List ℕ) (at flags : ℕ) (image : Image) → IsImage body at flags image → image_at body at flags ≡ Some image
unfolding image_at image_of
image_again body at flags Missing h = rw h refl
image_again body at flags Compressed h = rw (h.0, le-ltb (length body) (at + 5) h.1, h.2, h.3) refl
image_again body at flags (Plain image) h =
    let size = u16_at at body in
    let fills = fills_again (has_hole (u8_at (at + 4) body)) size (u16_at (at + 2) body) image.hole h.2.size (rw h.2.hole_at h.2.hole) in
    let hole : 8192 - size ≡ image.hole = omega (arith, h.2.size) in
    rw (h.0, le-ltb (length body) (at + 5) h.1, h.2.known, h.2.plain, fills, h.2.apply, h.2.hole_at, hole) refl

-- an image that was read has a header
pub image_room : (body : List ℕ) (at flags : ℕ) (image : Image) → image_at body at flags ≡ Some image → has_image flags ≡ true → at + 5 ≤ length body
image_room body at flags image e has = by image (image_found body at flags image e)
  where
    by : (image : Image) → IsImage body at flags image → at + 5 ≤ length body
    by Missing h = absurd cc
    by (Plain image) h = h.1
    by Compressed h = h.1

-- ---- relations

relation_found : (body : List ℕ) (at flags : ℕ) (before : Option BlockRef) (rel : RelName) → relation_of body at flags before ≡ Some rel → IsRelation body at flags before rel
unfolding relation_of
relation_found body at flags before rel e = by (is_same_rel flags) refl before e
  where
    by : (b : Bool) → is_same_rel flags ≡ b → (before : Option BlockRef)
        → cond b (relation_before before) (cond (ltb (length body) (at + 12)) None (Some (relation_at body at))) ≡ Some rel → IsRelation body at flags before rel
    by true h None e = absurd cc
    by true h (Some last) e = inl (h, last, refl, sym (some_is last.name.rel rel e))
    by false h before e = let g = else_some (ltb (length body) (at + 12)) (Some (relation_at body at)) rel e in inr (h, sym (some_is (relation_at body at) rel g.1))

relation_again : (body : List ℕ) (at flags : ℕ) (before : Option BlockRef) (rel : RelName) → IsRelation body at flags before rel → relation_end at flags ≤ length body
    → relation_of body at flags before ≡ Some rel
unfolding relation_of
relation_again body at flags before rel (inl h) room = rw (h.0, h.2, h.3) refl
relation_again body at flags before rel (inr h) room =
    let end : relation_end at flags ≡ at + 12 = rw h.0 refl in
    let fits : ltb (length body) (at + 12) ≡ false = le-ltb (length body) (at + 12) (omega (arith, end, room)) in
    rw (h.0, fits, h.1) refl

-- ---- headers

-- where the header's image and relation end
abbrev behind_image : List ℕ → ℕ → ℕ
behind_image body at = image_end body (at + 4) (flags_at body at)

abbrev behind_relation : List ℕ → ℕ → ℕ
behind_relation body at = relation_end (behind_image body at) (flags_at body at)

-- an image's header has so many bytes
image_ends : (body : List ℕ) (at flags : ℕ) (image : Image) (width : ℕ) → IsImage body at flags image → IsImageWidth (u8_at (at + 4) body) image width → image_end body at flags ≡ at + width
image_ends body at flags Missing width h w = rw h (omega (arith, w))
image_ends body at flags (Plain image) width h w = rw (h.0, h.2.plain) (omega (arith, w))
image_ends body at flags Compressed width h (inl w) = rw (h.0, h.3, w.0) (omega (arith, w.1))
image_ends body at flags Compressed width h (inr w) = rw (h.0, h.3, w.0) (omega (arith, w.1))

-- and there is one such number
image_width_of : (info : ℕ) (image : Image) → (width : ℕ) × IsImageWidth info image width
image_width_of info Missing = (0, refl)
image_width_of info (Plain image) = (5, refl)
image_width_of info Compressed = by (has_hole info) refl
  where
    by : (b : Bool) → has_hole info ≡ b → (width : ℕ) × IsImageWidth info Compressed width
    by true h = (7, inl (h, refl))
    by false h = (5, inr (h, refl))

relation_ends : (at flags width : ℕ) → IsRelationWidth flags width → relation_end at flags ≡ at + width
relation_ends at flags width (inl w) = rw w.0 (omega (arith, w.1))
relation_ends at flags width (inr w) = rw w.0 (omega (arith, w.1))

relation_width_of : (flags : ℕ) → (width : ℕ) × IsRelationWidth flags width
relation_width_of flags = by (is_same_rel flags) refl
  where
    by : (b : Bool) → is_same_rel flags ≡ b → (width : ℕ) × IsRelationWidth flags width
    by true h = (0, inl (h, refl))
    by false h = (12, inr (h, refl))

info_at : (body : List ℕ) (at : ℕ) → u8_at (at + 8) body ≡ u8_at (at + 4 + 4) body
info_at body at = let e : at + 8 ≡ at + 4 + 4 = omega arith in ap (λ (k : ℕ). u8_at k body) e

-- both ends, where the widths are these
record Ends (body : List ℕ) (at image_width relation_width : ℕ) : Type 0 where
  image : behind_image body at ≡ at + 4 + image_width
  relation : behind_relation body at ≡ at + 4 + image_width + relation_width

ends_by : (body : List ℕ) (at : ℕ) (image : Image) (image_width relation_width : ℕ) → IsImage body (at + 4) (flags_at body at) image → IsImageWidth (u8_at (at + 8) body) image image_width
    → IsRelationWidth (flags_at body at) relation_width → Ends body at image_width relation_width
ends_by body at image image_width relation_width h w r =
    let first : behind_image body at ≡ at + 4 + image_width = image_ends body (at + 4) (flags_at body at) image image_width h (subst (λ i. IsImageWidth i image image_width) (info_at body at) w) in
    record {
      image = first;
      relation = relation_ends (behind_image body at) (flags_at body at) relation_width r ∙ ap (λ (k : ℕ). k + relation_width) first;
    }

-- the id is behind the one before
rises_found : (before : Option BlockRef) (id : ℕ) → is_above before id ≡ true → IfSome before (λ last. last.id < id)
rises_found None id e = tt
rises_found (Some last) id e = grind (arith, nat_tests)

rises_again : (before : Option BlockRef) (id : ℕ) → IfSome before (λ last. last.id < id) → is_above before id ≡ true
rises_again None id h = refl
rises_again (Some last) id h = grind (arith, nat_tests)

pub head_found : (body : List ℕ) (at : ℕ) (before : Option BlockRef) (head : Head) → head_at body at before ≡ Some head → IsHead body at before head
unfolding head_at head_behind head_from
head_found body at before head e =
    let flags = flags_at body at in
    let a = else_some (ltb (length body) (at + 4)) _ head e in
    let b = then_some (is_id_after before (u8_at at body) && bytes_agree flags (u16_at (at + 2) body)) _ head a.1 in
    let tests = and_parts (is_id_after before (u8_at at body)) (bytes_agree flags (u16_at (at + 2) body)) b.0 in
    let ids = and_parts (leb (u8_at at body) 32) (is_above before (u8_at at body)) tests.0 in
    let f = bind_some (head_behind body at before) (fork_of (bit_and flags 0x0F)) head b.1 in
    let i = bind_some (head_from body at (behind_image body at) before f.0) (image_at body (at + 4) flags) head f.2 in
    let r = bind_some (head_whole body at (behind_relation body at) f.0 i.0) (relation_of body (behind_image body at) flags before) head i.2 in
    let w = else_some (ltb (length body) (behind_relation body at + 4)) (Some (head_with body at (behind_relation body at) f.0 i.0 r.0)) head r.2 in
    let is = image_found body (at + 4) flags i.0 i.1 in
    let iw = image_width_of (u8_at (at + 8) body) i.0 in
    let rel = relation_width_of flags in
    let ends = ends_by body at i.0 iw.0 rel.0 is iw.1 rel.1 in
    let end = ends.relation in
    subst (λ h. IsHead body at before h) (some_is (head_with body at (behind_relation body at) f.0 i.0 r.0) head w.1) (record {
      id = refl {a = u8_at at body};
      greatest = grind (arith, nat_tests, ids.0);
      rises = rises_found before (u8_at at body) ids.1;
      fork = fork_found (bit_and flags 0x0F) f.0 f.1;
      will_init = refl {a = will_init (flags_at body at)};
      size = refl {a = u16_at (at + 2) body};
      bytes = agree_found (has_bytes flags) (u16_at (at + 2) body) tests.1;
      image = is;
      image_width = iw.0;
      image_fills = iw.1;
      relation = subst (λ k. IsRelation body k flags before r.0) ends.image (relation_found body (behind_image body at) flags before r.0 r.1);
      relation_width = rel.0;
      relation_fills = rel.1;
      block = ap (λ (k : ℕ). u32_at k body) (sym end);
      next = omega arith;
      within = ltb-false (length body) (behind_relation body at + 4) w.0;
    })

-- the header of these parts
head_is : (body : List ℕ) (at number : ℕ) (before : Option BlockRef) (head : Head) → IsHead body at before head → u32_at number body ≡ head.name.block → head.next ≡ number + 4
    → head_with body at number head.name.fork head.image head.name.rel ≡ head
head_is body at number before head h block next = rw (h.id, block, h.will_init, h.size, ← next) refl

pub head_above : (body : List ℕ) (at : ℕ) (before : Option BlockRef) (head : Head) → IsHead body at before head → at + 8 ≤ head.next
head_above body at before head h =
    let n = h.next in omega arith

pub head_again : (body : List ℕ) (at : ℕ) (before : Option BlockRef) (head : Head) → IsHead body at before head → head_at body at before ≡ Some head
unfolding head_at head_behind head_from
head_again body at before head h =
    let flags = flags_at body at in
    let above = head_above body at before head h in
    let ends = ends_by body at head.image h.image_width h.relation_width h.image h.image_fills h.relation_fills in
    let end = ends.relation in
    let next : head.next ≡ behind_relation body at + 4 = omega (arith, h.next) in
    let block : u32_at (behind_relation body at) body ≡ head.name.block = ap (λ (k : ℕ). u32_at k body) end ∙ h.block in
    let within = h.within in
    let room : ltb (length body) (at + 4) ≡ false = le-ltb (length body) (at + 4) (omega arith) in
    let small : leb (u8_at at body) 32 ≡ true = rw h.id (grind (arith, nat_tests, h.greatest)) in
    let rises : is_above before (u8_at at body) ≡ true = rw h.id (rises_again before head.id h.rises) in
    let bytes : bytes_agree flags (u16_at (at + 2) body) ≡ true = rw h.size (agree_again (has_bytes flags) head.size h.bytes) in
    let fork : fork_of (bit_and flags 0x0F) ≡ Some head.name.fork = ap fork_of h.fork ∙ fork_again head.name.fork in
    let image : image_at body (at + 4) flags ≡ Some head.image = image_again body (at + 4) flags head.image h.image in
    let relation : relation_of body (behind_image body at) flags before ≡ Some head.name.rel = relation_again body (behind_image body at) flags before head.name.rel (subst (λ k. IsRelation body k flags before head.name.rel) (sym ends.image) h.relation) (omega arith) in
    let end : ltb (length body) (behind_relation body at + 4) ≡ false = le-ltb (length body) (behind_relation body at + 4) (omega arith) in
    rw (room, small, rises, bytes, fork, image, relation, end) (ap (λ (x : Head). Some x) (head_is body at (behind_relation body at) before head h block next))
