-- The header of a block that is written is read again.
use Rattle.std.proofs.Common.{◌≡◌, ◌⊎◌, inl, inr, ℕ, ◌+◌, ◌-◌, ◌<◌, ◌≤◌, ◌^◌, Bool, true, false, ltb, List, [], ◌∷◌, ◌++◌, length, Option, Some, None, refl, sym, ap, ◌∙◌, arith, append_assoc, length-append}
use Rattle.std.specs.Prelude.{◌↔◌, IfSome, bit_and, is_some}
use Rattle.std.specs.List.{AllByRecursion}
use Rattle.std.proofs.lemmas.Bool.{le-ltb, lt-ltb, ltb-true}
use Rattle.std.proofs.lemmas.Grind.{flat_map-append}
use Rattle.layout.specs.declared.value.Value.{Value}
use Rattle.layout.specs.declared.value.Value.TheVariants.{Byte, Half, Word}
use Rattle.layout.specs.Readers.{u8_at, u16_at, u32_at, value_at}
use Rattle.layout.specs.Values.{ValueFits, number as told}
use Rattle.layout.specs.Writing.{value_bytes}
use Rattle.block_refs.specs.declared.block_ref.BlockRef.{BlockRef}
use Rattle.block_refs.specs.declared.block_ref.ImageRef.{ImageRef}
use Rattle.block_refs.specs.declared.names.Fork.{Fork}
use Rattle.block_refs.specs.declared.names.Fork.TheVariants as fork
use Rattle.block_refs.specs.declared.names.RelName.{RelName}
use Rattle.block_refs.specs.Names.{fork_number}
use Rattle.block_refs.specs.Bits.{has_image, has_bytes, will_init, is_same_rel, has_hole, is_applied, is_compressed, has_unknown}
use Rattle.block_refs.specs.Header.{relation_at}
use Rattle.block_refs.specs.Standing.{IsHole, IsImage, IsImageWidth, IsHead, image_as, head_of}
use Rattle.block_refs.specs.Written.{Written, block_flags, image_bits, image_values, rel_values, flags_of, head_values, head_bytes, IsStored, CanWrite}
use Rattle.layout_readers.proofs.RowLemmas.{length_row}
use Rattle.layout_readers.proofs.ValueLemmas.{value_in}
use Rattle.layout_readers.specs.Rows.{row_bytes as bytes_of, row_width as widths}

-- ---- values in a row

-- the value behind others in a row
pub row_at : (front behind body : List ℕ) (vs : List Value) (v : Value) (ws : List Value) (at : ℕ) → body ≡ front ++ (bytes_of (vs ++ (v ∷ ws)) ++ behind) → AllByRecursion ValueFits vs → ValueFits v
    → at ≡ length front + widths vs → value_at v at body ≡ v
row_at front behind body vs v ws at e before fits is =
    let there : body ≡ (front ++ bytes_of vs) ++ (value_bytes v ++ (bytes_of ws ++ behind)) =
    e ∙ ap (λ (xs : List ℕ). front ++ (xs ++ behind)) (flat_map-append value_bytes vs (v ∷ ws)) ∙ simp append_assoc in
    let len : length (front ++ bytes_of vs) ≡ at = length-append front (bytes_of vs) ∙ ap (λ (n : ℕ). length front + n) (length_row vs before) ∙ sym is in
    rw there (ap (λ (n : ℕ). value_at v n ((front ++ bytes_of vs) ++ (value_bytes v ++ (bytes_of ws ++ behind)))) (sym len) ∙ value_in v (front ++ bytes_of vs) (bytes_of ws ++ behind) fits)

-- ---- flags

pub record Says (flags : ℕ) (f : Fork) (i b w : Bool) : Type 0 where
  low : flags < 2 ^ 8
  number : bit_and flags 0x0F ≡ fork_number f
  image : has_image flags ≡ i
  bytes : has_bytes flags ≡ b
  init : will_init flags ≡ w
  rel : is_same_rel flags ≡ false

pub says : (f : Fork) (i b w : Bool) → Says (block_flags f i b w) f i b w
says fork.Main true true true = record { low = omega arith; number = refl; image = refl; bytes = refl; init = refl; rel = refl }
says fork.Main true true false = record { low = omega arith; number = refl; image = refl; bytes = refl; init = refl; rel = refl }
says fork.Main true false true = record { low = omega arith; number = refl; image = refl; bytes = refl; init = refl; rel = refl }
says fork.Main true false false = record { low = omega arith; number = refl; image = refl; bytes = refl; init = refl; rel = refl }
says fork.Main false true true = record { low = omega arith; number = refl; image = refl; bytes = refl; init = refl; rel = refl }
says fork.Main false true false = record { low = omega arith; number = refl; image = refl; bytes = refl; init = refl; rel = refl }
says fork.Main false false true = record { low = omega arith; number = refl; image = refl; bytes = refl; init = refl; rel = refl }
says fork.Main false false false = record { low = omega arith; number = refl; image = refl; bytes = refl; init = refl; rel = refl }
says fork.FreeSpace true true true = record { low = omega arith; number = refl; image = refl; bytes = refl; init = refl; rel = refl }
says fork.FreeSpace true true false = record { low = omega arith; number = refl; image = refl; bytes = refl; init = refl; rel = refl }
says fork.FreeSpace true false true = record { low = omega arith; number = refl; image = refl; bytes = refl; init = refl; rel = refl }
says fork.FreeSpace true false false = record { low = omega arith; number = refl; image = refl; bytes = refl; init = refl; rel = refl }
says fork.FreeSpace false true true = record { low = omega arith; number = refl; image = refl; bytes = refl; init = refl; rel = refl }
says fork.FreeSpace false true false = record { low = omega arith; number = refl; image = refl; bytes = refl; init = refl; rel = refl }
says fork.FreeSpace false false true = record { low = omega arith; number = refl; image = refl; bytes = refl; init = refl; rel = refl }
says fork.FreeSpace false false false = record { low = omega arith; number = refl; image = refl; bytes = refl; init = refl; rel = refl }
says fork.Visibility true true true = record { low = omega arith; number = refl; image = refl; bytes = refl; init = refl; rel = refl }
says fork.Visibility true true false = record { low = omega arith; number = refl; image = refl; bytes = refl; init = refl; rel = refl }
says fork.Visibility true false true = record { low = omega arith; number = refl; image = refl; bytes = refl; init = refl; rel = refl }
says fork.Visibility true false false = record { low = omega arith; number = refl; image = refl; bytes = refl; init = refl; rel = refl }
says fork.Visibility false true true = record { low = omega arith; number = refl; image = refl; bytes = refl; init = refl; rel = refl }
says fork.Visibility false true false = record { low = omega arith; number = refl; image = refl; bytes = refl; init = refl; rel = refl }
says fork.Visibility false false true = record { low = omega arith; number = refl; image = refl; bytes = refl; init = refl; rel = refl }
says fork.Visibility false false false = record { low = omega arith; number = refl; image = refl; bytes = refl; init = refl; rel = refl }
says fork.Init true true true = record { low = omega arith; number = refl; image = refl; bytes = refl; init = refl; rel = refl }
says fork.Init true true false = record { low = omega arith; number = refl; image = refl; bytes = refl; init = refl; rel = refl }
says fork.Init true false true = record { low = omega arith; number = refl; image = refl; bytes = refl; init = refl; rel = refl }
says fork.Init true false false = record { low = omega arith; number = refl; image = refl; bytes = refl; init = refl; rel = refl }
says fork.Init false true true = record { low = omega arith; number = refl; image = refl; bytes = refl; init = refl; rel = refl }
says fork.Init false true false = record { low = omega arith; number = refl; image = refl; bytes = refl; init = refl; rel = refl }
says fork.Init false false true = record { low = omega arith; number = refl; image = refl; bytes = refl; init = refl; rel = refl }
says fork.Init false false false = record { low = omega arith; number = refl; image = refl; bytes = refl; init = refl; rel = refl }

record Tells (bits : ℕ) (h a : Bool) : Type 0 where
  low : bits < 2 ^ 8
  hole : has_hole bits ≡ h
  apply : is_applied bits ≡ a
  plain : is_compressed bits ≡ false
  known : has_unknown bits ≡ false

tells : (h a : Bool) → Tells (image_bits h a) h a
tells true true = record { low = omega arith; hole = refl; apply = refl; plain = refl; known = refl }
tells true false = record { low = omega arith; hole = refl; apply = refl; plain = refl; known = refl }
tells false true = record { low = omega arith; hole = refl; apply = refl; plain = refl; known = refl }
tells false false = record { low = omega arith; hole = refl; apply = refl; plain = refl; known = refl }

-- ---- the header of a block

abbrev pub values_with : ℕ → ℕ → ℕ → Option ImageRef → RelName → ℕ → List Value
values_with id flags size image rel block = Byte id ∷ Byte flags ∷ Half size ∷ (image_values image ++ (rel_values rel ++ (Word block ∷ [])))

abbrev pub bits_of : ImageRef → ℕ
bits_of image = image_bits (ltb 0 image.hole) image.apply

abbrev pub FitsImage : Option ImageRef → Type 0
FitsImage None = Unit {0}
FitsImage (Some image) = ((8192 - image.hole) < 2 ^ 16) × (image.hole_at < 2 ^ 16) × (bits_of image < 2 ^ 8)

pub record Fits (id flags size : ℕ) (image : Option ImageRef) (rel : RelName) (block : ℕ) : Type 0 where
  id_fits : id < 2 ^ 8
  flags_fit : flags < 2 ^ 8
  size_fits : size < 2 ^ 16
  image_fits : FitsImage image
  space_fits : rel.space < 2 ^ 32
  database_fits : rel.database < 2 ^ 32
  relation_fits : rel.relation < 2 ^ 32
  block_fits : block < 2 ^ 32

all_fit : (id flags size : ℕ) (image : Option ImageRef) (rel : RelName) (block : ℕ) → Fits id flags size image rel block → AllByRecursion ValueFits (values_with id flags size image rel block)
all_fit id flags size None rel block f = (f.id_fits, (f.flags_fit, (f.size_fits, (f.space_fits, (f.database_fits, (f.relation_fits, (f.block_fits, tt)))))))
all_fit id flags size (Some image) rel block f =
    (f.id_fits, (f.flags_fit, (f.size_fits, (f.image_fits.0, (f.image_fits.1, (f.image_fits.2, (f.space_fits, (f.database_fits, (f.relation_fits, (f.block_fits, tt))))))))))

abbrev pub image_room : Option ImageRef → ℕ
image_room None = 0
image_room (Some image) = 5

abbrev pub ImageThere : List ℕ → ℕ → Option ImageRef → Type 0
ImageThere body at None = Unit {0}
ImageThere body at (Some image) = (u16_at at body ≡ 8192 - image.hole) × (u16_at (at + 2) body ≡ image.hole_at) × (u8_at (at + 4) body ≡ bits_of image)

pub record There (body : List ℕ) (at id flags size : ℕ) (image : Option ImageRef) (rel : RelName) (block : ℕ) : Type 0 where
  id_there : u8_at at body ≡ id
  flags_there : u8_at (at + 1) body ≡ flags
  size_there : u16_at (at + 2) body ≡ size
  image_there : ImageThere body (at + 4) image
  rel_there : relation_at body (at + 4 + image_room image) ≡ rel
  block_there : u32_at (at + 4 + image_room image + 12) body ≡ block

same_rel : (body : List ℕ) (at : ℕ) (rel : RelName) → u32_at at body ≡ rel.space → u32_at (at + 4) body ≡ rel.database → u32_at (at + 8) body ≡ rel.relation → relation_at body at ≡ rel
same_rel body at rel s d r = rw (s, d, r) refl

pub there_is : (image : Option ImageRef) (front behind body : List ℕ) (id flags size : ℕ) (rel : RelName) (block : ℕ) → body ≡ front ++ (bytes_of (values_with id flags size image rel block) ++ behind)
    → Fits id flags size image rel block → There body (length front) id flags size image rel block
there_is None front behind body id flags size rel block e f =
    let at = length front in
    let a0 : at ≡ at + 0 = omega arith in
    let a1 : at + 1 ≡ at + (1 + 0) = omega arith in
    let a2 : at + 2 ≡ at + (1 + (1 + 0)) = omega arith in
    let a3 : at + 4 + 0 ≡ at + (1 + (1 + (2 + 0))) = omega arith in
    let a4 : at + 4 + 0 + 4 ≡ at + (1 + (1 + (2 + (4 + 0)))) = omega arith in
    let a5 : at + 4 + 0 + 8 ≡ at + (1 + (1 + (2 + (4 + (4 + 0))))) = omega arith in
    let a6 : at + 4 + 0 + 12 ≡ at + (1 + (1 + (2 + (4 + (4 + (4 + 0)))))) = omega arith in
    let b : Value = Word block in
    let r : Value = Word rel.relation in
    let d : Value = Word rel.database in
    let s : Value = Word rel.space in
    let first : AllByRecursion ValueFits (Byte id ∷ Byte flags ∷ Half size ∷ []) = (f.id_fits, (f.flags_fit, (f.size_fits, tt))) in
    record {
      id_there = ap told (row_at front behind body [] (Byte id) (Byte flags ∷ Half size ∷ s ∷ d ∷ r ∷ b ∷ []) at e tt f.id_fits a0);
      flags_there = ap told (row_at front behind body (Byte id ∷ []) (Byte flags) (Half size ∷ s ∷ d ∷ r ∷ b ∷ []) (at + 1) e (f.id_fits, tt) f.flags_fit a1);
      size_there = ap told (row_at front behind body (Byte id ∷ Byte flags ∷ []) (Half size) (s ∷ d ∷ r ∷ b ∷ []) (at + 2) e (f.id_fits, (f.flags_fit, tt)) f.size_fits a2);
      image_there = tt;
      rel_there = same_rel body (at + 4 + 0) rel
          (ap told (row_at front behind body (Byte id ∷ Byte flags ∷ Half size ∷ []) s (d ∷ r ∷ b ∷ []) (at + 4 + 0) e first f.space_fits a3))
          (ap told (row_at front behind body (Byte id ∷ Byte flags ∷ Half size ∷ s ∷ []) d (r ∷ b ∷ []) (at + 4 + 0 + 4) e (f.id_fits, (f.flags_fit, (f.size_fits, (f.space_fits, tt)))) f.database_fits a4))
          (ap told (row_at front behind body (Byte id ∷ Byte flags ∷ Half size ∷ s ∷ d ∷ []) r (b ∷ []) (at + 4 + 0 + 8) e (f.id_fits, (f.flags_fit, (f.size_fits, (f.space_fits, (f.database_fits, tt))))) f.relation_fits a5));
      block_there = ap told (row_at front behind body (Byte id ∷ Byte flags ∷ Half size ∷ s ∷ d ∷ r ∷ []) b [] (at + 4 + 0 + 12) e (f.id_fits, (f.flags_fit, (f.size_fits, (f.space_fits, (f.database_fits, (f.relation_fits, tt)))))) f.block_fits a6);
    }
there_is (Some image) front behind body id flags size rel block e f =
    let at = length front in
    let a0 : at ≡ at + 0 = omega arith in
    let a1 : at + 1 ≡ at + (1 + 0) = omega arith in
    let a2 : at + 2 ≡ at + (1 + (1 + 0)) = omega arith in
    let i0 : at + 4 ≡ at + (1 + (1 + (2 + 0))) = omega arith in
    let i1 : at + 4 + 2 ≡ at + (1 + (1 + (2 + (2 + 0)))) = omega arith in
    let i2 : at + 4 + 4 ≡ at + (1 + (1 + (2 + (2 + (2 + 0))))) = omega arith in
    let a3 : at + 4 + 5 ≡ at + (1 + (1 + (2 + (2 + (2 + (1 + 0)))))) = omega arith in
    let a4 : at + 4 + 5 + 4 ≡ at + (1 + (1 + (2 + (2 + (2 + (1 + (4 + 0))))))) = omega arith in
    let a5 : at + 4 + 5 + 8 ≡ at + (1 + (1 + (2 + (2 + (2 + (1 + (4 + (4 + 0)))))))) = omega arith in
    let a6 : at + 4 + 5 + 12 ≡ at + (1 + (1 + (2 + (2 + (2 + (1 + (4 + (4 + (4 + 0))))))))) = omega arith in
    let b : Value = Word block in
    let r : Value = Word rel.relation in
    let d : Value = Word rel.database in
    let s : Value = Word rel.space in
    let l : Value = Half (8192 - image.hole) in
    let o : Value = Half image.hole_at in
    let g : Value = Byte (bits_of image) in
    record {
      id_there = ap told (row_at front behind body [] (Byte id) (Byte flags ∷ Half size ∷ l ∷ o ∷ g ∷ s ∷ d ∷ r ∷ b ∷ []) at e tt f.id_fits a0);
      flags_there = ap told (row_at front behind body (Byte id ∷ []) (Byte flags) (Half size ∷ l ∷ o ∷ g ∷ s ∷ d ∷ r ∷ b ∷ []) (at + 1) e (f.id_fits, tt) f.flags_fit a1);
      size_there = ap told (row_at front behind body (Byte id ∷ Byte flags ∷ []) (Half size) (l ∷ o ∷ g ∷ s ∷ d ∷ r ∷ b ∷ []) (at + 2) e (f.id_fits, (f.flags_fit, tt)) f.size_fits a2);
      image_there = (
        ap told (row_at front behind body (Byte id ∷ Byte flags ∷ Half size ∷ []) l (o ∷ g ∷ s ∷ d ∷ r ∷ b ∷ []) (at + 4) e (f.id_fits, (f.flags_fit, (f.size_fits, tt))) f.image_fits.0 i0),
        ap told (row_at front behind body (Byte id ∷ Byte flags ∷ Half size ∷ l ∷ []) o (g ∷ s ∷ d ∷ r ∷ b ∷ []) (at + 4 + 2) e (f.id_fits, (f.flags_fit, (f.size_fits, (f.image_fits.0, tt)))) f.image_fits.1 i1),
        ap told (row_at front behind body (Byte id ∷ Byte flags ∷ Half size ∷ l ∷ o ∷ []) g (s ∷ d ∷ r ∷ b ∷ []) (at + 4 + 4) e (f.id_fits, (f.flags_fit, (f.size_fits, (f.image_fits.0, (f.image_fits.1, tt))))) f.image_fits.2 i2),
      );
      rel_there = same_rel body (at + 4 + 5) rel
          (ap told (row_at front behind body (Byte id ∷ Byte flags ∷ Half size ∷ l ∷ o ∷ g ∷ []) s (d ∷ r ∷ b ∷ []) (at + 4 + 5) e (f.id_fits, (f.flags_fit, (f.size_fits, (f.image_fits.0, (f.image_fits.1, (f.image_fits.2, tt)))))) f.space_fits a3))
          (ap told (row_at front behind body (Byte id ∷ Byte flags ∷ Half size ∷ l ∷ o ∷ g ∷ s ∷ []) d (r ∷ b ∷ []) (at + 4 + 5 + 4) e (f.id_fits, (f.flags_fit, (f.size_fits, (f.image_fits.0, (f.image_fits.1, (f.image_fits.2, (f.space_fits, tt))))))) f.database_fits a4))
          (ap told (row_at front behind body (Byte id ∷ Byte flags ∷ Half size ∷ l ∷ o ∷ g ∷ s ∷ d ∷ []) r (b ∷ []) (at + 4 + 5 + 8) e (f.id_fits, (f.flags_fit, (f.size_fits, (f.image_fits.0, (f.image_fits.1, (f.image_fits.2, (f.space_fits, (f.database_fits, tt)))))))) f.relation_fits a5));
      block_there = ap told (row_at front behind body (Byte id ∷ Byte flags ∷ Half size ∷ l ∷ o ∷ g ∷ s ∷ d ∷ r ∷ []) b [] (at + 4 + 5 + 12) e (f.id_fits, (f.flags_fit, (f.size_fits, (f.image_fits.0, (f.image_fits.1, (f.image_fits.2, (f.space_fits, (f.database_fits, (f.relation_fits, tt))))))))) f.block_fits a6);
    }

-- how many bytes of an image are kept
abbrev pub kept_of : Option ImageRef → ℕ
kept_of None = 0
kept_of (Some image) = 8192 - image.hole

-- ---- what was written as a header

-- the image that is told
image_is : (body : List ℕ) (at flags : ℕ) (image : Option ImageRef) (stored : List ℕ) → ImageThere body at image → IsStored image stored → has_image flags ≡ is_some image → at + image_room image ≤ length body
    → IsImage body at flags (image_as image)
image_is body at flags None stored there is has room = has
image_is body at flags (Some image) stored there is has room =
    let bits = tells (ltb 0 image.hole) image.apply in
    let same : u8_at (at + 4) body ≡ bits_of image = there.2 in
    let size : u16_at at body ≡ 8192 - image.hole = there.0 in
    let whole = is.0 in (
      has,
      room,
      record {
        size = omega (arith, size, whole);
        hole_at = there.1;
        apply = ap is_applied same ∙ bits.apply;
        known = ap has_unknown same ∙ bits.known;
        plain = ap is_compressed same ∙ bits.plain;
        hole = hole_by is.1 (ap has_hole same ∙ bits.hole);
      },
    )
  where
    hole_by : ((0 < image.hole) × (0 < image.hole_at) × (image.hole_at + image.hole ≤ 8192)) ⊎ ((image.hole ≡ 0) × (image.hole_at ≡ 0)) → has_hole (u8_at (at + 4) body) ≡ ltb 0 image.hole → IsHole image (u8_at (at + 4) body)
    hole_by (inl h) e = inl (e ∙ lt-ltb 0 image.hole h.0, h.1, h.0, h.2)
    hole_by (inr h) e = inr (e ∙ le-ltb 0 image.hole (omega (arith, h.0)), h.1, h.0)

image_width : (info : ℕ) (image : Option ImageRef) → IsImageWidth info (image_as image) (image_room image)
image_width info None = refl
image_width info (Some image) = refl

-- the header that stands there
pub head_is : (body : List ℕ) (at : ℕ) (before : Option BlockRef) (block : BlockRef) (size flags : ℕ) (stored : List ℕ) → There body at block.id flags size block.image block.name.rel block.name.block
    → Says flags block.name.fork (is_some block.image) (ltb 0 size) block.will_init → IsStored block.image stored → IfSome before (λ last. last.id < block.id) → block.id ≤ 32
    → at + 20 + image_room block.image ≤ length body → IsHead body at before (head_of block size (at + 20 + image_room block.image))
head_is body at before block size flags stored there say is rises low room =
    let same = there.flags_there in
    record {
      id = there.id_there;
      greatest = low;
      rises = rises;
      fork = ap (λ (n : ℕ). bit_and n 0x0F) same ∙ say.number;
      will_init = ap will_init same ∙ say.init;
      size = there.size_there;
      bytes = has_by (ap has_bytes same ∙ say.bytes);
      image = image_is body (at + 4) (u8_at (at + 1) body) block.image stored there.image_there is (ap has_image same ∙ say.image) (omega (arith, room));
      image_width = image_room block.image;
      image_fills = image_width (u8_at (at + 8) body) block.image;
      relation = inr (ap is_same_rel same ∙ say.rel, sym there.rel_there);
      relation_width = 12;
      relation_fills = inr (ap is_same_rel same ∙ say.rel, refl);
      block = there.block_there;
      next = omega arith;
      within = room;
    }
  where
    has_by : has_bytes (u8_at (at + 1) body) ≡ ltb 0 size → (has_bytes (u8_at (at + 1) body) ≡ true) ↔ (0 < size)
    has_by e = (λ h. ltb-true 0 size (sym e ∙ h), λ h. e ∙ lt-ltb 0 size h)

-- ---- one header behind another

-- the header of a block has so many bytes
pub head_fits : (w : Written) → CanWrite w → w.block.id ≤ 32 → Fits w.block.id (flags_of w) (length w.bytes) w.block.image w.block.name.rel w.block.name.block
head_fits w can low =
    let say = says w.block.name.fork (is_some w.block.image) (ltb 0 (length w.bytes)) w.block.will_init in
    record {
      id_fits = omega (arith, low);
      flags_fit = say.low;
      size_fits = can.bytes;
      image_fits = image_by w.block.image w.image can.image;
      space_fits = can.space;
      database_fits = can.database;
      relation_fits = can.relation;
      block_fits = can.block;
    }
  where
    image_by : (image : Option ImageRef) (stored : List ℕ) → IsStored image stored → FitsImage image
    image_by None stored is = tt
    image_by (Some image) stored is = (omega arith, at_by is.1, (tells (ltb 0 image.hole) image.apply).low)
      where
        at_by : ((0 < image.hole) × (0 < image.hole_at) × (image.hole_at + image.hole ≤ 8192)) ⊎ ((image.hole ≡ 0) × (image.hole_at ≡ 0)) → image.hole_at < 2 ^ 16
        at_by (inl h) = omega (arith, h.2)
        at_by (inr h) = omega (arith, h.1)

row_size : (id flags size : ℕ) (image : Option ImageRef) (rel : RelName) (block : ℕ) → widths (values_with id flags size image rel block) ≡ 20 + image_room image
row_size id flags size None rel block = refl
row_size id flags size (Some image) rel block = refl

pub head_size : (w : Written) → CanWrite w → w.block.id ≤ 32 → length (head_bytes w) ≡ 20 + image_room w.block.image
head_size w can low =
    length_row (head_values w) (all_fit w.block.id (flags_of w) (length w.bytes) w.block.image w.block.name.rel w.block.name.block (head_fits w can low))
    ∙ row_size w.block.id (flags_of w) (length w.bytes) w.block.image w.block.name.rel w.block.name.block

pub stored_size : (image : Option ImageRef) (stored : List ℕ) → IsStored image stored → length stored ≡ kept_of image
stored_size None stored is = ap length is
stored_size (Some image) stored is = let whole = is.0 in omega arith
