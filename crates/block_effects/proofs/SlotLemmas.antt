-- Setting the slot of a page respects the mask, which shows all of such a page but its LSN and checksum.
use Rattle.std.proofs.Common.{◌≡◌, ℕ, ◌+◌, ◌-◌, ◌<◌, ◌≤◌, ◌==◌, ◌⊎◌, ⊎_elim, inl, inr, Bool, true, false, List, length, take, Some, None, Ok, Err, refl, sym, ◌∙◌, ap, arith}
use Rattle.std.specs.Prelude.{if◌then◌else◌, nat_le, nat_lt}
use Rattle.std.proofs.lemmas.Bool.Decides.{nat_tests, leb_tells}
use Rattle.std.proofs.lemmas.List.{length-take-le}
use Rattle.block_refs.specs.Bytes.{main_bytes}
use Rattle.block_refs.specs.Parts.{PartsView}
use Rattle.layout.specs.Splice.{splice}
use Rattle.layout.proofs.SpliceLemmas.{length-splice, byte-splice_below, byte-splice_in, byte-splice_out}
use Rattle.page_layout.specs.Bytes.{byte}
use Rattle.page_layout.specs.Page.{pd_special, well_formed}
use Rattle.page_layout.specs.declared.refusal.RedoWhy.TheVariants.{PageShape}
use Rattle.page_layout.proofs.ReadLemmas.{special_u16}
use Rattle.page_masks.specs.declared.kind.PageKind.TheVariants.{Other}
use Rattle.page_masks.specs.Law.{view, IsOperation, Redone, SameMasks}
use Rattle.page_masks.specs.Mask.{mask, other_byte}
use Rattle.page_masks.proofs.MaskShape.{kind_shown}
use Rattle.page_masks.proofs.OtherBytes.{other_open}
use Rattle.page_masks.proofs.ShapeKind.{length-mask, mask_at, mask_is, masked_as, shape_kind}
use Rattle.redo_steps.specs.Redo.{laid_out}
use Rattle.wal_records.specs.Reading.{LogRecord}
use Rattle.block_effects.specs.Rules.{AreRules}
use Rattle.block_effects.specs.Slot.{slot_operation, slot_rules, slot_set}

-- a page with a slot is of no kind of the server's own
slot_kind : (p : List ℕ) → pd_special p ≡ 8160 → shape_kind p ≡ Other
slot_kind p special = by_case (well_formed p) refl
  where
    no_heap : (pd_special p == 8192) ≡ false
    no_heap = grind (arith, nat_tests, special)

    no_btree : (pd_special p == 8176) ≡ false
    no_btree = grind (arith, nat_tests, special)

    no_sequence : (pd_special p == 8184) ≡ false
    no_sequence = grind (arith, nat_tests, special)

    by_case : (w : Bool) → well_formed p ≡ w → shape_kind p ≡ Other
    by_case true e = rw (e, no_heap, no_btree, no_sequence) refl
    by_case false e = rw e refl

-- of such a page the mask shows each byte from the tenth on
shown : (block : ℕ) (p : List ℕ) (i : ℕ) → shape_kind p ≡ Other → 10 ≤ i → i < 8192 → byte (mask block p) i ≡ byte p i
shown block p i kind low high =
    let at : nat_lt i 10 ≡ false = grind (arith, nat_tests, low) in
    mask_at block p i high ∙ (ap (λ k. masked_as k block p i) kind ∙ (other_open p i ∙ ap (λ b. if b then 0 else byte p i) at))

same_kind : (block : ℕ) (p q : List ℕ) → length p ≡ 8192 → length q ≡ 8192 → mask block p ≡ mask block q → shape_kind p ≡ Other → shape_kind q ≡ Other
same_kind block p q size_p size_q same kind = let kp = kind_shown block p size_p in let kq = kind_shown block q size_q in sym kq.is ∙ (ap shape_kind (sym same) ∙ (kp.is ∙ kind))

same_byte : (block : ℕ) (p q : List ℕ) (i : ℕ) → length p ≡ 8192 → length q ≡ 8192 → mask block p ≡ mask block q → shape_kind p ≡ Other → 10 ≤ i → i < 8192 → byte p i ≡ byte q i
same_byte block p q i size_p size_q same kind low high =
    sym (shown block p i kind low high) ∙ (ap (λ m. byte m i) same ∙ shown block q i (same_kind block p q size_p size_q same kind) low high)

same_special : (block : ℕ) (p q : List ℕ) → length p ≡ 8192 → length q ≡ 8192 → mask block p ≡ mask block q → pd_special p ≡ 8160 → pd_special q ≡ 8160
same_special block p q size_p size_q same special =
    let kind = slot_kind p special in
    let low : byte p 16 ≡ byte q 16 = same_byte block p q 16 size_p size_q same kind (omega arith) (omega arith) in
    let high : byte p 17 ≡ byte q 17 = same_byte block p q 17 size_p size_q same kind (omega arith) (omega arith) in
    omega (arith, special_u16 p, special_u16 q, low, high, special)

-- what is answered of a page, by whether it has a slot
abbrev answer : Bool → List ℕ → Redone
answer b r = if b then Ok r else Err PageShape

-- a page with another slot
module _ (bytes : List ℕ) (four : length bytes ≡ 4) where
  fits : (p : List ℕ) → length p ≡ 8192 → 36 + length bytes ≤ length p
  fits p size = omega (arith, four, size)

  set_size : (p : List ℕ) → length p ≡ 8192 → length (splice p 36 bytes) ≡ 8192
  set_size p size = length-splice p 36 bytes (fits p size) ∙ size

  front : (p : List ℕ) (i : ℕ) → length p ≡ 8192 → i < 36 → byte (splice p 36 bytes) i ≡ byte p i
  front p i size lt = byte-splice_below p 36 bytes i (fits p size) lt

  set_special : (p : List ℕ) → length p ≡ 8192 → pd_special p ≡ 8160 → pd_special (splice p 36 bytes) ≡ 8160
  set_special p size special = omega (arith, special_u16 p, special_u16 (splice p 36 bytes), front p 16 size (omega arith), front p 17 size (omega arith), special)

  same_set : (p q : List ℕ) (i : ℕ) → length p ≡ 8192 → length q ≡ 8192 → byte p i ≡ byte q i → byte (splice p 36 bytes) i ≡ byte (splice q 36 bytes) i
  same_set p q i size_p size_q same = ⊎_elim
      (λ (low : (nat_le 36 i ≡ true) × (36 ≤ i)). ⊎_elim
      (λ (high : (nat_le 40 i ≡ true) × (40 ≤ i)). out (inr (omega (arith, four, high.1))))
      (λ (in_slot : (nat_le 40 i ≡ false) × (i < 40)).
      byte-splice_in p 36 bytes i (fits p size_p) low.1 (omega (arith, four, in_slot.1)) ∙ sym (byte-splice_in q 36 bytes i (fits q size_q) low.1 (omega (arith, four, in_slot.1))))
      (leb_tells 40 i))
      (λ (below : (nat_le 36 i ≡ false) × (i < 36)). out (inl below.1))
      (leb_tells 36 i)
    where
      out : (i < 36) ⊎ (36 + length bytes ≤ i) → byte (splice p 36 bytes) i ≡ byte (splice q 36 bytes) i
      out where_ = byte-splice_out p 36 bytes i (fits p size_p) where_ ∙ (same ∙ sym (byte-splice_out q 36 bytes i (fits q size_q) where_))

  set_masks : (block : ℕ) (p q : List ℕ) → length p ≡ 8192 → length q ≡ 8192 → mask block p ≡ mask block q → pd_special p ≡ 8160 → mask block (splice p 36 bytes) ≡ mask block (splice q 36 bytes)
  set_masks block p q size_p size_q same special =
      let special_q = same_special block p q size_p size_q same special in
      let kind_p = slot_kind (splice p 36 bytes) (set_special p size_p special) in
      let kind_q = slot_kind (splice q 36 bytes) (set_special q size_q special_q) in
      mask_is block (splice p 36 bytes) (mask block (splice q 36 bytes)) (length-mask block (splice q 36 bytes))
      (λ i lt. ap (λ k. masked_as k block (splice p 36 bytes) i) kind_p ∙ (masked_alike i lt ∙ sym (mask_at block (splice q 36 bytes) i lt ∙ ap (λ k. masked_as k block (splice q 36 bytes) i) kind_q)))
    where
      masked_alike : (i : ℕ) → i < 8192 → other_byte (splice p 36 bytes) i ≡ other_byte (splice q 36 bytes) i
      masked_alike i lt = other_open (splice p 36 bytes) i ∙ (by_case (nat_lt i 10) refl ∙ sym (other_open (splice q 36 bytes) i))
        where
          by_case : (b : Bool) → nat_lt i 10 ≡ b → (if b then 0 else byte (splice p 36 bytes) i) ≡ (if b then 0 else byte (splice q 36 bytes) i)
          by_case true e = refl
          by_case false e = same_set p q i size_p size_q (same_byte block p q i size_p size_q same (slot_kind p special) (grind (arith, nat_tests, e)) lt)

  slot_masks : (block : ℕ) (p q : List ℕ) → length p ≡ 8192 → length q ≡ 8192 → mask block p ≡ mask block q → SameMasks (view block) (slot_set bytes p) (slot_set bytes q)
  slot_masks block p q size_p size_q same = by_case (pd_special p == 8160) (pd_special q == 8160) refl refl
    where
      by_case : (a b : Bool) → (pd_special p == 8160) ≡ a → (pd_special q == 8160) ≡ b → SameMasks (view block) (slot_set bytes p) (slot_set bytes q)
      by_case true true ep eq = rw (ep, eq) (set_masks block p q size_p size_q same (grind (arith, nat_tests, ep)))
      by_case false false ep eq = rw (ep, eq) refl
      by_case true false ep eq = let there : pd_special p ≡ 8160 = grind (arith, nat_tests, ep) in let here = same_special block p q size_p size_q same there in absurd (grind (arith, nat_tests, eq, here))
      by_case false true ep eq = let there : pd_special q ≡ 8160 = grind (arith, nat_tests, eq) in let here = same_special block q p size_q size_p (sym same) there in absurd (grind (arith, nat_tests, ep, here))

  slot_page : (p q : List ℕ) → length p ≡ 8192 → slot_set bytes p ≡ Ok q → length q ≡ 8192
  slot_page p q size e = by_case (pd_special p == 8160) e
    where
      by_case : (b : Bool) → answer b (splice p 36 bytes) ≡ Ok q → length q ≡ 8192
      by_case true h = let same : splice p 36 bytes ≡ q = cc h in ap length (sym same) ∙ set_size p size
      by_case false h = cc h

module _ (rec : LogRecord) (parts : PartsView) (id : ℕ) where
  abbrev main : List ℕ
  main = main_bytes rec.body parts

  abbrev done : Bool → List ℕ → Redone
  done short p = laid_out (if short then None else Some (take 4 main)) (λ bytes. slot_set bytes p)

  enough : nat_lt (length main) 4 ≡ false → length (take 4 main) ≡ 4
  enough e = length-take-le 4 main (grind (arith, nat_tests, e))

  done_page : (short : Bool) → nat_lt (length main) 4 ≡ short → (p q : List ℕ) → length p ≡ 8192 → done short p ≡ Ok q → length q ≡ 8192
  done_page true e p q size h = cc h
  done_page false e p q size h = slot_page (take 4 main) (enough e) p q size h

  done_masks : (block : ℕ) (short : Bool) → nat_lt (length main) 4 ≡ short → (p q : List ℕ) → length p ≡ 8192 → length q ≡ 8192 → mask block p ≡ mask block q → SameMasks (view block) (done short p) (done short q)
  done_masks block true e p q size_p size_q same = refl
  done_masks block false e p q size_p size_q same = slot_masks (take 4 main) (enough e) block p q size_p size_q same

  pub slot_is : (block : ℕ) → IsOperation (view block) (slot_operation rec parts id)
  slot_is block = record {
    page = λ p q size e. done_page (nat_lt (length main) 4) refl p q size e;
    mask = λ p q size_p size_q sound same. done_masks block (nat_lt (length main) 4) refl p q size_p size_q same.mask;
  }

pub slot_rules_are : AreRules slot_rules
slot_rules_are = record {
  mask = λ rec parts placed of_rec named. slot_is rec parts placed.block.id placed.block.name.block;
  fresh = λ rec parts id p q e. cc e;
}
