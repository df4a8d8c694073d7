-- A B-tree page made anew, with its special space kept.
use Rattle.std.proofs.Common.{◌≡◌, ℕ, ◌+◌, ◌-◌, ◌*◌, ◌/◌, ◌<◌, ◌≤◌, inl, inr, List, length, refl, sym, ◌∙◌, ap, arith}
use Rattle.std.specs.Prelude.{replicate}
use Rattle.std.proofs.lemmas.List.{length-replicate}
use Rattle.layout.specs.Splice.{splice}
use Rattle.page_layout.specs.Bytes.{byte, u16_at, with_u16, u16_bytes, up8, cut}
use Rattle.page_layout.specs.Page.{pd_lower, pd_upper, pd_special, count}
use Rattle.page_layout.specs.Edits.{init_bytes}
use Rattle.layout.proofs.SpliceLemmas.{length-splice, byte-splice_in, byte-splice_below, byte-splice_out}
use Rattle.page_layout.proofs.BytesLemmas.{length-cut, byte-cut, byte-zeros}
use Rattle.page_layout.proofs.LineViews.{u16_at-with_u16, u16_at-with_u16_out}
use Rattle.page_layout.proofs.ReadLemmas.{lower_u16, upper_u16, special_u16}
use Rattle.page_layout.proofs.ShapeLemmas.{lines_below}
use Rattle.page_masks.specs.Mask.{mask, shown_flags}
use Rattle.page_laws.specs.Btree.{BtreePage, made_anew}
use Rattle.page_laws.proofs.BtreeAlike.{BtreeAlike, btree_masks, btree_alike}

-- four numbers laid into a page of zeros
module _ (zeros : List ℕ) (zeros_size : length zeros ≡ 8192) (end : ℕ) where
  abbrev pub z1 : List ℕ
  z1 = with_u16 zeros 12 24

  abbrev pub z2 : List ℕ
  z2 = with_u16 z1 14 end

  abbrev pub z3 : List ℕ
  z3 = with_u16 z2 16 end

  abbrev pub z : List ℕ
  z = with_u16 z3 18 8196

  size1 : length z1 ≡ 8192
  size1 = length-splice zeros 12 (u16_bytes 24) (omega (arith, zeros_size)) ∙ zeros_size

  size2 : length z2 ≡ 8192
  size2 = length-splice z1 14 (u16_bytes end) (omega (arith, size1)) ∙ size1

  size3 : length z3 ≡ 8192
  size3 = length-splice z2 16 (u16_bytes end) (omega (arith, size2)) ∙ size2

  pub empty_size : length z ≡ 8192
  empty_size = length-splice z3 18 (u16_bytes 8196) (omega (arith, size3)) ∙ size3

  pub empty_lower : u16_at z 12 ≡ 24
  empty_lower = u16_at-with_u16_out z3 18 8196 12 (omega (arith, size3)) (inl (omega arith)) ∙ u16_at-with_u16_out z2 16 end 12 (omega (arith, size2)) (inl (omega arith))
      ∙ u16_at-with_u16_out z1 14 end 12 (omega (arith, size1)) (inl (omega arith)) ∙ u16_at-with_u16 zeros 12 24 (omega (arith, zeros_size))

  pub empty_upper : u16_at z 14 ≡ end
  empty_upper = u16_at-with_u16_out z3 18 8196 14 (omega (arith, size3)) (inl (omega arith)) ∙ u16_at-with_u16_out z2 16 end 14 (omega (arith, size2)) (inl (omega arith)) ∙ u16_at-with_u16 z1 14 end (omega (arith, size1))

  pub empty_special : u16_at z 16 ≡ end
  empty_special = u16_at-with_u16_out z3 18 8196 16 (omega (arith, size3)) (inl (omega arith)) ∙ u16_at-with_u16 z2 16 end (omega (arith, size2))

  pub empty_layout : u16_at z 18 ≡ 8196
  empty_layout = u16_at-with_u16 z3 18 8196 (omega (arith, size3))

  empty_rest : (i : ℕ) → 20 ≤ i → byte z i ≡ byte zeros i
  empty_rest i le = byte-splice_out z3 18 (u16_bytes 8196) i (omega (arith, size3)) (inr (omega (arith, le))) ∙ byte-splice_out z2 16 (u16_bytes end) i (omega (arith, size2)) (inr (omega (arith, le)))
      ∙ byte-splice_out z1 14 (u16_bytes end) i (omega (arith, size1)) (inr (omega (arith, le))) ∙ byte-splice_out zeros 12 (u16_bytes 24) i (omega (arith, zeros_size)) (inr (omega (arith, le)))

-- an empty page with a special space of 16 bytes
record Empty (r : List ℕ) : Type 0 where
  size : length r ≡ 8192
  lower : u16_at r 12 ≡ 24
  upper : u16_at r 14 ≡ 8176
  special : u16_at r 16 ≡ 8176
  layout : u16_at r 18 ≡ 8196

pub init_size : length (replicate {A = ℕ} 8192 0) ≡ 8192
init_size = length-replicate {A = ℕ} 8192 0

init_is : Empty (init_bytes 16)
init_is = record {
  size = empty_size (replicate 8192 0) init_size (8192 - up8 16);
  lower = empty_lower (replicate 8192 0) init_size (8192 - up8 16);
  upper = empty_upper (replicate 8192 0) init_size (8192 - up8 16);
  special = empty_special (replicate 8192 0) init_size (8192 - up8 16);
  layout = empty_layout (replicate 8192 0) init_size (8192 - up8 16);
}

init_rest : (i : ℕ) → 20 ≤ i → byte (init_bytes 16) i ≡ 0
init_rest i le = empty_rest (replicate 8192 0) init_size (8192 - up8 16) i le ∙ byte-zeros 8192 i

empty_page : (r : List ℕ) → Empty r → u16_at r 8190 ≤ 0xFF7F → BtreePage r
empty_page r e cycle = record {
  page = record {
    size = e.size;
    head = record {
      low = omega (arith, lower);
      mid = omega (arith, lower, upper);
      high = omega (arith, upper, special);
      top = omega (arith, special);
      by4 = rw lower refl;
      by8 = rw upper refl;
      special8 = rw special refl;
      layout = e.layout;
    };
    lines = lines_below r (count r) (λ k lt. absurd (omega (arith, lt, lower)));
    special = special;
  };
  cycle = cycle;
}
  where
    lower : pd_lower r ≡ 24
    lower = lower_u16 r ∙ e.lower

    upper : pd_upper r ≡ 8176
    upper = upper_u16 r ∙ e.upper

    special : pd_special r ≡ 8176
    special = special_u16 r ∙ e.special

pub init_page : BtreePage (init_bytes 16)
init_page = empty_page (init_bytes 16) init_is (omega (arith, init_rest 8190 (omega arith), init_rest 8191 (omega arith)))

-- with other bytes as its special space
module _ (part : List ℕ) (part_size : length part ≡ 16) where
  abbrev m : List ℕ
  m = splice (init_bytes 16) 8176 part

  fits : 8176 + length part ≤ length (init_bytes 16)
  fits = omega (arith, part_size, init_is.size)

  front : (i : ℕ) → i < 8176 → byte m i ≡ byte (init_bytes 16) i
  front i lt = byte-splice_below (init_bytes 16) 8176 part i fits lt

  front_u16 : (i : ℕ) → i < 8175 → u16_at m i ≡ u16_at (init_bytes 16) i
  front_u16 i lt = λ t. front i (omega (arith, lt)) t + 256 * front (i + 1) (omega (arith, lt)) t

  part_at : (i : ℕ) → 8176 ≤ i → i < 8192 → byte m i ≡ byte part (i - 8176)
  part_at i le lt = byte-splice_in (init_bytes 16) 8176 part i fits le (omega (arith, part_size, lt))

  anew_empty : Empty m
  anew_empty = record {
    size = length-splice (init_bytes 16) 8176 part fits ∙ init_is.size;
    lower = front_u16 12 (omega arith) ∙ init_is.lower;
    upper = front_u16 14 (omega arith) ∙ init_is.upper;
    special = front_u16 16 (omega arith) ∙ init_is.special;
    layout = front_u16 18 (omega arith) ∙ init_is.layout;
  }

special_size : (p : List ℕ) → BtreePage p → length (cut p 8176 16) ≡ 16
special_size p h = length-cut p 8176 16 (omega (arith, h.page.size))

special_at : (p : List ℕ) → BtreePage p → (i : ℕ) → 8176 ≤ i → i < 8192 → byte (made_anew p) i ≡ byte p i
special_at p h i le lt = let back : 8176 + (i - 8176) ≡ i = omega (arith, le) in part_at (cut p 8176 16) (special_size p h) i le lt ∙ byte-cut p 8176 16 (i - 8176) (omega (arith, lt)) ∙ ap (byte p) back

pub anew_page : (p : List ℕ) → BtreePage p → BtreePage (made_anew p)
anew_page p h = empty_page (made_anew p) (anew_empty (cut p 8176 16) (special_size p h)) (omega (arith, special_at p h 8190 (omega arith) (omega arith), special_at p h 8191 (omega arith) (omega arith), h.cycle))

pub anew_respects : (block : ℕ) (p q : List ℕ) → BtreePage p → BtreePage q → mask block p ≡ mask block q → mask block (made_anew p) ≡ mask block (made_anew q)
anew_respects block p q hp hq same = btree_masks block (made_anew p) (made_anew q) (anew_page p hp) (anew_page q hq) (record {
  ten = (λ t. same_front 10 (omega arith) t / 8 * 8);
  head = λ i le lt. same_front i (omega (arith, lt));
  lines = λ i le lt. absurd (omega (arith, le, lt, lower_u16 (made_anew p), (anew_empty (cut p 8176 16) (special_size p hp)).lower));
  items = λ i le lt. let high : 8176 ≤ i = omega (arith, le, upper_u16 (made_anew p), (anew_empty (cut p 8176 16) (special_size p hp)).upper) in
      special_at p hp i high (omega (arith, lt)) ∙ a.items i (omega (arith, high, hp.page.head.high, hp.page.special)) lt ∙ sym (special_at q hq i high (omega (arith, lt)));
  flags = ap shown_flags (end_p 8188 (omega arith) (omega arith)) ∙ a.flags ∙ ap shown_flags (sym (end_q 8188 (omega arith) (omega arith)));
  last = end_p 8189 (omega arith) (omega arith) ∙ a.last ∙ sym (end_q 8189 (omega arith) (omega arith));
})
  where
    a : BtreeAlike p q
    a = btree_alike block p q hp hq same

    same_front : (i : ℕ) → i < 8176 → byte (made_anew p) i ≡ byte (made_anew q) i
    same_front i lt = front (cut p 8176 16) (special_size p hp) i lt ∙ sym (front (cut q 8176 16) (special_size q hq) i lt)

    end_p : (i : ℕ) → 8188 ≤ i → i < 8192 → byte (made_anew p) i ≡ byte p i
    end_p i le lt = special_at p hp i (omega (arith, le)) lt

    end_q : (i : ℕ) → 8188 ≤ i → i < 8192 → byte (made_anew q) i ≡ byte q i
    end_q i le lt = special_at q hq i (omega (arith, le)) lt
