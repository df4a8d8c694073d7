-- The page that is split: pages with equal masks have the same items and links, so the same list is added to both, made anew.
use Rattle.std.proofs.Common.{◌≡◌, ℕ, zero, suc, ◌+◌, ◌-◌, ◌*◌, ◌<◌, ◌≤◌, ◌==◌, ◌&&◌, ◌≢◌, inr, ⊎_elim, List, [], ◌∷◌, ◌++◌, map, take, drop, Bool, true, false, Option, Some, None, refl, sym, ◌∙◌, ap, subst, arith}
use Rattle.std.specs.Prelude.{min, nat_le, nat_lt, if◌then◌else◌}
use Rattle.std.specs.List.{range_with_len}
use Rattle.std.proofs.lemmas.Bool.Decides.{nat_tests, eqb_tells, leb_tells}
use Rattle.page_layout.specs.Bytes.{cut}
use Rattle.page_layout.specs.Page.{count, lp_off, lp_len, item}
use Rattle.page_masks.specs.Mask.{mask}
use Rattle.page_masks.specs.Law.{view, SameMasks}
use Rattle.page_laws.specs.Btree.{BtreePage, SameBtreeItems, made_anew, with_special}
use Rattle.page_laws.proofs.BtreeAnew.{anew_page, anew_respects}
use Rattle.page_laws.proofs.BtreeShown.{btree_items}
use Rattle.page_laws.proofs.BtreeSpecial.{special_respects, special_keeps}
use Rattle.record_layouts.specs.declared.btree.BtreeSplit.{BtreeSplit}
use Rattle.block_layouts.specs.Split.{SplitView}
use Rattle.btree_pages.specs.Items.{items, with_items}
use Rattle.btree_pages.specs.Special.{btpo_next}
use Rattle.btree_pages.specs.Split.{first_data, stay_end, new_place, left_tuples, left_special, split_left_page}
use Rattle.btree_laws.proofs.Anew.{anew_count}
use Rattle.btree_laws.proofs.Steps.{IsStep}
use Rattle.btree_laws.proofs.Special.{left_change}
use Rattle.btree_laws.proofs.Added.{items_step}

-- an item without bytes
no_bytes : (p : List ℕ) (k : ℕ) → lp_len p k ≡ 0 → item p k ≡ []
unfolding cut
no_bytes p k e = ap (λ n. take n (drop (lp_off p k) p)) e

module _ (p q : List ℕ) (s : SameBtreeItems p q) where
  pub each : (k : ℕ) → k < count p → item q k ≡ item p k
  each k lt = ⊎_elim
      (λ (t : ((lp_len p k == 0) ≡ true) × (lp_len p k ≡ 0)). no_bytes q k (s.len k lt ∙ t.1) ∙ sym (no_bytes p k t.1))
      (λ (n : ((lp_len p k == 0) ≡ false) × (lp_len p k ≢ 0)). s.item k lt (omega (arith, n.1)))
      (eqb_tells (lp_len p k) 0)

  some : (n from : ℕ) → 0 < from → from + n ≤ count p + 1 → map (λ place. item q (place - 1)) (range_with_len from n) ≡ map (λ place. item p (place - 1)) (range_with_len from n)
  some zero from above there = refl
  some (suc n) from above there = λ t. each (from - 1) (omega (arith, above, there)) t ∷ some n (from + 1) (omega arith) (omega (arith, there)) t

  pub same_items : (from to : ℕ) → 0 < from → to ≤ count p + 1 → items q from to ≡ items p from to
  same_items from to above there = ⊎_elim
      (λ (t : (nat_le from to ≡ true) × (from ≤ to)). some (to - from) from above (omega (arith, t.1, there)))
      (λ (f : (nat_le from to ≡ false) × (to < from)). let n : to - from ≡ 0 = omega (arith, f.1) in rw n refl)
      (leb_tells from to)

  next_same : btpo_next q ≡ btpo_next p
  next_same = λ t. s.links 8180 (omega arith) (omega arith) t + 256 * s.links 8181 (omega arith) (omega arith) t + 65536 * (s.links 8182 (omega arith) (omega arith) t + 256 * s.links 8183 (omega arith) (omega arith) t)

  pub first_same : first_data q ≡ first_data p
  first_same = ap (λ n. if n == 0 then 1 else 2) next_same

  end_same : (op : BtreeSplit) → stay_end op q ≡ stay_end op p
  end_same op = ap (λ n. min op.first_right (n + 1)) s.lines

  place_same : (op : BtreeSplit) → new_place op q ≡ new_place op p
  place_same op = λ t. if nat_le (first_same t) op.new_item && nat_lt op.new_item (end_same op t) then op.new_item else end_same op t

-- the places are places of lines, counted from 1
pub first_above : (p : List ℕ) → 0 < first_data p
first_above p = by_case (btpo_next p == 0)
  where
    by_case : (b : Bool) → 0 < (if b then 1 else 2)
    by_case true = omega arith
    by_case false = omega arith

end_there : (op : BtreeSplit) (p : List ℕ) → stay_end op p ≤ count p + 1
end_there op p = omega arith

-- the new tuple's place is 0 only where no line stays
record IsPlaced (op : BtreeSplit) (p : List ℕ) : Type 0 where
  there : new_place op p ≤ stay_end op p
  above : new_place op p < stay_end op p → 0 < new_place op p

placed : (op : BtreeSplit) (p : List ℕ) → IsPlaced op p
placed op p = by_case (nat_le (first_data p) op.new_item && nat_lt op.new_item (stay_end op p)) refl
  where
    by_case : (b : Bool) → (nat_le (first_data p) op.new_item && nat_lt op.new_item (stay_end op p)) ≡ b → IsPlaced op p
    by_case true e =
        let from : first_data p ≤ op.new_item = grind (arith, nat_tests, e) in
        let to : op.new_item < stay_end op p = grind (arith, nat_tests, e) in
        let is : new_place op p ≡ op.new_item = rw e refl in
        record { there = omega (arith, is, to); above = λ lt. omega (arith, is, from, first_above p) }
    by_case false e =
        let is : new_place op p ≡ stay_end op p = rw e refl in
        record { there = omega (arith, is); above = λ lt. absurd (omega (arith, is, lt)) }

module _ (p q : List ℕ) (s : SameBtreeItems p q) (op : BtreeSplit) where
  -- the same items from the same places
  moved : (from from_q to to_q : ℕ) → from_q ≡ from → to_q ≡ to → (from < to → 0 < from) → to ≤ count p + 1 → items q from_q to_q ≡ items p from to
  moved from from_q to to_q a b above there = (λ t. items q (a t) (b t)) ∙ ⊎_elim
      (λ (t : (nat_le to from ≡ true) × (to ≤ from)). let n : to - from ≡ 0 = omega (arith, t.1) in rw n refl)
      (λ (f : (nat_le to from ≡ false) × (from < to)). same_items p q s from to (above f.1) there)
      (leb_tells to from)

  tuples_same : (new : Option (List ℕ)) → left_tuples op new q ≡ left_tuples op new p
  tuples_same None = moved (first_data p) (first_data q) (stay_end op p) (stay_end op q) (first_same p q s) (end_same p q s op) (λ lt. first_above p) (end_there op p)
  tuples_same (Some new) =
      let l = placed op p in
      let a = moved (first_data p) (first_data q) (new_place op p) (new_place op q) (first_same p q s) (place_same p q s op) (λ lt. first_above p) (omega (arith, l.there, end_there op p)) in
      let b = moved (new_place op p) (new_place op q) (stay_end op p) (stay_end op q) (place_same p q s op) (end_same p q s op) l.above (end_there op p) in
      λ t. a t ++ (new ∷ b t)

module _ (block right : ℕ) (op : BtreeSplit) (tuples : SplitView) where
  abbrev begun : List ℕ → List ℕ
  begun p = with_special (left_special right op) (made_anew p)

  begun_page : (p : List ℕ) → BtreePage p → BtreePage (begun p)
  begun_page p h = special_keeps (left_special right op) (made_anew p) (left_change right op) (anew_page p h)

  begun_masks : (p q : List ℕ) → BtreePage p → BtreePage q → mask block p ≡ mask block q → mask block (begun p) ≡ mask block (begun q)
  begun_masks p q hp hq m =
      special_respects block (left_special right op) (made_anew p) (made_anew q) (left_change right op) (anew_page p hp) (anew_page q hq) (inr (anew_count p hp.page.size)) (anew_respects block p q hp hq m)

  abbrev list : List ℕ → List (List ℕ)
  list p = tuples.high_key ∷ left_tuples op tuples.new_tuple p

  pub left_step : IsStep block (split_left_page right op tuples)
  left_step = record {
    page = λ p r h e. let s = items_step block (list p) in s.page (begun p) r (begun_page p h) e;
    same = λ p q hp hq m.
        let s = items_step block (list p) in
        let alike = tuples_same p q (btree_items block p q hp hq m) op tuples.new_tuple in
        subst (λ l. SameMasks (view block) (with_items (list p) (begun p)) (with_items (tuples.high_key ∷ l) (begun q))) (sym alike)
        (s.same (begun p) (begun q) (begun_page p hp) (begun_page q hq) (begun_masks p q hp hq m));
  }
