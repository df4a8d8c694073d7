-- Tuples merged into posting lists: pages with equal masks have the same items, so the same ones are added to both, made anew.
use Rattle.std.proofs.Common.{◌≡◌, ℕ, ◌+◌, ◌-◌, ◌<◌, ◌≤◌, ◌&&◌, inl, Err, List, [], ◌∷◌, ◌++◌, Bool, true, false, refl, sym, ◌∙◌, ap, subst, arith}
use Rattle.std.specs.Prelude.{nat_le, if◌then◌else◌}
use Rattle.std.specs.List.{flat_map, list_all}
use Rattle.std.proofs.lemmas.Bool.Decides.{nat_tests}
use Rattle.page_layout.specs.Page.{count, item}
use Rattle.page_layout.specs.declared.refusal.RedoWhy.TheVariants.{Place}
use Rattle.page_masks.specs.Law.{view, SameMasks}
use Rattle.page_masks.specs.Mask.{mask}
use Rattle.page_laws.specs.Btree.{BtreePage, SameBtreeItems, made_anew, with_special}
use Rattle.page_laws.proofs.BtreeAnew.{anew_page, anew_respects}
use Rattle.page_laws.proofs.BtreeShown.{btree_items}
use Rattle.page_laws.proofs.BtreeSpecial.{special_respects, special_keeps}
use Rattle.block_layouts.specs.declared.dedup.Interval.{Interval}
use Rattle.btree_pages.specs.Items.{items, with_items}
use Rattle.btree_pages.specs.Special.{without_garbage}
use Rattle.btree_pages.specs.Split.{first_data}
use Rattle.btree_pages.proofs.ItemsLemmas.{Done}
use Rattle.btree_posting.specs.Tuple.{tids_of, has_tids, key_of, is_key}
use Rattle.btree_posting.specs.Form.{form}
use Rattle.btree_posting.specs.Dedup.{members, merged, can_merge, can_merge_all, dedup_tuples, dedup_page}
use Rattle.btree_laws.proofs.Steps.{IsStep}
use Rattle.btree_laws.proofs.Special.{garbage_change, garbage_leaf}
use Rattle.btree_laws.proofs.Added.{items_step}
use Rattle.btree_laws.proofs.Halves.{each, same_items, first_same, first_above}

-- where an interval lies that can be merged
record Lies (p : List ℕ) (from : ℕ) (i : Interval) : Type 0 where
  behind : from ≤ i.base
  two : 2 ≤ i.count
  there : i.base + i.count ≤ count p + 1

lies_of : (p : List ℕ) (from : ℕ) (i : Interval) → (a b c d e : Bool) → nat_le from i.base ≡ a → nat_le 2 i.count ≡ b → nat_le (i.base + i.count) (count p + 1) ≡ c → (a && b && c && d && e) ≡ true → Lies p from i
lies_of p from i true true true d e ea eb ec is = record { behind = grind (arith, nat_tests, ea); two = grind (arith, nat_tests, eb); there = grind (arith, nat_tests, ec) }
lies_of p from i false b c d e ea eb ec is = cc is
lies_of p from i true false c d e ea eb ec is = cc is
lies_of p from i true true false d e ea eb ec is = cc is

lies : (p : List ℕ) (from : ℕ) (i : Interval) → can_merge p from i ≡ true → Lies p from i
lies p from i is =
    lies_of p from i (nat_le from i.base) (nat_le 2 i.count) (nat_le (i.base + i.count) (count p + 1)) (list_all has_tids (members p i)) (is_key (key_of (item p (i.base - 1)))) refl refl refl is

first_of_two : (a b : Bool) → (a && b) ≡ true → (a ≡ true) × (b ≡ true)
first_of_two true b e = (refl, e)
first_of_two false b e = cc e

module _ (p q : List ℕ) (s : SameBtreeItems p q) where
  module _ (from : ℕ) (i : Interval) (above : 0 < from) where
    members_same : Lies p from i → members q i ≡ members p i
    members_same l = same_items p q s i.base (i.base + i.count) (omega (arith, above, l.behind)) l.there

    first_member : Lies p from i → item q (i.base - 1) ≡ item p (i.base - 1)
    first_member l = each p q s (i.base - 1) (omega (arith, above, l.behind, l.two, l.there))

    merged_same : Lies p from i → merged q i ≡ merged p i
    merged_same l = (λ t. form (key_of (first_member l t)) (flat_map tids_of (members_same l t)))

    merge_same : can_merge q from i ≡ can_merge p from i
    merge_same = by_case (nat_le from i.base) (nat_le 2 i.count) (nat_le (i.base + i.count) (count p + 1)) refl refl refl
      where
        lines : nat_le (i.base + i.count) (count q + 1) ≡ nat_le (i.base + i.count) (count p + 1)
        lines = ap (λ n. nat_le (i.base + i.count) (n + 1)) s.lines

        by_case : (a b c : Bool) → nat_le from i.base ≡ a → nat_le 2 i.count ≡ b → nat_le (i.base + i.count) (count p + 1) ≡ c → can_merge q from i ≡ can_merge p from i
        by_case true true true ea eb ec =
            let l : Lies p from i = record { behind = grind (arith, nat_tests, ea); two = grind (arith, nat_tests, eb); there = grind (arith, nat_tests, ec) } in
            (λ t. nat_le from i.base && nat_le 2 i.count && lines t && list_all has_tids (members_same l t) && is_key (key_of (first_member l t)))
        by_case true true false ea eb ec = let f = lines ∙ ec in rw (ea, eb, ec, f) refl
        by_case true false c ea eb ec = rw (ea, eb) refl
        by_case false b c ea eb ec = rw ea refl

  all_same : (from : ℕ) (intervals : List Interval) → 0 < from → can_merge_all q from intervals ≡ can_merge_all p from intervals
  all_same from [] above = refl
  all_same from (i ∷ intervals) above = by_case (can_merge p from i) refl (λ l. all_same (i.base + i.count) intervals (omega (arith, l.two)))
    where
      by_case : (b : Bool) → can_merge p from i ≡ b → (Lies p from i → can_merge_all q (i.base + i.count) intervals ≡ can_merge_all p (i.base + i.count) intervals)
          → can_merge_all q from (i ∷ intervals) ≡ can_merge_all p from (i ∷ intervals)
      by_case true e rest = (λ t. merge_same from i above t && rest (lies p from i e) t)
      by_case false e rest = let f = merge_same from i above ∙ e in rw (e, f) refl

  tuples_same : (low from : ℕ) (intervals : List Interval) → 0 < low → low ≤ from → can_merge_all p from intervals ≡ true → dedup_tuples q low intervals ≡ dedup_tuples p low intervals
  tuples_same low from [] above le e = (λ t. items q low (s.lines t + 1)) ∙ same_items p q s low (count p + 1) above (omega arith)
  tuples_same low from (i ∷ intervals) above le e =
      let b = first_of_two (can_merge p from i) (can_merge_all p (i.base + i.count) intervals) e in
      let l = lies p from i b.0 in
      let before = same_items p q s low i.base above (omega (arith, l.there)) in
      let one = merged_same from i (omega (arith, above, le)) l in
      let rest = tuples_same (i.base + i.count) (i.base + i.count) intervals (omega (arith, l.two)) (omega arith) b.1 in
      (λ t. before t ++ (one t ∷ rest t))

  from_first : (intervals : List Interval) → can_merge_all q (first_data q) intervals ≡ can_merge_all p (first_data p) intervals
  from_first intervals = (λ t. can_merge_all q (first_same p q s t) intervals) ∙ all_same (first_data p) intervals (first_above p)

module _ (block : ℕ) (intervals : List Interval) where
  abbrev begun : List ℕ → List ℕ
  begun p = with_special without_garbage (made_anew p)

  begun_page : (p : List ℕ) → BtreePage p → BtreePage (begun p)
  begun_page p h = special_keeps without_garbage (made_anew p) garbage_change (anew_page p h)

  begun_masks : (p q : List ℕ) → BtreePage p → BtreePage q → mask block p ≡ mask block q → mask block (begun p) ≡ mask block (begun q)
  begun_masks p q hp hq m =
      special_respects block without_garbage (made_anew p) (made_anew q) garbage_change (anew_page p hp) (anew_page q hq) (inl garbage_leaf) (anew_respects block p q hp hq m)

  abbrev merges : List ℕ → Bool
  merges p = can_merge_all p (first_data p) intervals

  pub dedup_step : IsStep block (dedup_page intervals)
  dedup_step = record {
    page = λ p r h e. left p r h (merges p) e;
    same = λ p q hp hq m. told p q hp hq m (btree_items block p q hp hq m) (merges p) refl;
  }
    where
      left : (p r : List ℕ) → BtreePage p → (b : Bool) → (if b then with_items (dedup_tuples p 1 intervals) (begun p) else Err Place) ≡ Done r → BtreePage r
      left p r h true e = let s = items_step block (dedup_tuples p 1 intervals) in s.page (begun p) r (begun_page p h) e
      left p r h false e = cc e

      told : (p q : List ℕ) → BtreePage p → BtreePage q → mask block p ≡ mask block q → SameBtreeItems p q → (b : Bool) → merges p ≡ b → SameMasks (view block) (dedup_page intervals p) (dedup_page intervals q)
      told p q hp hq m s true e =
          let f : merges q ≡ true = from_first p q s intervals ∙ e in
          let list = dedup_tuples p 1 intervals in
          let alike = tuples_same p q s 1 (first_data p) intervals (omega arith) (first_above p) e in
          let added = items_step block list in
          rw (e, f) (subst (λ l. SameMasks (view block) (with_items list (begun p)) (with_items l (begun q))) (sym alike)
          (added.same (begun p) (begun q) (begun_page p hp) (begun_page q hq) (begun_masks p q hp hq m)))
      told p q hp hq m s false e = let f : merges q ≡ false = from_first p q s intervals ∙ e in rw (e, f) refl
