-- What the mask of a B-tree page shows: that it is one, its lines' places and lengths, and its items.
use Rattle.std.proofs.Common.{◌≡◌, ℕ, ◌+◌, ◌*◌, ◌<◌, ◌≤◌, List, length, sym, ◌∙◌, ap, arith, Bool, true, false, refl, ◌↔◌}
use Rattle.std.specs.Prelude.{if◌then◌else◌}
use Rattle.std.proofs.lemmas.List.{ext_get_or}
use Rattle.page_layout.specs.Bytes.{cut}
use Rattle.page_layout.specs.Page.{pd_lower, count, lp_off, lp_len, item}
use Rattle.page_layout.proofs.BytesLemmas.{length-cut, byte-cut}
use Rattle.page_layout.proofs.ShapeLemmas.{held_in}
use Rattle.page_masks.specs.declared.kind.PageKind.TheVariants.{Zero, Btree}
use Rattle.page_masks.specs.Kind.{kind_of, is_zero}
use Rattle.page_masks.specs.Mask.{mask, is_leaf}
use Rattle.page_masks.proofs.Lines.{alike_off, alike_len}
use Rattle.page_masks.proofs.MaskShape.{kind_shown}
use Rattle.page_masks.proofs.ShapeKind.{shape_kind, shape_cases, shape_btree}
use Rattle.page_masks.proofs.Unshown.{not_zero}
use Rattle.page_laws.specs.Btree.{BtreePage, SameBtreeItems}
use Rattle.page_laws.proofs.BtreeAdd.{btree_formed}
use Rattle.page_laws.proofs.BtreeAlike.{BtreeAlike, count_same, leaf_same, btree_alike}

-- the page's kind, and back
kind_open : (p : List ℕ) → kind_of p ≡ (if is_zero p then Zero else shape_kind p)
unfolding kind_of
kind_open p = refl

kind_of_page : (p : List ℕ) → BtreePage p → kind_of p ≡ Btree
kind_of_page p h = kind_open p ∙ rw (not_zero p h.page.head.layout) (shape_btree p h.page h.cycle).is

page_of_kind : (p : List ℕ) → length p ≡ 8192 → kind_of p ≡ Btree → BtreePage p
page_of_kind p size e = by_case (is_zero p) (sym (kind_open p) ∙ e)
  where
    by_case : (b : Bool) → (if b then Zero else shape_kind p) ≡ Btree → BtreePage p
    by_case true h = cc h
    by_case false h = shape_cases p (λ k. k ≡ Btree → BtreePage p) size (λ g e. cc e) (λ g w e. record { page = g; cycle = w }) (λ g e. cc e) (λ g e. cc e) h

pub btree_kind : (p : List ℕ) → length p ≡ 8192 → BtreePage p ↔ (kind_of p ≡ Btree)
btree_kind p size = (λ h. kind_of_page p h, λ e. page_of_kind p size e)

pub btree_shown : (block : ℕ) (p q : List ℕ) → BtreePage p → length q ≡ 8192 → mask block p ≡ mask block q → BtreePage q
btree_shown block p q h size same = shape_cases q (λ k. k ≡ Btree → BtreePage q) size (λ g e. cc e) (λ g w e. record { page = g; cycle = w }) (λ g e. cc e) (λ g e. cc e) is
  where
    is : shape_kind q ≡ Btree
    is = sym (kind_shown block q size).is ∙ ap shape_kind (sym same) ∙ (kind_shown block p h.page.size).is ∙ (shape_btree p h.page h.cycle).is

module _ (p q : List ℕ) (hp : BtreePage p) (hq : BtreePage q) (a : BtreeAlike p q) where
  in_lines : (k : ℕ) → k < count p → 28 + 4 * k ≤ pd_lower p
  in_lines k lt = omega (arith, lt, hp.page.head.low, hp.page.head.by4)

  pub same_off : (k : ℕ) → k < count p → lp_off p k ≡ lp_off q k
  same_off k lt = alike_off (is_leaf p) (pd_lower p) p q a.lines k (in_lines k lt)

  pub same_len : (k : ℕ) → k < count p → lp_len p k ≡ lp_len q k
  same_len k lt = alike_len (is_leaf p) (pd_lower p) p q a.lines k (in_lines k lt)

  pub same_item : (k : ℕ) → k < count p → 0 < lp_len p k → item p k ≡ item q k
  same_item k lt some =
      let i = held_in p k (btree_formed p hp) lt some in
      let whole : lp_off p k + lp_len p k ≤ 8176 = omega (arith, i.to, hp.page.special) in
      let n = length-cut p (lp_off p k) (lp_len p k) (omega (arith, whole, hp.page.size)) in
      ext_get_or 0 (item p k) (cut q (lp_off p k) (lp_len p k)) (n ∙ sym (length-cut q (lp_off p k) (lp_len p k) (omega (arith, whole, hq.page.size))))
      (λ o lt_o.
      let small : o < lp_len p k = omega (arith, lt_o, n) in
      byte-cut p (lp_off p k) (lp_len p k) o small ∙ a.items (lp_off p k + o) (omega (arith, i.from)) (omega (arith, whole, small)) ∙ sym (byte-cut q (lp_off p k) (lp_len p k) o small))
      ∙ (λ t. cut q (same_off k lt t) (same_len k lt t))

  pub same_items : SameBtreeItems p q
  same_items = record {
    lines = sym (count_same p q a);
    off = λ k lt. sym (same_off k lt);
    len = λ k lt. sym (same_len k lt);
    item = λ k lt some. sym (same_item k lt some);
    links = λ i le lt. sym (a.items i (omega (arith, le, hp.page.head.high, hp.page.special)) lt);
    leaf = sym (leaf_same p q a);
  }

pub btree_items : (block : ℕ) (p q : List ℕ) → BtreePage p → BtreePage q → mask block p ≡ mask block q → SameBtreeItems p q
btree_items block p q hp hq same = same_items p q hp hq (btree_alike block p q hp hq same)
