-- Steps on B-tree pages whose items don't overlap, and the door from them to the law of the masks.
use Rattle.std.proofs.Common.{◌≡◌, ℕ, ◌+◌, ◌<◌, ◌≤◌, ⊎_elim, inl, inr, List, Bool, true, false, IsTrue, Err, length, refl, sym, ◌∙◌, subst, arith}
use Rattle.std.specs.Prelude.{if◌then◌else◌}
use Rattle.page_layout.specs.Apart.{Apart, AreApart}
use Rattle.page_layout.specs.Bytes.{up8}
use Rattle.page_layout.specs.Page.{count, lp_off, lp_len}
use Rattle.page_layout.specs.declared.refusal.RedoWhy.TheVariants.{PageShape}
use Rattle.page_layout.proofs.ApartLemmas.{test_apart}
use Rattle.page_masks.specs.Law.{Redone, view, SameMasks, IsOperation, and_then}
use Rattle.page_masks.specs.Mask.{mask}
use Rattle.page_masks.specs.Sound.{is_sound, sound_as}
use Rattle.page_laws.specs.Btree.{BtreePage, SameBtreeItems}
use Rattle.page_laws.proofs.BtreeShown.{btree_kind, btree_items}
use Rattle.btree_pages.specs.Page.{is_btree_page, on_btree}
use Rattle.btree_pages.proofs.ItemsLemmas.{Done}
use Rattle.btree_laws.proofs.Steps.{IsStep, through, same_then, is_page, page_is, shown}

-- of a B-tree page it makes 8192 bytes; where its items don't overlap a B-tree page, and of one with the same mask the same
-- refusal, or a page with the same mask
pub record IsSoundStep (block : ℕ) (go : List ℕ → Redone) : Type 0 where
  pub size : (p r : List ℕ) → BtreePage p → go p ≡ Done r → length r ≡ 8192
  pub page : (p r : List ℕ) → BtreePage p → AreApart p → go p ≡ Done r → BtreePage r
  pub same : (p q : List ℕ) → BtreePage p → BtreePage q → AreApart p → mask block p ≡ mask block q → SameMasks (view block) (go p) (go q)

-- .. whose items don't overlap either
abbrev pub KeepsApart : (List ℕ → Redone) → Type 0
KeepsApart go = (p r : List ℕ) → BtreePage p → AreApart p → go p ≡ Done r → AreApart r

pub sound_step : (block : ℕ) (go : List ℕ → Redone) → IsStep block go → IsSoundStep block go
sound_step block go s = record {
  size = λ p r h e. let b = s.page p r h e in b.page.size;
  page = λ p r h apart e. s.page p r h e;
  same = λ p q hp hq apart m. s.same p q hp hq m;
}

-- pages with equal masks have the same lines
apart_shown : (block : ℕ) (p q : List ℕ) → BtreePage p → BtreePage q → AreApart p → mask block p ≡ mask block q → AreApart q
apart_shown block p q hp hq apart m = λ j k lt there a b. other j k lt there a b
  where
    s : SameBtreeItems p q
    s = btree_items block p q hp hq m

    other : (j k : ℕ) → j < k → k < count q → 0 < lp_len q j → 0 < lp_len q k → Apart q j k
    other j k lt there a b =
        let tk : k < count p = omega (arith, there, s.lines) in
        let tj : j < count p = omega (arith, lt, tk) in
        let lj = s.len j tj in
        let lk = s.len k tk in
        let oj = s.off j tj in
        let ok = s.off k tk in
        ⊎_elim
        (λ (x : lp_off p j + up8 (lp_len p j) ≤ lp_off p k). inl (omega (arith, x, lj, lk, oj, ok)))
        (λ (y : lp_off p k + up8 (lp_len p k) ≤ lp_off p j). inr (omega (arith, y, lj, lk, oj, ok)))
        (apart j k lt tk (omega (arith, a, lj)) (omega (arith, b, lk)))

-- a redo that asks for a B-tree page, on one
on_is : (go : List ℕ → Redone) (p : List ℕ) → BtreePage p → on_btree go p ≡ go p
on_is go p h = rw (is_page p h) refl

pub on_left : (go : List ℕ → Redone) (Is : List ℕ → Type 0) → ((p r : List ℕ) → BtreePage p → go p ≡ Done r → Is r) → (p r : List ℕ) → length p ≡ 8192 → on_btree go p ≡ Done r → Is r
on_left go Is each p r size e = by_case (is_btree_page p) refl e
  where
    by_case : (b : Bool) → is_btree_page p ≡ b → (if b then go p else Err PageShape) ≡ Done r → Is r
    by_case true is h = each p r (page_is p size is) h
    by_case false is h = cc h

abbrev Has8192 : List ℕ → Type 0
Has8192 r = length r ≡ 8192

-- one step, and another where it leaves a B-tree page
pub sound_then : (block : ℕ) (f g : List ℕ → Redone) → IsSoundStep block f → KeepsApart f → IsSoundStep block g → IsSoundStep block (λ p. and_then (f p) (on_btree g))
sound_then block f g sf keeps sg = record {
  size = λ p r h e. let t = through (f p) (on_btree g) r e in on_left g Has8192 sg.size t.mid r (sf.size p t.mid h t.is) t.goes_on;
  page = λ p r h apart e.
      let t = through (f p) (on_btree g) r e in
      let b = sf.page p t.mid h apart t.is in
      sg.page t.mid r b (keeps p t.mid h apart t.is) (sym (on_is g t.mid b) ∙ t.goes_on);
  same = λ p q hp hq apart m. same_then (view block) (f p) (f q) (on_btree g) (on_btree g) (sf.same p q hp hq apart m) (λ x y ex ey n.
      let bx = sf.page p x hp apart ex in
      let by = sf.page q y hq (apart_shown block p q hp hq apart m) ey in
      subst (λ a. SameMasks (view block) a (on_btree g y)) (sym (on_is g x bx)) (subst (SameMasks (view block) (g x)) (sym (on_is g y by)) (sg.same x y bx by (keeps p x hp apart ex) n)));
}

-- .. that leaves one anyway
pub left_then : (block : ℕ) (f g : List ℕ → Redone) → IsSoundStep block f → KeepsApart f → ((p r : List ℕ) → BtreePage p → f p ≡ Done r → BtreePage r) → IsSoundStep block g → IsSoundStep block (λ p. and_then (f p) g)
left_then block f g sf keeps page sg = record {
  size = λ p r h e. let t = through (f p) g r e in sg.size t.mid r (page p t.mid h t.is) t.goes_on;
  page = λ p r h apart e. let t = through (f p) g r e in sg.page t.mid r (page p t.mid h t.is) (keeps p t.mid h apart t.is) t.goes_on;
  same = λ p q hp hq apart m. same_then (view block) (f p) (f q) g g (sf.same p q hp hq apart m) (λ x y ex ey n. sg.same x y (page p x hp ex) (page q y hq ey) (keeps p x hp apart ex) n);
}

pub apart_then : (f g : List ℕ → Redone) → ((p r : List ℕ) → BtreePage p → AreApart p → f p ≡ Done r → BtreePage r) → KeepsApart f → KeepsApart g → KeepsApart (λ p. and_then (f p) (on_btree g))
apart_then f g page keeps_f keeps_g = λ p r h apart e.
    let t = through (f p) (on_btree g) r e in
    let b = page p t.mid h apart t.is in
    keeps_g t.mid r b (keeps_f p t.mid h apart t.is) (sym (on_is g t.mid b) ∙ t.goes_on)

-- a sound B-tree page
sound_apart : (p : List ℕ) → BtreePage p → IsTrue (is_sound p) → AreApart p
unfolding is_sound
sound_apart p h s = let k = btree_kind p h.page.size in test_apart p (subst (λ k. IsTrue (sound_as k p)) (k.0 h) s)

pub sound_operation : (block : ℕ) (go : List ℕ → Redone) → IsSoundStep block go → IsOperation (view block) (on_btree go)
sound_operation block go s = record {
  page = λ p r size e. on_left go Has8192 s.size p r size e;
  mask = λ p q size_p size_q sound same. told p q size_p size_q sound same.mask (is_btree_page p) refl (is_btree_page q) refl;
}
  where
    told : (p q : List ℕ) → length p ≡ 8192 → length q ≡ 8192 → IsTrue (is_sound p) → mask block p ≡ mask block q → (a : Bool) → is_btree_page p ≡ a → (b : Bool) → is_btree_page q ≡ b → SameMasks (view block) (on_btree go p) (on_btree go q)
    told p q size_p size_q sound m true ea true eb =
        let hp = page_is p size_p ea in
        let hq = page_is q size_q eb in
        subst (λ a. SameMasks (view block) a (on_btree go q)) (sym (on_is go p hp)) (subst (SameMasks (view block) (go p)) (sym (on_is go q hq)) (s.same p q hp hq (sound_apart p hp sound) m))
    told p q size_p size_q sound m false ea false eb = rw (ea, eb) refl
    told p q size_p size_q sound m true ea false eb = let x = sym ea ∙ shown block p q size_p size_q m ∙ eb in cc x
    told p q size_p size_q sound m false ea true eb = let x = sym ea ∙ shown block p q size_p size_q m ∙ eb in cc x
