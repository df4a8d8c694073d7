-- Steps on B-tree pages with equal masks, and the door from them to the law of the masks.
use Rattle.std.proofs.Common.{◌≡◌, ℕ, List, Bool, true, false, Result, Ok, Err, length, refl, sym, ◌∙◌, ap, subst}
use Rattle.page_layout.specs.declared.refusal.PageRefusal.{PageRefusal}
use Rattle.page_layout.specs.declared.refusal.RedoWhy.TheVariants.{PageShape}
use Rattle.page_masks.specs.declared.kind.PageKind.{PageKind}
use Rattle.page_masks.specs.declared.kind.PageKind.TheVariants.{Btree}
use Rattle.page_masks.specs.Kind.{kind_of}
use Rattle.page_masks.specs.Law.{Redone, PageView, view, SameMasks, IsOperation, Respects, and_then}
use Rattle.page_masks.specs.Mask.{mask}
use Rattle.page_laws.specs.Btree.{BtreePage}
use Rattle.page_laws.specs.Results.{SameResults}
use Rattle.page_laws.proofs.BtreeShown.{btree_kind, btree_shown}
use Rattle.page_laws.proofs.Refused.{OkPage}
use Rattle.page_laws.proofs.StepsTogether.{refused_operation}
use Rattle.redo_steps.specs.Redo.{why_of, on_page}
use Rattle.btree_pages.specs.Page.{is_btree, is_btree_page, on_btree}
use Rattle.btree_pages.proofs.ItemsLemmas.{Done}

-- a B-tree page stays one, and pages with equal masks get the same refusal, or pages with equal masks
pub record IsStep (block : ℕ) (go : List ℕ → Redone) : Type 0 where
  pub page : (p r : List ℕ) → BtreePage p → go p ≡ Done r → BtreePage r
  pub same : (p q : List ℕ) → BtreePage p → BtreePage q → mask block p ≡ mask block q → SameMasks (view block) (go p) (go q)

pub done_same : (p r : List ℕ) → Done p ≡ Done r → p ≡ r
done_same p r e = cc e

-- no step, and a page that is left without a refusal
pub no_step : (block : ℕ) → IsStep block (λ p. Done p)
no_step block = record { page = λ p r h e. subst BtreePage (done_same p r e) h; same = λ p q hp hq m. m }

-- one step, then another
pub record Through (a : Redone) (g : List ℕ → Redone) (r : List ℕ) : Type 0 where
  pub mid : List ℕ
  pub is : a ≡ Done mid
  pub goes_on : g mid ≡ Done r

pub through : (a : Redone) (g : List ℕ → Redone) (r : List ℕ) → and_then a g ≡ Done r → Through a g r
through (Ok mid) g r e = record { mid = mid; is = refl; goes_on = e }
through (Err why) g r e = cc e

pub same_then : (v : PageView) (a b : Redone) (f g : List ℕ → Redone) → SameMasks v a b
    → ((p q : List ℕ) → a ≡ Done p → b ≡ Done q → v.mask p ≡ v.mask q → SameMasks v (f p) (g q)) → SameMasks v (and_then a f) (and_then b g)
same_then v (Ok p) (Ok q) f g same on = on p q refl refl same
same_then v (Err a) (Err b) f g same on = same
same_then v (Ok p) (Err b) f g same on = absurd same
same_then v (Err a) (Ok q) f g same on = absurd same

pub both_steps : (block : ℕ) (f g : List ℕ → Redone) → IsStep block f → IsStep block g → IsStep block (λ p. and_then (f p) g)
both_steps block f g sf sg = record {
  page = λ p r h e. let t = through (f p) g r e in sg.page t.mid r (sf.page p t.mid h t.is) t.goes_on;
  same = λ p q hp hq m. same_then (view block) (f p) (f q) g g (sf.same p q hp hq m) (λ x y ex ey n. sg.same x y (sf.page p x hp ex) (sf.page q y hq ey) n);
}

-- a call of a page
pub same_calls : (block : ℕ) (a b : Result (List ℕ) PageRefusal) → SameResults block a b → SameMasks (view block) (on_page a) (on_page b)
same_calls block (Ok p) (Ok q) s = s
same_calls block (Err a) (Err b) s = ap why_of s
same_calls block (Ok p) (Err b) s = absurd s
same_calls block (Err a) (Ok q) s = absurd s

pub called : (a : Result (List ℕ) PageRefusal) (r : List ℕ) → on_page a ≡ Done r → a ≡ OkPage r
called (Ok p) r e = ap OkPage (done_same p r e)
called (Err why) r e = cc e

-- the mask tells B-tree pages from others
pub is_page : (p : List ℕ) → BtreePage p → is_btree_page p ≡ true
is_page p h = let t = btree_kind p h.page.size in ap is_btree (t.0 h)

pub page_is : (p : List ℕ) → length p ≡ 8192 → is_btree_page p ≡ true → BtreePage p
page_is p size e = let t = btree_kind p size in t.1 (by_kind (kind_of p) e)
  where
    by_kind : (k : PageKind) → is_btree k ≡ true → k ≡ Btree
    by_kind Btree e = refl
    by_kind _ e = cc e

pub shown : (block : ℕ) (p q : List ℕ) → length p ≡ 8192 → length q ≡ 8192 → mask block p ≡ mask block q → is_btree_page p ≡ is_btree_page q
shown block p q size_p size_q same = by_case (is_btree_page p) (is_btree_page q) refl refl
  where
    by_case : (a b : Bool) → is_btree_page p ≡ a → is_btree_page q ≡ b → is_btree_page p ≡ is_btree_page q
    by_case true b ea eb = ea ∙ sym (is_page q (btree_shown block p q (page_is p size_p ea) size_q same))
    by_case false true ea eb = is_page p (btree_shown block q p (page_is q size_q eb) size_p (sym same)) ∙ sym eb
    by_case false false ea eb = ea ∙ sym eb

pub step_operation : (block : ℕ) (go : List ℕ → Redone) → IsStep block go → IsOperation (view block) (on_btree go)
step_operation block go s = refused_operation block is_btree_page go PageShape (shown block) respects
  where
    respects : Respects (view block) is_btree_page go
    respects = record {
      page = λ p q size t e. let h = s.page p q (page_is p size t) e in h.page.size;
      keeps = λ p q size t e. is_page q (s.page p q (page_is p size t) e);
      mask = λ p q size_p size_q tp tq m. s.same p q (page_is p size_p tp) (page_is q size_q tq) m;
    }
