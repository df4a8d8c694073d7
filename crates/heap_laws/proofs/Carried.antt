-- Two runs side by side: the same refusal, or pages that are related.
use Rattle.std.proofs.Common.{◌≡◌, ℕ, List, Bool, true, false, Ok, Err, refl, sym, ◌∙◌, ap}
use Rattle.std.specs.Prelude.{if◌then◌else◌, ◌&&◌}
use Rattle.page_layout.specs.declared.refusal.RedoWhy.{RedoWhy}
use Rattle.page_masks.specs.Law.{Redone, PageView, SameMasks, and_then}
use Rattle.heap_tuples.proofs.TupleLaws.{Done, done_same}

module _ (R : List ℕ → List ℕ → Type 0) where
  abbrev pub Carried : Redone → Redone → Type 0
  Carried (Ok p) (Ok q) = R p q
  Carried (Err a) (Err b) = a ≡ b
  Carried (Ok p) (Err b) = ⊥
  Carried (Err a) (Ok q) = ⊥

  pub carried_then : (a b : Redone) (f g : List ℕ → Redone) → Carried a b → ((p q : List ℕ) → R p q → Carried (f p) (g q)) → Carried (and_then a f) (and_then b g)
  carried_then (Ok p) (Ok q) f g r on = on p q r
  carried_then (Err a) (Err b) f g r on = r
  carried_then (Ok p) (Err b) f g r on = absurd r
  carried_then (Err a) (Ok q) f g r on = absurd r

  pub masks_then : (v : PageView) (a b : Redone) (f g : List ℕ → Redone) → Carried a b → ((p q : List ℕ) → R p q → SameMasks v (f p) (g q)) → SameMasks v (and_then a f) (and_then b g)
  masks_then v (Ok p) (Ok q) f g r on = on p q r
  masks_then v (Err a) (Err b) f g r on = r
  masks_then v (Ok p) (Err b) f g r on = absurd r
  masks_then v (Err a) (Ok q) f g r on = absurd r

  pub carried_where : (x y : Bool) (why : RedoWhy) (p q : List ℕ) → x ≡ y → (x ≡ true → R p q) → Carried (if x then Done p else Err why) (if y then Done q else Err why)
  carried_where true true why p q e r = r refl
  carried_where false false why p q e r = refl
  carried_where true false why p q e r = cc e
  carried_where false true why p q e r = cc e

-- the same, with masks
pub masks_where : (v : PageView) (x y : Bool) (why : RedoWhy) (a b : Redone) → x ≡ y → (x ≡ true → SameMasks v a b) → SameMasks v (if x then a else Err why) (if y then b else Err why)
masks_where v true true why a b e same = same refl
masks_where v false false why a b e same = refl
masks_where v true false why a b e same = cc e
masks_where v false true why a b e same = cc e

pub both_done : (v : PageView) (a b : Redone) (p q : List ℕ) → a ≡ Done p → b ≡ Done q → SameMasks v a b → v.mask p ≡ v.mask q
both_done v (Ok x) (Ok y) p q ea eb same = sym (ap v.mask (done_same x p ea)) ∙ same ∙ ap v.mask (done_same y q eb)
both_done v (Err a) b p q ea eb same = cc ea
both_done v (Ok x) (Err b) p q ea eb same = cc eb

-- tests, the second of which is asked where the first holds
pub tests_same : (a b c d : Bool) → a ≡ b → (a ≡ true → c ≡ d) → (a && c) ≡ (b && d)
tests_same true true c d e f = f refl
tests_same false false c d e f = refl
tests_same true false c d e f = cc e
tests_same false true c d e f = cc e
