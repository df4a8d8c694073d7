-- Steps of redo on heap pages: what they keep, and that they can't tell pages with equal masks.
use Rattle.std.proofs.Common.{◌≡◌, ℕ, ◌+◌, ◌-◌, List, Bool, true, false, Ok, Err, refl, sym, ◌∙◌, subst, arith}
use Rattle.std.specs.Prelude.{if◌then◌else◌}
use Rattle.page_layout.specs.Page.{item, IsFormed}
use Rattle.page_layout.specs.declared.refusal.RedoWhy.{RedoWhy}
use Rattle.page_masks.specs.Law.{Redone, PageView, view, SameMasks, and_then}
use Rattle.page_masks.specs.Mask.{mask}
use Rattle.page_laws.specs.Change.{ItemChange}
use Rattle.page_laws.specs.Results.{TrimmedHeap}
use Rattle.page_laws.proofs.HeapSteps.{head_keeps}
use Rattle.page_laws.proofs.StepLaws.{head_unshown}
use Rattle.heap_tuples.specs.Heap.{has_tuple, with_tuple}
use Rattle.heap_tuples.proofs.EditLemmas.{tuple_of, length-tuple, front_formed, edit_formed}
use Rattle.heap_tuples.proofs.TupleLaws.{Done, NoTuple, OfHead, done_same, changed, changed_respects, changed_keeps}

-- pages with this stay pages with it
abbrev pub Keeps : (List ℕ → Type 0) → (List ℕ → Redone) → Type 0
Keeps P go = (p r : List ℕ) → P p → go p ≡ Done r → P r

-- the same refusal, or pages with equal masks, of two pages with this and with equal masks
abbrev pub CantTell : ℕ → (List ℕ → Type 0) → (List ℕ → Redone) → Type 0
CantTell block P go = (p q : List ℕ) → P p → P q → mask block p ≡ mask block q → SameMasks (view block) (go p) (go q)

-- what is kept between steps
pub record IsStep (block : ℕ) (go : List ℕ → Redone) : Type 0 where
  pub formed : Keeps IsFormed go
  pub heap : Keeps TrimmedHeap go
  pub same : CantTell block TrimmedHeap go

-- one step, then another
pub record Through (a : Redone) (g : List ℕ → Redone) (r : List ℕ) : Type 0 where
  pub mid : List ℕ
  pub is : a ≡ Done mid
  pub goes_on : g mid ≡ Done r

pub through : (a : Redone) (g : List ℕ → Redone) (r : List ℕ) → and_then a g ≡ Done r → Through a g r
through (Ok mid) g r e = record { mid = mid; is = refl; goes_on = e }
through (Err why) g r e = cc e

pub same_then : (v : PageView) (a b : Redone) (f g : List ℕ → Redone) → SameMasks v a b
    → ((p q : List ℕ) → a ≡ Done p → b ≡ Done q → v.mask p ≡ v.mask q → SameMasks v (f p) (g q)) → SameMasks v (and_then a f) (and_then b g)
same_then v (Ok p) (Ok q) f g same on = on p q refl refl same
same_then v (Err a) (Err b) f g same on = same
same_then v (Ok p) (Err b) f g same on = absurd same
same_then v (Err a) (Ok q) f g same on = absurd same

pub keeps_then : (P : List ℕ → Type 0) (f g : List ℕ → Redone) → Keeps P f → Keeps P g → Keeps P (λ p. and_then (f p) g)
keeps_then P f g kf kg p r h e = let t = through (f p) g r e in kg t.mid r (kf p t.mid h t.is) t.goes_on

pub both_steps : (block : ℕ) (f g : List ℕ → Redone) → IsStep block f → IsStep block g → IsStep block (λ p. and_then (f p) g)
both_steps block f g sf sg = record {
  formed = keeps_then IsFormed f g sf.formed sg.formed;
  heap = keeps_then TrimmedHeap f g sf.heap sg.heap;
  same = λ p q tp tq same. same_then (view block) (f p) (f q) g g (sf.same p q tp tq same) (λ x y ex ey m. sg.same x y (sf.heap p x tp ex) (sf.heap q y tq ey) m);
}

-- no step
pub no_step : (block : ℕ) → IsStep block (λ p. Done p)
no_step block = record {
  formed = λ p r f e. subst IsFormed (done_same p r e) f;
  heap = λ p r t e. subst TrimmedHeap (done_same p r e) t;
  same = λ p q tp tq same. same;
}

-- a step where a test holds that the mask tells
pub guarded : (block : ℕ) (test : List ℕ → Bool) (why : RedoWhy) (go : List ℕ → Redone) → ((p q : List ℕ) → TrimmedHeap p → TrimmedHeap q → mask block p ≡ mask block q → test p ≡ test q)
    → IsStep block go → IsStep block (λ p. if test p then go p else Err why)
guarded block test why go tells s = record {
  formed = λ p r f e. kept IsFormed s.formed p r f (test p) e;
  heap = λ p r t e. kept TrimmedHeap s.heap p r t (test p) e;
  same = λ p q tp tq same. both p q (s.same p q tp tq same) (test p) (test q) (tells p q tp tq same);
}
  where
    kept : (P : List ℕ → Type 0) → Keeps P go → (p r : List ℕ) → P p → (b : Bool) → (if b then go p else Err why) ≡ Done r → P r
    kept P k p r h true e = k p r h e
    kept P k p r h false e = cc e

    both : (p q : List ℕ) → SameMasks (view block) (go p) (go q) → (a b : Bool) → a ≡ b → SameMasks (view block) (if a then go p else Err why) (if b then go q else Err why)
    both p q same true true e = same
    both p q same false false e = refl
    both p q same true false e = cc e
    both p q same false true e = cc e

pub head_formed : (after : List ℕ → List ℕ) → OfHead after → (p : List ℕ) → IsFormed p → IsFormed (after p)
head_formed after head p f = let o = head p f.size in front_formed p (after p) f o.size (record { head = o.head; lines = λ i le lt. o.rest i le })

-- a change of the header
pub of_head : (block : ℕ) (after : List ℕ → List ℕ) → OfHead after → IsStep block (λ p. Done (after p))
of_head block after head = record {
  formed = λ p r f e. subst IsFormed (done_same (after p) r e) (head_formed after head p f);
  heap = λ p r t e. subst TrimmedHeap (done_same (after p) r e) (head_keeps p (after p) t (head p t.page.size));
  same = λ p q tp tq same. head_unshown block p (after p) tp.page (head p tp.page.size) ∙ same ∙ sym (head_unshown block q (after q) tq.page (head q tq.page.size));
}

-- a tuple changed, and then the header
pub of_tuple : (block place : ℕ) (change after : List ℕ → List ℕ) → ItemChange block (place - 1 + 1) change → OfHead after → IsStep block (changed place change after)
of_tuple block place change after law head = record {
  formed = λ p r f e. kept p r f (has_tuple p place) refl e;
  heap = changed_keeps block place change after law head;
  same = changed_respects block place change after law head;
}
  where
    kept : (p r : List ℕ) → IsFormed p → (b : Bool) → has_tuple p place ≡ b → (if b then Done (after (with_tuple place change p)) else NoTuple) ≡ Done r → IsFormed r
    kept p r f true t e =
        let i = tuple_of p place f t in
        let len = length-tuple p place i in
        subst IsFormed (done_same (after (with_tuple place change p)) r e) (head_formed after head (with_tuple place change p)
        (edit_formed p place (change (item p (place - 1))) f i (law.size (item p (place - 1)) (omega (arith, len, i.long)) ∙ len)))
    kept p r f false t e = cc e
