-- Redo of one tuple on trimmed heap pages with equal masks.
use Rattle.std.proofs.Common.{◌≡◌, ℕ, ◌+◌, ◌-◌, ◌*◌, ◌/◌, ◌%◌, ◌<◌, ◌≤◌, ◌==◌, ◌&&◌, ◌||◌, List, Bool, true, false, Ok, Err, length, refl, sym, ◌∙◌, ap, subst, arith}
use Rattle.std.specs.Prelude.{if◌then◌else◌, nat_lt, nat_le}
use Rattle.std.proofs.lemmas.Bool.Decides.{nat_tests}
use Rattle.std.proofs.lemmas.List.{length-set, get_or-set_same, get_or-set_other}
use Rattle.layout.specs.Splice.{splice}
use Rattle.layout.proofs.SpliceLemmas.{length-splice, byte-splice_below, byte-splice_above}
use Rattle.page_layout.specs.Bytes.{byte, u32_bytes}
use Rattle.page_layout.specs.Page.{count, is_place, lp_flags, lp_len, IsFormed}
use Rattle.page_layout.specs.declared.refusal.RedoWhy.TheVariants.{Place}
use Rattle.page_masks.specs.Law.{Redone, view, SameMasks}
use Rattle.page_masks.specs.Mask.{mask}
use Rattle.page_masks.specs.Shapes.{OnlyHead}
use Rattle.page_laws.specs.Change.{ItemChange}
use Rattle.page_laws.specs.Results.{TrimmedHeap}
use Rattle.page_laws.proofs.HeapSteps.{head_keeps, edit_keeps}
use Rattle.page_laws.proofs.PagesAlike.{PagesAlike, counts_same, len_alike, flags_alike}
use Rattle.page_laws.proofs.StepLaws.{alike, edit_respects, head_unshown}
use Rattle.redo_steps.specs.Head.{pd_prune_xid, follows, prunable, without_all_visible}
use Rattle.redo_steps.specs.Bits.{has_bit}
use Rattle.heap_tuples.specs.Heap.{has_tuple, with_tuple, visible_cleared}
use Rattle.heap_tuples.proofs.EditLemmas.{front_formed}

-- both pages have a tuple at the place, or neither
pub tuple_same : (block place : ℕ) (p q : List ℕ) → TrimmedHeap p → TrimmedHeap q → mask block p ≡ mask block q → has_tuple p place ≡ has_tuple q place
tuple_same block place p q tp tq same = by_case (is_place p place) refl
  where
    a : PagesAlike block p q
    a = alike block p q tp tq same

    counts : count p ≡ count q
    counts = counts_same block p q a.same tp.page.head.low tp.page.head.by4

    by_case : (b : Bool) → is_place p place ≡ b → has_tuple p place ≡ has_tuple q place
    by_case true e =
        let there : place - 1 < count p = grind (arith, nat_tests) in
        rw (counts, flags_alike block p q a.same tp.page.head.low tp.page.head.by4 (place - 1) there, len_alike block p q a.same tp.page.head.low tp.page.head.by4 (place - 1) there) refl
    by_case false e =
        let f : is_place q place ≡ false = subst (λ n. (nat_lt 0 place && nat_le place n) ≡ false) counts e in
        rw (e, f) refl

-- what a tuple's page gives
pub record TupleOn (p : List ℕ) (place : ℕ) : Type 0 where
  pub there : place - 1 < count p
  pub normal : lp_flags p (place - 1) ≡ 1
  pub long : 23 ≤ lp_len p (place - 1)

pub tuple_on : (p : List ℕ) (place : ℕ) → has_tuple p place ≡ true → TupleOn p place
tuple_on p place e = record { there = grind (arith, nat_tests); normal = grind (arith, nat_tests); long = grind (arith, nat_tests) }

-- a change that only the header of a page has
abbrev pub OfHead : (List ℕ → List ℕ) → Type 0
OfHead after = (r : List ℕ) → length r ≡ 8192 → OnlyHead r (after r)

-- answers of redo
abbrev pub Done : List ℕ → Redone
Done p = Ok p

abbrev pub NoTuple : Redone
NoTuple = Err Place

pub done_same : (x y : List ℕ) → Done x ≡ Done y → x ≡ y
done_same x y h = cc h

-- a tuple changed, and then the header
abbrev pub changed : ℕ → (List ℕ → List ℕ) → (List ℕ → List ℕ) → List ℕ → Redone
changed place change after p = if has_tuple p place then Done (after (with_tuple place change p)) else NoTuple

module _ (block place : ℕ) (change after : List ℕ → List ℕ) (law : ItemChange block (place - 1 + 1) change) (head : OfHead after) where
  edited_heap : (p : List ℕ) → TrimmedHeap p → has_tuple p place ≡ true → TrimmedHeap (with_tuple place change p)
  edited_heap p t e = let o = tuple_on p place e in edit_keeps block (place - 1) change p law t o.there o.long

  after_mask : (r : List ℕ) → TrimmedHeap r → mask block (after r) ≡ mask block r
  after_mask r t = head_unshown block r (after r) t.page (head r t.page.size)

  pub changed_respects : (p q : List ℕ) → TrimmedHeap p → TrimmedHeap q → mask block p ≡ mask block q → SameMasks (view block) (changed place change after p) (changed place change after q)
  changed_respects p q tp tq same = by_case (has_tuple p place) refl
    where
      tests : has_tuple p place ≡ has_tuple q place
      tests = tuple_same block place p q tp tq same

      done : has_tuple p place ≡ true → mask block (after (with_tuple place change p)) ≡ mask block (after (with_tuple place change q))
      done e =
          let o = tuple_on p place e in
          after_mask (with_tuple place change p) (edited_heap p tp e)
          ∙ edit_respects block (place - 1) change p q law tp tq o.there o.normal o.long same
          ∙ sym (after_mask (with_tuple place change q) (edited_heap q tq (sym tests ∙ e)))

      by_case : (b : Bool) → has_tuple p place ≡ b → SameMasks (view block) (changed place change after p) (changed place change after q)
      by_case true e = let f = sym tests ∙ e in rw (e, f) (done e)
      by_case false e = let f = sym tests ∙ e in rw (e, f) refl

  pub changed_keeps : (p r : List ℕ) → TrimmedHeap p → changed place change after p ≡ Done r → TrimmedHeap r
  changed_keeps p r t is = by_case (has_tuple p place) refl is
    where
      by_case : (b : Bool) → has_tuple p place ≡ b → (if b then Done (after (with_tuple place change p)) else NoTuple) ≡ Done r → TrimmedHeap r
      by_case true e h =
          let same = done_same (after (with_tuple place change p)) r h in
          let edited = edited_heap p t e in
          subst TrimmedHeap same (head_keeps (with_tuple place change p) (after (with_tuple place change p)) edited (head (with_tuple place change p) edited.page.size))
      by_case false e h = cc h

-- changes of the header
pub only_both : (p q r : List ℕ) → OnlyHead p q → OnlyHead q r → OnlyHead p r
only_both p q r a b = record { size = b.size; flags = b.flags ∙ a.flags; head = λ i le lt. b.head i le lt ∙ a.head i le lt; rest = λ i le. b.rest i le ∙ a.rest i le }

pub nothing_more : OfHead (λ r. r)
nothing_more = λ r size. record { size = size; flags = refl; head = λ i le lt. refl; rest = λ i le. refl }

pub visible_head : (flags : ℕ) → OfHead (visible_cleared flags)
visible_head flags = λ r size. by_case r size (has_bit 1 flags)
  where
    ten : (b : ℕ) → (b / 8 * 8 + b % 4) / 8 * 8 ≡ b / 8 * 8
    ten b = omega arith

    by_case : (r : List ℕ) → length r ≡ 8192 → (b : Bool) → OnlyHead r (if b then without_all_visible r else r)
    by_case r size true =
        let new = byte r 10 / 8 * 8 + byte r 10 % 4 in
        record {
          size = length-set r 10 new ∙ size;
          flags = ap (λ x. x / 8 * 8) (get_or-set_same r 10 new 0 (omega (arith, size))) ∙ ten (byte r 10);
          head = λ i le lt. get_or-set_other r 10 i new 0 (λ e. omega arith);
          rest = λ i le. get_or-set_other r 10 i new 0 (λ e. omega arith);
        }
    by_case r size false = record { size = size; flags = refl; head = λ i le lt. refl; rest = λ i le. refl }

prunable_head : (xid : ℕ) → OfHead (prunable xid)
prunable_head xid = λ r size. by_case r size (pd_prune_xid r == 0 || follows (pd_prune_xid r) xid)
  where
    by_case : (r : List ℕ) → length r ≡ 8192 → (b : Bool) → OnlyHead r (if b then splice r 20 (u32_bytes xid) else r)
    by_case r size true = record {
      size = length-splice r 20 (u32_bytes xid) (omega (arith, size)) ∙ size;
      flags = ap (λ x. x / 8 * 8) (byte-splice_below r 20 (u32_bytes xid) 10 (omega (arith, size)) (omega arith));
      head = λ i le lt. byte-splice_below r 20 (u32_bytes xid) i (omega (arith, size)) lt;
      rest = λ i le. byte-splice_above r 20 (u32_bytes xid) i (omega (arith, size)) le;
    }
    by_case r size false = record { size = size; flags = refl; head = λ i le lt. refl; rest = λ i le. refl }

pub deleted_head : (flags xid : ℕ) → OfHead (λ r. visible_cleared flags (prunable xid r))
deleted_head flags xid = λ r size. let a = prunable_head xid r size in only_both r (prunable xid r) (visible_cleared flags (prunable xid r)) a (visible_head flags (prunable xid r) a.size)

pub header_formed : (flags xid : ℕ) (r : List ℕ) → IsFormed r → IsFormed (visible_cleared flags (prunable xid r))
header_formed flags xid r f = let o = deleted_head flags xid r f.size in front_formed r (visible_cleared flags (prunable xid r)) f o.size (record { head = o.head; lines = λ i le lt. o.rest i le })
