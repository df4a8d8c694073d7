-- UPDATE on one page, whose new tuple may have parts of the old one.
use Rattle.std.proofs.Common.{◌≡◌, ℕ, ◌+◌, ◌-◌, ◌<◌, ◌≤◌, ◌&&◌, List, [], ◌++◌, Bool, true, false, length, refl, sym, ◌∙◌, ap, subst, arith}
use Rattle.std.specs.Prelude.{if◌then◌else◌, nat_le}
use Rattle.std.proofs.lemmas.Bool.Decides.{nat_tests}
use Rattle.std.proofs.lemmas.List.{ext_get_or}
use Rattle.block_layouts.specs.Update.{UpdateView}
use Rattle.block_layouts.specs.declared.update.OldParts.{OldParts}
use Rattle.page_layout.specs.Bytes.{byte, cut}
use Rattle.page_layout.specs.Page.{item, IsFormed}
use Rattle.page_layout.specs.declared.refusal.RedoWhy.TheVariants.{Place}
use Rattle.page_layout.proofs.BytesLemmas.{length-cut, byte-cut}
use Rattle.page_masks.specs.Law.{view, SameMasks}
use Rattle.page_masks.specs.Mask.{mask}
use Rattle.page_laws.proofs.TupleLaw.{TupleAlike}
use Rattle.record_layouts.specs.declared.heap.HeapUpdate.{HeapUpdate}
use Rattle.redo_steps.specs.Tuple.{hoff}
use Rattle.heap_tuples.specs.Heap.{has_tuple}
use Rattle.heap_tuples.proofs.HeapLemmas.{both}
use Rattle.heap_tuples.proofs.TupleLaws.{Done, NoTuple, tuple_same, tuple_on}
use Rattle.heap_pages.specs.Update.{updated_page, update_old_page, update_new_page, has_parts, parts_fit, joined, new_version, update_page}
use Rattle.heap_pages.specs.declared.update.UpdateKind.{UpdateKind}
use Rattle.heap_laws.specs.GoodHeap.{GoodHeap}
use Rattle.heap_laws.proofs.Steps.{CantTell}
use Rattle.heap_laws.proofs.Adding.{update_old_step, update_new_step}
use Rattle.heap_laws.proofs.Carried.{masks_where, both_done, tests_same}
use Rattle.heap_laws.proofs.Door.{KeepsSize}
use Rattle.page_laws.proofs.HeapShown.{items_alike}

cut_same : (x y : List ℕ) (at n : ℕ) → 22 ≤ at → at + n ≤ length x → length x ≡ length y → ((o : ℕ) → 22 ≤ o → byte x o ≡ byte y o) → cut x at n ≡ cut y at n
cut_same x y at n from fits size same = ext_get_or 0 (cut x at n) (cut y at n) (length-cut x at n fits ∙ sym (length-cut y at n (omega (arith, fits, size))))
    (λ o lt. let small : o < n = omega (arith, lt, length-cut x at n fits) in byte-cut x at n o small ∙ same (at + o) (omega (arith, from)) ∙ sym (byte-cut y at n o small))

-- the parts of tuples whose bytes from t_hoff on are equal
joined_same : (parts : OldParts) (tuple : UpdateView) (x y : List ℕ) → 23 ≤ hoff x → length x ≡ length y → ((o : ℕ) → 22 ≤ o → byte x o ≡ byte y o) → parts_fit parts tuple x ≡ true → joined parts tuple x ≡ joined parts tuple y
joined_same parts tuple x y high size same fit = λ t. tuple.bitmap ++ front (has_parts parts) fit t ++ tuple.bytes ++ back (has_parts parts) fit t
  where
    front : (c : Bool) → (if c then nat_le (hoff x + tuple.prefix + tuple.suffix) (length x) else true) ≡ true → (if c then cut x (hoff x) tuple.prefix else []) ≡ (if c then cut y (hoff y) tuple.prefix else [])
    front true f =
        let le : hoff x + tuple.prefix + tuple.suffix ≤ length x = grind (arith, nat_tests, f) in
        cut_same x y (hoff x) tuple.prefix (omega (arith, high)) (omega (arith, le)) size same ∙ ap (λ n. cut y n tuple.prefix) (same 22 (omega arith))
    front false f = refl

    back : (c : Bool) → (if c then nat_le (hoff x + tuple.prefix + tuple.suffix) (length x) else true) ≡ true → (if c then cut x (length x - tuple.suffix) tuple.suffix else []) ≡ (if c then cut y (length y - tuple.suffix) tuple.suffix else [])
    back true f =
        let le : hoff x + tuple.prefix + tuple.suffix ≤ length x = grind (arith, nat_tests, f) in
        cut_same x y (length x - tuple.suffix) tuple.suffix (omega (arith, high, le)) (omega (arith, le)) size same ∙ ap (λ n. cut y (n - tuple.suffix) tuple.suffix) size
    back false f = refl

module _ (b xid block : ℕ) (kind : UpdateKind) (op : HeapUpdate) (parts : OldParts) (tuple : UpdateView) where
  abbrev k : ℕ
  k = op.old_off - 1

  abbrev fit : List ℕ → Bool
  fit p = parts_fit parts tuple (item p k)

  abbrev changed_page : List ℕ → List ℕ
  changed_page p = updated_page xid kind block op p

  old_done : (p : List ℕ) → has_tuple p op.old_off ≡ true → update_old_page xid kind block op p ≡ Done (changed_page p)
  old_done p t = ap (λ c. if c then Done (changed_page p) else NoTuple) t

  pub update_size : KeepsSize (update_page xid block kind op parts tuple)
  update_size = λ p r f e. kept p r f (has_tuple p op.old_off) (fit p) refl e
    where
      kept : (p r : List ℕ) → IsFormed p → (x y : Bool) → has_tuple p op.old_off ≡ x → (if x && y then update_new_page xid block op (new_version parts tuple (item p k)) (changed_page p) else NoTuple) ≡ Done r → length r ≡ 8192
      kept p r f true true t e =
          let old = update_old_step b xid block kind op in
          let new = update_new_step b xid block op (new_version parts tuple (item p k)) in
          let g = new.formed (changed_page p) r (old.formed p (changed_page p) f (old_done p t)) e in
          g.size
      kept p r f true false t e = cc e
      kept p r f false y t e = cc e

  module _ (p q : List ℕ) (gp : GoodHeap p) (gq : GoodHeap q) (same : mask b p ≡ mask b q) where
    tests : has_tuple p op.old_off ≡ has_tuple q op.old_off
    tests = tuple_same b op.old_off p q gp.heap gq.heap same

    items : has_tuple p op.old_off ≡ true → TupleAlike b (k + 1) (item p k) (item q k)
    items t = let o = tuple_on p op.old_off t in items_alike b p q gp.heap gq.heap same k o.there o.normal o.long

    fits_same : has_tuple p op.old_off ≡ true → fit p ≡ fit q
    fits_same t =
        let a = items t in
        let h : hoff (item p k) ≡ hoff (item q k) = a.rest 22 (omega arith) in
        λ s. if has_parts parts then nat_le (h s + tuple.prefix + tuple.suffix) (a.size s) else true

    done : has_tuple p op.old_off ≡ true → fit p ≡ true
        → SameMasks (view b) (update_new_page xid block op (new_version parts tuple (item p k)) (changed_page p)) (update_new_page xid block op (new_version parts tuple (item q k)) (changed_page q))
    done t f =
        let o = tuple_on p op.old_off t in
        let a = items t in
        let u : has_tuple q op.old_off ≡ true = sym tests ∙ t in
        let old = update_old_step b xid block kind op in
        let new = update_new_step b xid block op (new_version parts tuple (item p k)) in
        let m = both_done (view b) (update_old_page xid kind block op p) (update_old_page xid kind block op q) (changed_page p) (changed_page q) (old_done p t) (old_done q u) (old.same p q gp.heap gq.heap same) in
        let j = joined_same parts tuple (item p k) (item q k) (gp.hoffs k o.there o.normal o.long) a.size a.rest f in
        subst (λ bytes. SameMasks (view b) (update_new_page xid block op (new_version parts tuple (item p k)) (changed_page p)) (update_new_page xid block op (record { header = tuple.header; bytes = bytes }) (changed_page q))) j
        (new.same (changed_page p) (changed_page q) (old.heap p (changed_page p) gp.heap (old_done p t)) (old.heap q (changed_page q) gq.heap (old_done q u)) m)

  pub update_same : CantTell b GoodHeap (update_page xid block kind op parts tuple)
  update_same = λ p q gp gq same.
      masks_where (view b) (has_tuple p op.old_off && fit p) (has_tuple q op.old_off && fit q) Place
      (update_new_page xid block op (new_version parts tuple (item p k)) (changed_page p)) (update_new_page xid block op (new_version parts tuple (item q k)) (changed_page q))
      (tests_same (has_tuple p op.old_off) (has_tuple q op.old_off) (fit p) (fit q) (tests p q gp gq same) (fits_same p q gp gq same))
      (λ e. let t = both (has_tuple p op.old_off) (fit p) e in done p q gp gq same t.0 t.1)
