-- A tuple added to trimmed heap pages with equal masks, behind unused lines where lines before it aren't there.
use Rattle.std.proofs.Common.{◌≡◌, ℕ, ◌+◌, ◌-◌, ◌*◌, ◌/◌, ◌<◌, ◌≤◌, ◌&&◌, ◌||◌, ◌⊎◌, inl, inr, ⊎_elim, List, Bool, true, false, Option, Some, None, Ok, length, refl, sym, ◌∙◌, ap, subst, arith}
use Rattle.std.specs.Prelude.{if◌then◌else◌, nat_le, nat_lt}
use Rattle.std.proofs.lemmas.Bool.Decides.{nat_tests, leb_tells}
use Rattle.page_layout.specs.Bytes.{byte, up8}
use Rattle.page_layout.specs.Page.{pd_lower, pd_upper, pd_special, count, lp_len, IsFormed}
use Rattle.page_layout.specs.Apart.{AreApart}
use Rattle.page_layout.specs.Edits.{is_free, lower_after, add_refusal, added_at, added, refuse_or}
use Rattle.page_layout.specs.declared.refusal.RedoWhy.{RedoWhy}
use Rattle.page_layout.specs.declared.refusal.RedoWhy.TheVariants.{Place, Room}
use Rattle.page_masks.specs.Law.{view, SameMasks}
use Rattle.page_masks.specs.Mask.{mask, holds, holder}
use Rattle.page_masks.specs.Shapes.{IsHeap}
use Rattle.page_masks.proofs.Holders.{none_not}
use Rattle.page_masks.proofs.HeapLaid.{open_holds}
use Rattle.page_masks.proofs.Unshown.{is_heap}
use Rattle.page_laws.specs.Results.{TrimmedHeap}
use Rattle.page_laws.proofs.AddLaw.{holder_none, added_apart}
use Rattle.page_laws.proofs.AddResult.{formed, adds_at, add_masks}
use Rattle.page_laws.proofs.Refused.{OkPage, open_alike}
use Rattle.page_laws.proofs.AddViews.{Adds, added_formed, lays}
use Rattle.page_laws.proofs.AddedBytes.{Lays, added_special, added_lower, added_flags}
use Rattle.page_laws.proofs.HeapSteps.{all_shown, add_keeps_heap}
use Rattle.page_laws.proofs.PagesAlike.{PagesAlike, counts_same, len_alike, flags_alike, upper_alike}
use Rattle.page_laws.proofs.StepLaws.{alike}
use Rattle.heap_tuples.specs.Put.{is_open, has_room_at, extended, filled, put_refusal, put_tuple}
use Rattle.heap_tuples.proofs.TupleLaws.{Done, done_same}
use Rattle.heap_tuples.proofs.FilledLemmas.{Extends, ext_byte, ext_zero, ext_lower, ext_upper, ext_special, ext_count, ext_off, ext_len, ext_flags, ext_some, ext_item, ext_formed, ext_apart}
use Rattle.heap_tuples.proofs.PutLemmas.{PutsOn, opens, extends, puts_on, put_allows, put_formed}
use Rattle.heap_laws.proofs.Steps.{IsStep}

-- unused lines behind the others leave pages alike
module _ (block : ℕ) (p q : List ℕ) (n : ℕ) (ep : Extends p n) (eq : Extends q n) (a : PagesAlike block p q) where
  counts : count p ≡ count q
  counts = counts_same block p q a.same ep.formed.head.low ep.formed.head.by4

  front : (i : ℕ) → (i < 12) ⊎ (14 ≤ i) → i < 24 → byte p i ≡ byte q i → byte (extended p n) i ≡ byte (extended q n) i
  front i out lt same = ext_byte p n ep i out (inl (omega (arith, lt, ep.formed.head.low))) ∙ same ∙ sym (ext_byte q n eq i out (inl (omega (arith, lt, eq.formed.head.low))))

  line : (i : ℕ) → 24 ≤ i → i < 24 + 4 * n → byte (extended p n) i ≡ byte (extended q n) i
  line i le lt = ⊎_elim
      (λ (t : (nat_le (pd_lower p) i ≡ true) × (pd_lower p ≤ i)). ext_zero p n ep i t.1 lt ∙ sym (ext_zero q n eq i (omega (arith, t.1, a.same.lowers)) lt))
      (λ (u : (nat_le (pd_lower p) i ≡ false) × (i < pd_lower p)).
      ext_byte p n ep i (inr (omega (arith, le))) (inl u.1) ∙ a.same.lines i le u.1 ∙ sym (ext_byte q n eq i (inr (omega (arith, le))) (inl (omega (arith, u.1, a.same.lowers)))))
      (leb_tells (pd_lower p) i)

  was_free : (i : ℕ) → holder (extended p n) (count (extended p n)) i ≡ None → holder p (count p) i ≡ None
  was_free i e = holder_none p (count p) i (λ j lt. sym (same j lt) ∙ none_not (extended p n) (count (extended p n)) j i e (omega (arith, lt, ext_count p n ep, ep.more)))
    where
      same : (j : ℕ) → j < count p → holds (extended p n) j i ≡ holds p j i
      same j lt = open_holds (extended p n) j i ∙ rw (ext_off p n ep j lt, ext_len p n ep j lt) refl ∙ sym (open_holds p j i)

  pub ext_alike : PagesAlike block (extended p n) (extended q n)
  ext_alike = record {
    same = record {
      lowers = ext_lower p n ep ∙ sym (ext_lower q n eq);
      ten = (λ t. ext_byte p n ep 10 (inl (omega arith)) (inl (omega (arith, ep.formed.head.low))) t / 8 * 8) ∙ a.same.ten ∙ (λ t. sym (ext_byte q n eq 10 (inl (omega arith)) (inl (omega (arith, eq.formed.head.low)))) t / 8 * 8);
      eleven = front 11 (inl (omega arith)) (omega arith) a.same.eleven;
      head = λ i le lt. front i (inr (omega (arith, le))) (omega (arith, lt)) (a.same.head i le lt);
      lines = λ i le lt. line i le (omega (arith, lt, ext_lower p n ep));
      items = λ k lt some.
          let lt_p = ext_some p n ep k lt some in
          let some_p : 0 < lp_len p k = omega (arith, some, ext_len p n ep k lt_p) in
          let lt_q : k < count q = omega (arith, lt_p, counts) in
          let some_q : 0 < lp_len q k = omega (arith, some_p, len_alike block p q a.same ep.formed.head.low ep.formed.head.by4 k lt_p) in
          rw (ext_flags p n ep k lt_p, ext_flags q n eq k lt_q, ext_item p n ep k lt_p some_p, ext_item q n eq k lt_q some_q) (a.same.items k lt_p some_p);
    };
    uppers = (front 14 (inr (omega arith)) (omega arith) a.uppers.0, front 15 (inr (omega arith)) (omega arith) a.uppers.1);
    free = λ i le lt e.
        let le_p : pd_upper p ≤ i = omega (arith, le, ext_upper p n ep) in
        let past : 24 + 4 * n ≤ i = omega (arith, le_p, ep.fits) in
        ext_byte p n ep i (inr (omega (arith, past))) (inr past) ∙ a.free i le_p lt (was_free i e) ∙ sym (ext_byte q n eq i (inr (omega (arith, past))) (inr past));
  }

-- two pages to which a tuple is added
record Pair (block : ℕ) (p q : List ℕ) : Type 0 where
  heap_p : IsHeap p
  heap_q : IsHeap q
  alike : PagesAlike block p q

ext_heap : (p : List ℕ) (n : ℕ) → Extends p n → pd_special p ≡ 8192 → IsHeap (extended p n)
ext_heap p n e top = let f = ext_formed p n e in record { size = f.size; head = f.head; lines = f.lines; heap = ext_special p n e ∙ top }

abbrev NotRefused : Option RedoWhy
NotRefused = None

module _ (block place : ℕ) (bytes : List ℕ) (p q : List ℕ) (tp : TrimmedHeap p) (tq : TrimmedHeap q) (same : mask block p ≡ mask block q) where
  a : PagesAlike block p q
  a = alike block p q tp tq same

  lines_same : count p ≡ count q
  lines_same = counts_same block p q a.same tp.page.head.low tp.page.head.by4

  uppers : pd_upper p ≡ pd_upper q
  uppers = upper_alike block p q (is_heap p tp.page) (is_heap q tq.page) a

  free_same : (k : ℕ) → k < count p → is_free p k ≡ is_free q k
  free_same k lt = rw (flags_alike block p q a.same tp.page.head.low tp.page.head.by4 k lt, len_alike block p q a.same tp.page.head.low tp.page.head.by4 k lt) refl

  pub open_same : is_open p place ≡ is_open q place
  open_same = open_alike p q place (nat_le place 291) lines_same free_same

  room_same : has_room_at p place (length bytes) ≡ has_room_at q place (length bytes)
  room_same = λ t. nat_le ((if nat_lt (lines_same t) place then 24 + 4 * place else a.same.lowers t) + up8 (length bytes)) (uppers t)

  refusal_same : put_refusal p place (length bytes) ≡ put_refusal q place (length bytes)
  refusal_same = λ t. if open_same t then (if room_same t then NotRefused else Some Room) else Some Place

  pair : put_refusal p place (length bytes) ≡ NotRefused → Pair block (filled p (place - 1)) (filled q (place - 1))
  pair e = subst (λ b. Pair block (filled p (place - 1)) (if b then extended q (place - 1) else q)) (ap (λ n. nat_lt n (place - 1)) lines_same) (by_case (nat_lt (count p) (place - 1)) refl)
    where
      by_case : (b : Bool) → nat_lt (count p) (place - 1) ≡ b → Pair block (if b then extended p (place - 1) else p) (if b then extended q (place - 1) else q)
      by_case true t =
          let more : count p < place - 1 = grind (arith, nat_tests, t) in
          let xp = extends p place (length bytes) (formed p tp.page) (opens p place (length bytes) e) more in
          let xq = extends q place (length bytes) (formed q tq.page) (opens q place (length bytes) (sym refusal_same ∙ e)) (omega (arith, more, lines_same)) in
          record { heap_p = ext_heap p (place - 1) xp tp.page.heap; heap_q = ext_heap q (place - 1) xq tq.page.heap; alike = ext_alike block p q (place - 1) xp xq a }
      by_case false t = record { heap_p = is_heap p tp.page; heap_q = is_heap q tq.page; alike = a }

  put_masks : put_refusal p place (length bytes) ≡ NotRefused → mask block (added (filled p (place - 1)) bytes place true) ≡ mask block (added (filled q (place - 1)) bytes place true)
  put_masks e =
      let b = pair e in
      add_masks block (filled p (place - 1)) (filled q (place - 1)) b.heap_p b.heap_q b.alike bytes place (put_allows p place (length bytes) (formed p tp.page) e)

  pub put_respects : SameMasks (view block) (put_tuple place bytes p) (put_tuple place bytes q)
  put_respects = subst (λ r. SameMasks (view block) (put_tuple place bytes p) (refuse_or r (Ok (added (filled q (place - 1)) bytes place true)))) refusal_same (pick (put_refusal p place (length bytes)) refl)
    where
      pick : (r : Option RedoWhy) → put_refusal p place (length bytes) ≡ r
          → SameMasks (view block) (refuse_or r (Ok (added (filled p (place - 1)) bytes place true))) (refuse_or r (Ok (added (filled q (place - 1)) bytes place true)))
      pick None e = put_masks e
      pick (Some why) e = refl

-- a tuple on a new line at the end
self_alike : (g : List ℕ) → PagesAlike 0 g g
self_alike g = record {
  same = record { lowers = refl; ten = refl; eleven = refl; head = λ i le lt. refl; lines = λ i le lt. refl; items = λ k lt some. refl };
  uppers = (refl, refl);
  free = λ i le lt e. refl;
}

last_keeps : (g bytes : List ℕ) (k lower upper : ℕ) → IsHeap g → AreApart g → Adds g bytes k lower upper → k ≡ count g → lower ≡ pd_lower g + 4 → TrimmedHeap (added_at g bytes k lower upper)
last_keeps g bytes k lower upper h apart ad k_is lower_is =
    let f = added_formed g bytes k lower upper ad in
    record {
      page = record { size = f.size; head = f.head; lines = f.lines; heap = added_special g bytes k lower upper l ∙ h.heap; trimmed = all_shown new (count new) last };
      apart = added_apart 0 g g bytes k lower upper ad ad (self_alike g) apart;
    }
  where
    new : List ℕ
    new = added_at g bytes k lower upper

    l : Lays g bytes k lower upper
    l = lays g bytes k lower upper ad

    last : (m : ℕ) → count new ≡ m + 1 → is_free new m ≡ false
    last m e =
        let here : m ≡ k = omega (arith, e, added_lower g bytes k lower upper l, k_is, lower_is, h.head.low, h.head.by4) in
        subst (λ x. is_free new x ≡ false) (sym here) (rw (added_flags g bytes k lower upper l) refl)

pub put_keeps : (place : ℕ) (bytes p r : List ℕ) → TrimmedHeap p → put_tuple place bytes p ≡ Done r → TrimmedHeap r
put_keeps place bytes p r tp is = pick (put_refusal p place (length bytes)) refl is
  where
    made : put_refusal p place (length bytes) ≡ NotRefused → TrimmedHeap (added (filled p (place - 1)) bytes place true)
    made e = by_case (nat_lt (count p) (place - 1)) refl (put_allows p place (length bytes) (formed p tp.page) e) (puts_on p place (length bytes) (formed p tp.page) e)
      where
        by_case : (b : Bool) → nat_lt (count p) (place - 1) ≡ b → add_refusal (if b then extended p (place - 1) else p) (length bytes) place true ≡ None
            → PutsOn (if b then extended p (place - 1) else p) place (length bytes) → TrimmedHeap (added (if b then extended p (place - 1) else p) bytes place true)
        by_case true t none s =
            let more : count p < place - 1 = grind (arith, nat_tests, t) in
            let o = opens p place (length bytes) e in
            let x = extends p place (length bytes) (formed p tp.page) o more in
            let g = extended p (place - 1) in
            let n = ext_count p (place - 1) x in
            let last : nat_lt (count g) place ≡ true = grind (arith, nat_tests, n, o.above) in
            let al = adds_at g bytes place s.formed none in
            subst TrimmedHeap (sym al.is) (last_keeps g bytes (place - 1) (lower_after g place true) (pd_upper g - up8 (length bytes))
            (ext_heap p (place - 1) x tp.page.heap) (ext_apart p (place - 1) x tp.apart) al.adds (sym n) (λ t. if last t then pd_lower g + 4 else pd_lower g))
        by_case false t none s = add_keeps_heap place p bytes (added p bytes place true) tp (ap (λ x. refuse_or x (OkPage (added p bytes place true))) none)

    pick : (x : Option RedoWhy) → put_refusal p place (length bytes) ≡ x → refuse_or x (Done (added (filled p (place - 1)) bytes place true)) ≡ Done r → TrimmedHeap r
    pick None e h = subst TrimmedHeap (done_same (added (filled p (place - 1)) bytes place true) r h) (made e)
    pick (Some why) e h = cc h

-- as a step
pub put_step : (block place : ℕ) (bytes : List ℕ) → IsStep block (put_tuple place bytes)
put_step block place bytes = record {
  formed = λ p r f e. kept p r f (put_refusal p place (length bytes)) refl e;
  heap = put_keeps place bytes;
  same = put_respects block place bytes;
}
  where
    kept : (p r : List ℕ) → IsFormed p → (x : Option RedoWhy) → put_refusal p place (length bytes) ≡ x → refuse_or x (Done (added (filled p (place - 1)) bytes place true)) ≡ Done r → IsFormed r
    kept p r f None e h = subst IsFormed (done_same (added (filled p (place - 1)) bytes place true) r h) (put_formed p bytes place f e)
    kept p r f (Some why) e h = cc h
