-- The laws of the steps, over masks.
use Rattle.std.proofs.Common.{◌≡◌, ℕ, ◌+◌, ◌<◌, ◌≤◌, List, [], ◌∷◌, true, Some, length, sym, ◌∙◌, subst, arith}
use Rattle.std.specs.Prelude.{if◌then◌else◌}
use Rattle.page_layout.specs.Page.{pd_lower, pd_special, count, lp_flags, lp_len, IsFormed}
use Rattle.page_layout.specs.Edits.{with_pointer, added, add_refusal, add_item, trimmed}
use Rattle.page_layout.specs.Pack.{total, has_room, room_refusal, packed, pack}
use Rattle.page_layout.specs.declared.refusal.PageRefusal.TheVariants.{NoRoom}
use Rattle.page_masks.specs.Mask.{mask}
use Rattle.page_masks.specs.Shapes.{HeapPage, IsHeap, OnlyHead}
use Rattle.page_masks.proofs.Trimmed.{only_head_page, only_head_mask, trimmed_mask}
use Rattle.page_masks.proofs.Unshown.{heap_mask_is, is_heap}
use Rattle.page_laws.specs.Change.{edited, ItemChange}
use Rattle.page_laws.specs.Results.{SameResults, TrimmedHeap}
use Rattle.page_laws.specs.Steps.{Setting, AreSettings, lines_set}
use Rattle.page_laws.proofs.AddResult.{formed, refusal_alike, add_masks}
use Rattle.page_laws.proofs.EditLaw.{Editable, edit_alike, page_stays}
use Rattle.page_laws.proofs.PackLaw.{packed_alike, packed_formed, packed_special, same_room}
use Rattle.page_laws.proofs.PagesAlike.{SameLines, PagesAlike, pages_alike, alike_mask, counts_same, len_alike}
use Rattle.page_laws.proofs.Refused.{OkPage, NotRefused, same_refusals, pack_is, room_of}
use Rattle.page_laws.proofs.SetLineLaw.{set_formed, set_same, set_alike, set_special, set_count}

pub alike : (block : ℕ) (p q : List ℕ) → TrimmedHeap p → TrimmedHeap q → mask block p ≡ mask block q → PagesAlike block p q
alike block p q tp tq same = pages_alike block p q tp.page tq.page (sym (heap_mask_is block p (is_heap p tp.page)) ∙ same ∙ heap_mask_is block q (is_heap q tq.page)) tp.apart tq.apart

-- .. and back
pub alike_masks : (block : ℕ) (p q : List ℕ) → IsHeap p → IsHeap q → PagesAlike block p q → mask block p ≡ mask block q
alike_masks block p q hp hq a = heap_mask_is block p hp ∙ alike_mask block p q hp hq a ∙ sym (heap_mask_is block q hq)

-- a tuple changes where it lies
pub edit_respects : (block k : ℕ) (change : List ℕ → List ℕ) (p q : List ℕ) → ItemChange block (k + 1) change → TrimmedHeap p → TrimmedHeap q → k < count p → lp_flags p k ≡ 1 → 23 ≤ lp_len p k → mask block p ≡ mask block q
    → mask block (edited k change p) ≡ mask block (edited k change q)
edit_respects block k change p q law tp tq there normal long same =
    let a = alike block p q tp tq same in
    let ep : Editable k p = record { page = tp.page; apart = tp.apart; there = there; long = long } in
    let eq : Editable k q = record {
      page = tq.page;
      apart = tq.apart;
      there = omega (arith, there, counts_same block p q a.same tp.page.head.low tp.page.head.by4);
      long = omega (arith, long, len_alike block p q a.same tp.page.head.low tp.page.head.by4 k there);
    } in
    alike_masks block (edited k change p) (edited k change q) (is_heap (edited k change p) (page_stays block k change law p ep)) (is_heap (edited k change q) (page_stays block k change law q eq)) (edit_alike block k change law p q ep eq normal a)

-- an item is added
pub add_respects : (block place : ℕ) (p q bytes : List ℕ) → TrimmedHeap p → TrimmedHeap q → mask block p ≡ mask block q → SameResults block (add_item p bytes place true) (add_item q bytes place true)
add_respects block place p q bytes tp tq same =
    let a = alike block p q tp tq same in
    same_refusals block (add_refusal p (length bytes) place true) (add_refusal q (length bytes) place true) (OkPage (added p bytes place true)) (OkPage (added q bytes place true))
    (refusal_alike block p q (is_heap p tp.page) (is_heap q tq.page) a (length bytes) place) (λ none. add_masks block p q (is_heap p tp.page) (is_heap q tq.page) a bytes place none)

-- a line without an item gets none
pub empty_line_respects : (block k off flags : ℕ) (p q : List ℕ) → off < 32768 → flags < 4 → TrimmedHeap p → TrimmedHeap q → k < count p → lp_len p k ≡ 0 → mask block p ≡ mask block q
    → mask block (with_pointer p k off flags 0) ≡ mask block (with_pointer q k off flags 0)
empty_line_respects block k off flags p q small kind tp tq there none same =
    let a = alike block p q tp tq same in
    let fp = formed p tp.page in
    let fq = formed q tq.page in
    let there_q : k < count q = omega (arith, there, counts_same block p q a.same tp.page.head.low tp.page.head.by4) in
    alike_masks block (with_pointer p k off flags 0) (with_pointer q k off flags 0) (heap p fp there tp.page.heap) (heap q fq there_q tq.page.heap) (set_alike k off flags small kind block p q fp fq there none a)
  where
    heap : (r : List ℕ) → IsFormed r → k < count r → pd_special r ≡ 8192 → IsHeap (with_pointer r k off flags 0)
    heap r f lt top = let g = set_formed k off flags small kind r f lt in record { size = g.size; head = g.head; lines = g.lines; heap = set_special k off flags small kind r f lt ∙ top }

-- lines set, before the page is packed
pub record Ready (block : ℕ) (p q : List ℕ) : Type 0 where
  pub formed_p : IsFormed p
  pub formed_q : IsFormed q
  pub heap_p : pd_special p ≡ 8192
  pub heap_q : pd_special q ≡ 8192
  pub same : SameLines block p q

set_ready : (block : ℕ) (settings : List Setting) (p q : List ℕ) → AreSettings (count p) settings → Ready block p q → Ready block (lines_set settings p) (lines_set settings q)
set_ready block [] p q ok r = r
set_ready block (s ∷ settings) p q ok r =
    let there_q : s.index < count q = omega (arith, ok.0, counts_same block p q r.same r.formed_p.head.low r.formed_p.head.by4) in
    let new = with_pointer p s.index s.off s.flags 0 in
    set_ready block settings new (with_pointer q s.index s.off s.flags 0)
    (subst (λ n. AreSettings n settings) (sym (set_count s.index s.off s.flags ok.1 ok.2 p r.formed_p ok.0)) ok.3)
    (record {
      formed_p = set_formed s.index s.off s.flags ok.1 ok.2 p r.formed_p ok.0;
      formed_q = set_formed s.index s.off s.flags ok.1 ok.2 q r.formed_q there_q;
      heap_p = set_special s.index s.off s.flags ok.1 ok.2 p r.formed_p ok.0 ∙ r.heap_p;
      heap_q = set_special s.index s.off s.flags ok.1 ok.2 q r.formed_q there_q ∙ r.heap_q;
      same = set_same s.index s.off s.flags ok.1 ok.2 block p q r.formed_p r.formed_q ok.0 r.same;
    })

pub packed_results : (block : ℕ) (p q : List ℕ) → Ready block p q → SameResults block (pack p) (pack q)
packed_results block p q r = rw (pack_is p r.formed_p, pack_is q r.formed_q)
    (same_refusals block (room_refusal p) (room_refusal q) (OkPage (packed p)) (OkPage (packed q)) (λ t. if rooms t then NotRefused else Some NoRoom)
    (λ none. alike_masks block (packed p) (packed q) (heap p r.formed_p r.heap_p (room_of p none)) (heap q r.formed_q r.heap_q (room_of q ((λ t. if sym rooms t then NotRefused else Some NoRoom) ∙ none)))
    (packed_alike block p q r.formed_p r.formed_q r.same (room_of p none) r.heap_p)))
  where
    rooms : has_room p ≡ has_room q
    rooms = same_room block p q r.formed_p r.formed_q r.same

    heap : (s : List ℕ) → (f : IsFormed s) → pd_special s ≡ 8192 → (fits : pd_lower s + total s (count s) ≤ pd_special s) → IsHeap (packed s)
    heap s f top fits = let g = packed_formed s f fits in record { size = g.size; head = g.head; lines = g.lines; heap = packed_special s f fits ∙ top }

pub prune_respects : (block : ℕ) (settings : List Setting) (p q : List ℕ) → TrimmedHeap p → TrimmedHeap q → AreSettings (count p) settings → mask block p ≡ mask block q
    → SameResults block (pack (lines_set settings p)) (pack (lines_set settings q))
prune_respects block settings p q tp tq ok same =
    let a = alike block p q tp tq same in
    packed_results block (lines_set settings p) (lines_set settings q)
    (set_ready block settings p q ok (record { formed_p = formed p tp.page; formed_q = formed q tq.page; heap_p = tp.page.heap; heap_q = tq.page.heap; same = a.same }))

pub trim_unshown : (block : ℕ) (p : List ℕ) → IsHeap p → mask block (trimmed p) ≡ mask block p
trim_unshown block p h = trimmed_mask p h block

pub head_unshown : (block : ℕ) (p q : List ℕ) → HeapPage p → OnlyHead p q → mask block q ≡ mask block p
head_unshown block p q h o = heap_mask_is block q (is_heap q (only_head_page p q h o)) ∙ only_head_mask p q h o block ∙ sym (heap_mask_is block p (is_heap p h))
