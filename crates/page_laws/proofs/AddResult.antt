-- add_item with overwrite on trimmed heap pages: the same refusal, or pages with equal masks.
use Rattle.std.proofs.Common.{◌≡◌, ℕ, ◌+◌, ◌-◌, ◌*◌, ◌<◌, ◌≤◌, ◌||◌, inl, inr, ⊎_elim, List, Bool, true, false, length, refl, sym, ◌∙◌, ap, subst, arith}
use Rattle.std.specs.Prelude.{if◌then◌else◌, nat_lt, nat_le}
use Rattle.std.proofs.lemmas.Bool.Decides.{nat_tests, leb_tells}
use Rattle.layout.specs.Splice.{splice}
use Rattle.page_layout.specs.Bytes.{up8, cut}
use Rattle.page_layout.specs.Page.{pd_lower, pd_upper, pd_special, count, lp_len, IsFormed}
use Rattle.page_layout.specs.Edits.{is_free, lower_after, add_refusal, opened_at, added_at, added}
use Rattle.layout.proofs.SpliceLemmas.{length-splice, byte-splice_below, byte-splice_above}
use Rattle.page_layout.proofs.BytesLemmas.{length-cut, same_pages}
use Rattle.page_masks.specs.Mask.{mask}
use Rattle.page_masks.specs.Shapes.{HeapPage, IsHeap}
use Rattle.page_masks.proofs.Unshown.{heap_mask_is}
use Rattle.page_laws.proofs.Refused.{NotRefused, Allowed, allowed, same_add_refusal}
use Rattle.page_laws.proofs.PagesAlike.{PagesAlike, alike_mask, counts_same, len_alike, flags_alike, upper_alike}
use Rattle.page_laws.proofs.AddViews.{Adds, added_formed, lays}
use Rattle.page_laws.proofs.AddedBytes.{added_special}
use Rattle.page_laws.proofs.AddLaw.{added_alike}

pub formed : (p : List ℕ) → HeapPage p → IsFormed p
formed p h = record { size = h.size; head = h.head; lines = h.lines }

pub heap_formed : (p : List ℕ) → IsHeap p → IsFormed p
heap_formed p h = record { size = h.size; head = h.head; lines = h.lines }

-- opening a place past the last line moves nothing
opened_end : (p : List ℕ) → IsFormed p → pd_lower p + 4 ≤ pd_upper p → opened_at p (count p) ≡ p
opened_end p f room = same_pages (splice p (28 + 4 * count p) part) p (length-splice p (28 + 4 * count p) part fits ∙ f.size) f.size
    (λ i lt. ⊎_elim
    (λ (t : (nat_le (28 + 4 * count p) i ≡ true) × (28 + 4 * count p ≤ i)). byte-splice_above p (28 + 4 * count p) part i fits (omega (arith, t.1, none)))
    (λ (n : (nat_le (28 + 4 * count p) i ≡ false) × (i < 28 + 4 * count p)). byte-splice_below p (28 + 4 * count p) part i fits n.1)
    (leb_tells (28 + 4 * count p) i))
  where
    part : List ℕ
    part = cut p (24 + 4 * count p) (pd_lower p - (24 + 4 * count p))

    end : 24 + 4 * count p ≡ pd_lower p
    end = omega (arith, f.head.low, f.head.by4)

    none : length part ≡ 0
    none = length-cut p (24 + 4 * count p) (pd_lower p - (24 + 4 * count p)) (omega (arith, end, f.size, f.head.mid, f.head.high, f.head.top)) ∙ omega (arith, end)

    fits : 28 + 4 * count p + length part ≤ length p
    fits = omega (arith, none, end, room, f.size, f.head.high, f.head.top)

-- an item that is taken comes over an unused line, or to the end
pub record AddsAt (p bytes : List ℕ) (place : ℕ) : Type 0 where
  pub adds : Adds p bytes (place - 1) (lower_after p place true) (pd_upper p - up8 (length bytes))
  pub is : added p bytes place true ≡ added_at p bytes (place - 1) (lower_after p place true) (pd_upper p - up8 (length bytes))

pub adds_at : (p bytes : List ℕ) (place : ℕ) → IsFormed p → add_refusal p (length bytes) place true ≡ NotRefused → AddsAt p bytes place
adds_at p bytes place f none = by_case (nat_lt (count p) place) refl a.line a.room
  where
    a : Allowed p (length bytes) place true
    a = allowed p (length bytes) place true none

    by_case : (z : Bool) → nat_lt (count p) place ≡ z → (z || is_free p (place - 1)) ≡ true → (if z then pd_lower p + 4 else pd_lower p) + up8 (length bytes) ≤ pd_upper p → AddsAt p bytes place
    by_case true e line room =
        let past : count p < place = grind (arith, nat_tests, e) in
        let k : place - 1 ≡ count p = omega (arith, past, a.near) in
        let lower : lower_after p place true ≡ pd_lower p + 4 = rw e refl in
        record {
          adds = record { formed = f; line = inr (k, lower); room = omega (arith, lower, room); upper_is = omega (arith, room) };
          is = rw e (ap (λ x. added_at x bytes (place - 1) (pd_lower p + 4) (pd_upper p - up8 (length bytes))) (ap (opened_at p) k ∙ opened_end p f (omega (arith, room))));
        }
    by_case false e line room =
        let here : place ≤ count p = grind (arith, nat_tests, e) in
        let lower : lower_after p place true ≡ pd_lower p = rw e refl in
        let none : lp_len p (place - 1) ≡ 0 = grind (arith, nat_tests, line) in
        record {
          adds = record { formed = f; line = inl (omega (arith, a.some, here), lower, none); room = omega (arith, lower, room); upper_is = omega (arith, room) };
          is = rw e refl;
        }

module _ (block : ℕ) (p q : List ℕ) (hp : IsHeap p) (hq : IsHeap q) (a : PagesAlike block p q) where
  counts : count p ≡ count q
  counts = counts_same block p q a.same hp.head.low hp.head.by4

  uppers : pd_upper p ≡ pd_upper q
  uppers = upper_alike block p q hp hq a

  lower_same : (place : ℕ) → lower_after p place true ≡ lower_after q place true
  lower_same place = λ t. if nat_lt (counts t) place then a.same.lowers t + 4 else a.same.lowers t

  pub refusal_alike : (len place : ℕ) → add_refusal p len place true ≡ add_refusal q len place true
  refusal_alike len place = same_add_refusal p q len place true (heap_formed p hp) (heap_formed q hq) a.same.lowers uppers
      (λ k e lt. rw (flags_alike block p q a.same hp.head.low hp.head.by4 k lt, len_alike block p q a.same hp.head.low hp.head.by4 k lt) refl)

  pub add_masks : (bytes : List ℕ) (place : ℕ) → add_refusal p (length bytes) place true ≡ NotRefused → mask block (added p bytes place true) ≡ mask block (added q bytes place true)
  add_masks bytes place none =
      let lp = adds_at p bytes place (heap_formed p hp) none in
      let lq = adds_at q bytes place (heap_formed q hq) (sym (refusal_alike (length bytes) place) ∙ none) in
      let up : pd_upper q - up8 (length bytes) ≡ pd_upper p - up8 (length bytes) = λ t. sym uppers t - up8 (length bytes) in
      let adds_q = subst (λ u. Adds q bytes (place - 1) (lower_after p place true) u) up (subst (λ l. Adds q bytes (place - 1) l (pd_upper q - up8 (length bytes))) (sym (lower_same place)) lq.adds) in
      let made_q : added q bytes place true ≡ added_at q bytes (place - 1) (lower_after p place true) (pd_upper p - up8 (length bytes)) = lq.is ∙ (λ t. added_at q bytes (place - 1) (sym (lower_same place) t) (up t)) in
      let al = added_alike block p q bytes (place - 1) (lower_after p place true) (pd_upper p - up8 (length bytes)) lp.adds adds_q a in
      let hn_p = heap_of p bytes (place - 1) (lower_after p place true) (pd_upper p - up8 (length bytes)) lp.adds hp.heap in
      let hn_q = heap_of q bytes (place - 1) (lower_after p place true) (pd_upper p - up8 (length bytes)) adds_q hq.heap in
      let m = alike_mask block (added_at p bytes (place - 1) (lower_after p place true) (pd_upper p - up8 (length bytes))) (added_at q bytes (place - 1) (lower_after p place true) (pd_upper p - up8 (length bytes)))
      hn_p hn_q al in
      ap (mask block) lp.is ∙ heap_mask_is block (added_at p bytes (place - 1) (lower_after p place true) (pd_upper p - up8 (length bytes))) hn_p ∙ m
      ∙ sym (heap_mask_is block (added_at q bytes (place - 1) (lower_after p place true) (pd_upper p - up8 (length bytes))) hn_q) ∙ ap (mask block) (sym made_q)
    where
      heap_of : (r bytes : List ℕ) (k lower upper : ℕ) → Adds r bytes k lower upper → pd_special r ≡ 8192 → IsHeap (added_at r bytes k lower upper)
      heap_of r bytes k lower upper ad top = let f = added_formed r bytes k lower upper ad in record { size = f.size; head = f.head; lines = f.lines; heap = added_special r bytes k lower upper (lays r bytes k lower upper ad) ∙ top }
