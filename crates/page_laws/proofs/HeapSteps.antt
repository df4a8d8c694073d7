-- What the steps on trimmed heap pages leave is one again, at once or trimmed.
use Rattle.std.proofs.Common.{◌≡◌, ◌≢◌, ℕ, zero, suc, ◌+◌, ◌-◌, ◌<◌, ◌≤◌, ◌==◌, ⊎_elim, List, Bool, true, false, length, refl, sym, ◌∙◌, subst, arith}
use Rattle.std.specs.Prelude.{if◌then◌else◌}
use Rattle.std.proofs.lemmas.Bool.Decides.{eqb_tells}
use Rattle.page_layout.specs.Bytes.{up8}
use Rattle.page_layout.specs.Page.{pd_lower, pd_upper, pd_special, count, lp_len, IsFormed}
use Rattle.page_layout.specs.Apart.{AreApart}
use Rattle.page_layout.specs.Edits.{with_pointer, is_free, lower_after, added_at, added, add_refusal, add_item, trimmed_count, trimmed}
use Rattle.page_layout.proofs.ShapeLemmas.{trimmed_count-le}
use Rattle.page_masks.specs.Shapes.{IsHeap, OnlyHead}
use Rattle.page_masks.proofs.Trimmed.{only_head_page, head_front, trimmed_page, trimmed_apart}
use Rattle.page_laws.specs.Change.{edited, ItemChange}
use Rattle.page_laws.specs.Results.{TrimmedHeap}
use Rattle.page_laws.proofs.AddLaw.{added_apart}
use Rattle.page_laws.proofs.AddResult.{formed, adds_at}
use Rattle.page_laws.proofs.AddViews.{Adds, added_formed, kept_flags, kept_len, old_or_new, lays}
use Rattle.page_laws.proofs.AddedBytes.{added_special, added_lower, added_flags}
use Rattle.page_laws.proofs.EditLaw.{Editable, apart_stays, same_front, page_stays}
use Rattle.page_laws.proofs.Refused.{OkPage, accepted}
use Rattle.page_laws.proofs.SetLineLaw.{set_count, set_len, set_off, not_k}
use Rattle.page_laws.proofs.StepLaws.{alike}

-- the header and one tuple
pub head_keeps : (p q : List ℕ) → TrimmedHeap p → OnlyHead p q → TrimmedHeap q
head_keeps p q t o = record { page = only_head_page p q t.page o; apart = apart_stays p q t.page.head (head_front p q o) t.apart }

pub edit_keeps : (block k : ℕ) (change : List ℕ → List ℕ) (p : List ℕ) → ItemChange block (k + 1) change → TrimmedHeap p → k < count p → 23 ≤ lp_len p k → TrimmedHeap (edited k change p)
edit_keeps block k change p law t there long =
    let e : Editable k p = record { page = t.page; apart = t.apart; there = there; long = long } in
    record { page = page_stays block k change law p e; apart = apart_stays p (edited k change p) t.page.head (same_front block k change law p e) t.apart }

-- the last line is in use
pub all_shown : (p : List ℕ) (n : ℕ) → ((m : ℕ) → n ≡ m + 1 → is_free p m ≡ false) → trimmed_count p n ≡ n
all_shown p zero h = refl
all_shown p (suc n) h = let e = h n (omega arith) in rw e refl

last_used : (p : List ℕ) (n m : ℕ) → trimmed_count p n ≡ n → n ≡ m + 1 → is_free p m ≡ false
last_used p zero m e is = absurd (omega (arith, is))
last_used p (suc n) m e is = let same : n ≡ m = omega (arith, is) in subst (λ x. is_free p x ≡ false) same (by_case (is_free p n) refl e)
  where
    by_case : (b : Bool) → is_free p n ≡ b → (if b then trimmed_count p n else suc n) ≡ suc n → is_free p n ≡ false
    by_case true on all = absurd (omega (arith, all, trimmed_count-le p n))
    by_case false off all = off

-- an item added
added_keeps : (p bytes : List ℕ) (k lower upper : ℕ) → TrimmedHeap p → Adds p bytes k lower upper → TrimmedHeap (added_at p bytes k lower upper)
added_keeps p bytes k lower upper t a =
    let f = added_formed p bytes k lower upper a in
    record {
      page = record { size = f.size; head = f.head; lines = f.lines; heap = added_special p bytes k lower upper (lays p bytes k lower upper a) ∙ t.page.heap; trimmed = all_shown new (count new) last };
      apart = added_apart 0 p p bytes k lower upper a a (alike 0 p p t t refl) t.apart;
    }
  where
    new : List ℕ
    new = added_at p bytes k lower upper

    last : (m : ℕ) → count new ≡ m + 1 → is_free new m ≡ false
    last m e = ⊎_elim
        (λ (s : ((m == k) ≡ true) × (m ≡ k)). subst (λ x. is_free new x ≡ false) (sym s.1) (rw (added_flags p bytes k lower upper (lays p bytes k lower upper a)) refl))
        (λ (n : ((m == k) ≡ false) × (m ≢ k)).
        let old = old_or_new p bytes k lower upper a m (omega (arith, e)) n.1 in
        let same : count p ≡ m + 1 = ⊎_elim
        (λ (o : (k < count p) × (lower ≡ pd_lower p) × (lp_len p k ≡ 0)). omega (arith, e, added_lower p bytes k lower upper (lays p bytes k lower upper a), o.1))
        (λ (x : (k ≡ count p) × (lower ≡ pd_lower p + 4)). absurd (omega (arith, e, added_lower p bytes k lower upper (lays p bytes k lower upper a), x.0, x.1, old, n.1, t.page.head.low, t.page.head.by4))) a.line in
        rw (kept_flags p bytes k lower upper a m n.1 old, kept_len p bytes k lower upper a m n.1 old) (last_used p (count p) m t.page.trimmed same))
        (eqb_tells m k)

pub add_keeps_heap : (place : ℕ) (p bytes r : List ℕ) → TrimmedHeap p → add_item p bytes place true ≡ OkPage r → TrimmedHeap r
add_keeps_heap place p bytes r t e =
    let a = accepted (add_refusal p (length bytes) place true) (added p bytes place true) r e in
    let l = adds_at p bytes place (formed p t.page) a.0 in
    subst TrimmedHeap (sym l.is ∙ a.1) (added_keeps p bytes (place - 1) (lower_after p place true) (pd_upper p - up8 (length bytes)) t l.adds)

-- a heap page whose items don't overlap, and trimmed again
pub heap_again : (r : List ℕ) → IsFormed r → pd_special r ≡ 8192 → AreApart r → IsHeap r × TrimmedHeap (trimmed r)
heap_again r f top apart =
    let h : IsHeap r = record { size = f.size; head = f.head; lines = f.lines; heap = top } in
    (h, record { page = trimmed_page r h; apart = trimmed_apart r h apart })

pub set_apart : (k off flags : ℕ) (p : List ℕ) → off < 32768 → flags < 4 → IsFormed p → k < count p → AreApart p → AreApart (with_pointer p k off flags 0)
set_apart k off flags p small kind f there apart = λ i j lt there_j some_i some_j.
    let ne_i = not_k k off flags small kind p f there i some_i in
    let ne_j = not_k k off flags small kind p f there j some_j in
    let n = set_count k off flags small kind p f there in
    let li = set_len k off flags small kind p f there i ne_i in
    let lj = set_len k off flags small kind p f there j ne_j in
    rw (set_off k off flags small kind p f there i ne_i, set_off k off flags small kind p f there j ne_j, li, lj) (apart i j lt (omega (arith, there_j, n)) (omega (arith, some_i, li)) (omega (arith, some_j, lj)))
