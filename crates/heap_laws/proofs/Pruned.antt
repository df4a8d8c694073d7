-- PRUNE: lines lose their items, one after another, and the page is packed.
use Rattle.std.proofs.Common.{◌≡◌, ℕ, ◌+◌, ◌-◌, ◌<◌, ◌≤◌, ◌&&◌, List, [], ◌∷◌, Bool, true, false, Result, Ok, Err, length, refl, sym, ◌∙◌, ap, subst, arith}
use Rattle.std.specs.Prelude.{if◌then◌else◌, nat_lt, nat_le}
use Rattle.std.proofs.lemmas.Bool.Decides.{nat_tests}
use Rattle.block_layouts.specs.declared.prune.PrunePlaces.{PrunePlaces}
use Rattle.block_layouts.specs.declared.redirects.Redirect.{Redirect}
use Rattle.page_layout.specs.Page.{count, is_place, IsFormed}
use Rattle.page_layout.specs.Edits.{with_pointer}
use Rattle.page_layout.specs.Pack.{room_refusal, packed, pack}
use Rattle.page_layout.specs.declared.refusal.PageRefusal.{PageRefusal}
use Rattle.page_layout.specs.declared.refusal.RedoWhy.TheVariants.{Place}
use Rattle.page_masks.specs.Law.{Redone, view, SameMasks, and_then}
use Rattle.page_laws.specs.Results.{SameResults}
use Rattle.page_laws.proofs.AddResult.{formed}
use Rattle.page_laws.proofs.PackLaw.{packed_formed}
use Rattle.page_laws.proofs.PagesAlike.{counts_same}
use Rattle.page_laws.proofs.SetLineLaw.{set_formed, set_special, set_same}
use Rattle.page_laws.proofs.Refused.{OkPage, accepted, pack_is, room_of}
use Rattle.page_laws.proofs.StepLaws.{Ready, packed_results, alike}
use Rattle.redo_steps.specs.Redo.{why_of, on_page}
use Rattle.heap_tuples.proofs.HeapLemmas.{both}
use Rattle.heap_tuples.proofs.TupleLaws.{Done, NoTuple, done_same}
use Rattle.heap_pages.specs.Lines.{set_place, set_places}
use Rattle.heap_pages.specs.Prune.{redirect_all, prune_page}
use Rattle.heap_laws.specs.GoodHeap.{GoodHeap}
use Rattle.heap_laws.proofs.Steps.{Keeps, CantTell, keeps_then, through}
use Rattle.heap_laws.proofs.Carried.{Carried, carried_then, masks_then, carried_where}
use Rattle.heap_laws.proofs.Door.{KeepsSize}
use Rattle.heap_laws.proofs.Freed.{line_there}

-- the line at a place
module _ (place off flags : ℕ) (kind : flags < 4) where
  abbrev k : ℕ
  k = place - 1

  set_keeps : Keeps IsFormed (set_place place off flags)
  set_keeps = λ p r f e. kept p r f (is_place p place) (nat_lt off 32768) refl refl e
    where
      kept : (p r : List ℕ) → IsFormed p → (x y : Bool) → is_place p place ≡ x → nat_lt off 32768 ≡ y → (if x && y then Done (with_pointer p k off flags 0) else NoTuple) ≡ Done r → IsFormed r
      kept p r f true true t o e = let small : off < 32768 = grind (arith, nat_tests, o) in subst IsFormed (done_same (with_pointer p k off flags 0) r e) (set_formed k off flags small kind p f (line_there p place t))
      kept p r f true false t o e = cc e
      kept p r f false y t o e = cc e

  set_carried : (b : ℕ) (p q : List ℕ) → Ready b p q → Carried (Ready b) (set_place place off flags p) (set_place place off flags q)
  set_carried b p q r =
      carried_where (Ready b) (is_place p place && nat_lt off 32768) (is_place q place && nat_lt off 32768) Place (with_pointer p k off flags 0) (with_pointer q k off flags 0)
      (λ t. nat_lt 0 place && nat_le place (counts t) && nat_lt off 32768) set
    where
      counts : count p ≡ count q
      counts = counts_same b p q r.same r.formed_p.head.low r.formed_p.head.by4

      set : (is_place p place && nat_lt off 32768) ≡ true → Ready b (with_pointer p k off flags 0) (with_pointer q k off flags 0)
      set e =
          let t = both (is_place p place) (nat_lt off 32768) e in
          let small : off < 32768 = grind (arith, nat_tests, t.1) in
          let there = line_there p place t.0 in
          let there_q : k < count q = omega (arith, there, counts) in
          record {
            formed_p = set_formed k off flags small kind p r.formed_p there;
            formed_q = set_formed k off flags small kind q r.formed_q there_q;
            heap_p = set_special k off flags small kind p r.formed_p there ∙ r.heap_p;
            heap_q = set_special k off flags small kind q r.formed_q there_q ∙ r.heap_q;
            same = set_same k off flags small kind b p q r.formed_p r.formed_q there r.same;
          }

-- lists of places
done_keeps : Keeps IsFormed (λ p. Done p)
done_keeps = λ p r f e. subst IsFormed (done_same p r e) f

redirects_keep : (redirects : List Redirect) → Keeps IsFormed (redirect_all redirects)
redirects_keep [] = done_keeps
redirects_keep (x ∷ redirects) = keeps_then IsFormed (set_place x.from x.to 2) (redirect_all redirects) (set_keeps x.from x.to 2 (omega arith)) (redirects_keep redirects)

places_keep : (flags : ℕ) (places : List ℕ) → flags < 4 → Keeps IsFormed (set_places flags places)
places_keep flags [] kind = done_keeps
places_keep flags (place ∷ places) kind = keeps_then IsFormed (set_place place 0 flags) (set_places flags places) (set_keeps place 0 flags kind) (places_keep flags places kind)

redirects_carried : (b : ℕ) (redirects : List Redirect) (p q : List ℕ) → Ready b p q → Carried (Ready b) (redirect_all redirects p) (redirect_all redirects q)
redirects_carried b [] p q r = r
redirects_carried b (x ∷ redirects) p q r =
    carried_then (Ready b) (set_place x.from x.to 2 p) (set_place x.from x.to 2 q) (redirect_all redirects) (redirect_all redirects) (set_carried x.from x.to 2 (omega arith) b p q r) (redirects_carried b redirects)

places_carried : (b flags : ℕ) (places : List ℕ) → flags < 4 → (p q : List ℕ) → Ready b p q → Carried (Ready b) (set_places flags places p) (set_places flags places q)
places_carried b flags [] kind p q r = r
places_carried b flags (place ∷ places) kind p q r =
    carried_then (Ready b) (set_place place 0 flags p) (set_place place 0 flags q) (set_places flags places) (set_places flags places) (set_carried place 0 flags kind b p q r) (places_carried b flags places kind)

-- the page packed
pack_size : (p r : List ℕ) → IsFormed p → on_page (pack p) ≡ Done r → length r ≡ 8192
pack_size p r f e =
    let a = accepted (room_refusal p) (packed p) r (sym (pack_is p f) ∙ on_ok (pack p) r e) in
    let g = packed_formed p f (room_of p a.0) in
    subst (λ x. length x ≡ 8192) a.1 g.size
  where
    on_ok : (x : Result (List ℕ) PageRefusal) (r : List ℕ) → on_page x ≡ Done r → x ≡ OkPage r
    on_ok (Ok p) r e = ap OkPage (done_same p r e)
    on_ok (Err why) r e = cc e

told : (b : ℕ) (x y : Result (List ℕ) PageRefusal) → SameResults b x y → SameMasks (view b) (on_page x) (on_page y)
told b (Ok p) (Ok q) same = same
told b (Err u) (Err v) same = ap why_of same
told b (Ok p) (Err v) same = absurd same
told b (Err u) (Ok q) same = absurd same

module _ (places : PrunePlaces) where
  abbrev redirect : List ℕ → Redone
  redirect p = redirect_all places.redirected p

  abbrev dead : List ℕ → Redone
  dead p = and_then (redirect p) (set_places 3 places.dead)

  abbrev unused : List ℕ → Redone
  unused p = and_then (dead p) (set_places 0 places.unused)

  lines_keep : Keeps IsFormed unused
  lines_keep =
      keeps_then IsFormed dead (set_places 0 places.unused)
      (keeps_then IsFormed redirect (set_places 3 places.dead) (redirects_keep places.redirected) (places_keep 3 places.dead (omega arith)))
      (places_keep 0 places.unused (omega arith))

  pub prune_size : KeepsSize (prune_page places)
  prune_size = λ p r f e. let t = through (unused p) (λ q. on_page (pack q)) r e in pack_size t.mid r (lines_keep p t.mid f t.is) t.goes_on

  pub prune_same : (b : ℕ) → CantTell b GoodHeap (prune_page places)
  prune_same b = λ p q gp gq same.
      let a = alike b p q gp.heap gq.heap same in
      let start : Ready b p q = record { formed_p = formed p gp.heap.page; formed_q = formed q gq.heap.page; heap_p = gp.heap.page.heap; heap_q = gq.heap.page.heap; same = a.same } in
      masks_then (Ready b) (view b) (unused p) (unused q) (λ r. on_page (pack r)) (λ r. on_page (pack r))
      (carried_then (Ready b) (dead p) (dead q) (set_places 0 places.unused) (set_places 0 places.unused)
      (carried_then (Ready b) (redirect p) (redirect q) (set_places 3 places.dead) (set_places 3 places.dead) (redirects_carried b places.redirected p q start) (places_carried b 3 places.dead (omega arith)))
      (places_carried b 0 places.unused (omega arith)))
      (λ x y r. told b (pack x) (pack y) (packed_results b x y r))
