-- A new tuple with another tid.
use Rattle.std.proofs.Common.{◌≡◌, ℕ, ◌≤◌, ◌-◌, List, true, false, Some, Result, Ok, Err, length, sym, ◌∙◌, ap, subst, arith}
use Rattle.std.specs.Result.{IsErrAnd}
use Rattle.layout.specs.Splice.{splice}
use Rattle.layout.proofs.SpliceLemmas.{length-splice}
use Rattle.page_layout.specs.Page.{Head, item}
use Rattle.page_layout.specs.Edits.{added, add_refusal, add_item, refuse_or}
use Rattle.page_layout.specs.declared.refusal.PageRefusal.{PageRefusal}
use Rattle.page_laws.proofs.Refused.{NotRefused, allowed}
use Rattle.page_layout.specs.declared.refusal.RedoWhy.{RedoWhy}
use Rattle.page_masks.specs.Law.{Redone, and_then}
use Rattle.redo_steps.specs.Redo.{Makes, on_page, why_of}
use Rattle.btree_pages.specs.Page.{is_btree_page, on_btree}
use Rattle.btree_posting.specs.Form.{last_tid}
use Rattle.btree_posting.specs.Insert.{swap_item}

-- it has the length that it had
pub tid_size : (new tid : List ℕ) → 8 ≤ length new → length tid ≡ 6 → length (splice new 0 tid) ≡ length new
tid_size new tid long six = length-splice new 0 tid (omega (arith, long, six))

module _ (p new tid : List ℕ) (place : ℕ) (btree : is_btree_page p ≡ true) (long : 8 ≤ length new) (six : length tid ≡ 6) where
  pub tid_refused : (why : PageRefusal) → add_refusal p (length new) place false ≡ Some why → on_btree (λ q. on_page (add_item q (splice new 0 tid) place false)) p ≡ Err (why_of why)
  tid_refused why e = rw btree (ap (λ r. on_page (refuse_or r (Ok (added p (splice new 0 tid) place false)))) (ap (λ n. add_refusal p n place false) (tid_size new tid long six) ∙ e))

  pub tid_added : add_refusal p (length new) place false ≡ NotRefused → on_btree (λ q. on_page (add_item q (splice new 0 tid) place false)) p ≡ Ok (added p (splice new 0 tid) place false)
  tid_added e = rw btree (ap (λ r. on_page (refuse_or r (Ok (added p (splice new 0 tid) place false)))) (ap (λ n. add_refusal p n place false) (tid_size new tid long six) ∙ e))

pub tid_fits : (p : List ℕ) (len place : ℕ) → Head p → add_refusal p len place false ≡ NotRefused → len ≤ 8192
tid_fits p len place h e =
    let a = allowed p len place false e in
    omega (arith, a.room, h.high, h.top)

-- a refusal handed on, and what a step makes of what another one made
pub handed_on : (meant : Redone) (why : RedoWhy) (r : Result (Unit {0}) RedoWhy) (new : List ℕ) → IsErrAnd r (λ e. e ≡ why) → meant ≡ Err why → Makes meant r new
handed_on meant why (Ok done) new h e = absurd h
handed_on meant why (Err other) new h e = e ∙ ap (λ w. Err w) (sym h)

module _ (p new : List ℕ) (place here k : ℕ) (is : here ≡ place) where
  there : (r : Redone) → swap_item here k new p ≡ r → swap_item place k new p ≡ r
  there r e = ap (λ n. swap_item n k new p) (sym is) ∙ e

  pub swap_refused : (step : List ℕ → Redone) (why : RedoWhy) → swap_item here k new p ≡ Err why → and_then (swap_item place k new p) step ≡ Err why
  swap_refused step why e = ap (λ r. and_then r step) (there (Err why) e)

  -- with the tid that was lost
  pub swap_made : (step : List ℕ → List ℕ → Redone) (q made lost : List ℕ) (r : Result (Unit {0}) RedoWhy) → swap_item here k new p ≡ Ok q → lost ≡ last_tid (item p (here - 1)) → Makes (step lost q) r made
      → Makes (and_then (swap_item place k new p) (step (last_tid (item p (place - 1))))) r made
  swap_made step q made lost r e tid h =
      let meant : and_then (swap_item place k new p) (step (last_tid (item p (place - 1)))) ≡ step lost q =
      ap (λ x. and_then x (step (last_tid (item p (place - 1))))) (there (Ok q) e) ∙ ap (λ t. step t q) (sym (tid ∙ ap (λ n. last_tid (item p (n - 1))) is))
      in
      subst (λ m. Makes m r made) (sym meant) h
