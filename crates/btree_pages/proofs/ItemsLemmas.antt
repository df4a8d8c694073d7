-- Items added behind the last line.
use Rattle.std.proofs.Common.{◌≡◌, ℕ, suc, ◌+◌, ◌-◌, ◌<◌, ◌≤◌, ◌&&◌, ◌⊎◌, inl, inr, List, [], ◌∷◌, ◌++◌, map, Bool, true, false, Ok, Err, length, refl, ◌∙◌, ap, arith}
use Rattle.std.specs.Prelude.{nat_lt, nat_le}
use Rattle.std.specs.List.{range_with_len}
use Rattle.std.proofs.lemmas.Bool.Decides.{nat_tests}
use Rattle.page_layout.specs.Bytes.{up8}
use Rattle.page_layout.specs.Page.{pd_lower, pd_upper, count, item, IsFormed}
use Rattle.page_layout.specs.Edits.{added, add_refusal, add_item}
use Rattle.page_layout.specs.declared.refusal.PageRefusal.TheVariants.{NoRoom}
use Rattle.page_layout.specs.declared.refusal.RedoWhy.TheVariants.{Room}
use Rattle.page_masks.specs.Law.{Redone, and_then}
use Rattle.page_masks.proofs.Unshown.{well}
use Rattle.page_laws.proofs.Refused.{OkPage, NotRefused}
use Rattle.page_laws.proofs.BtreeAdd.{inserts, insert_keeps}
use Rattle.page_laws.proofs.InsertLines.{inserted_formed}
use Rattle.redo_steps.specs.Redo.{on_page}
use Rattle.btree_pages.specs.Items.{with_last, with_items, items}

abbrev pub Done : List ℕ → Redone
Done p = Ok p

-- an item that was let through leaves a well formed page
pub put_formed : (p bytes : List ℕ) (place : ℕ) → IsFormed p → add_refusal p (length bytes) place false ≡ NotRefused → IsFormed (added p bytes place false)
put_formed p bytes place f none = inserted_formed p bytes (place - 1) (inserts p bytes place f none)

-- an item behind the last line is added, or has no room
pub last_item : (p bytes : List ℕ) → IsFormed p → (add_item p bytes (count p + 1) false ≡ OkPage (added p bytes (count p + 1) false)) ⊎ (add_item p bytes (count p + 1) false ≡ Err NoRoom)
last_item p bytes f = by_case (nat_le (pd_lower p + 4 + up8 (length bytes)) (pd_upper p)) refl
  where
    there : (nat_lt 0 (count p + 1) && nat_le (count p + 1) (count p + 1) && true) ≡ true
    there =
        let a : nat_lt 0 (count p + 1) ≡ true = grind (arith, nat_tests) in
        let b : nat_le (count p + 1) (count p + 1) ≡ true = grind (arith, nat_tests) in
        rw (a, b) refl

    by_case : (b : Bool) → nat_le (pd_lower p + 4 + up8 (length bytes)) (pd_upper p) ≡ b → (add_item p bytes (count p + 1) false ≡ OkPage (added p bytes (count p + 1) false)) ⊎ (add_item p bytes (count p + 1) false ≡ Err NoRoom)
    by_case true e = inl (rw (well p f.head f.lines, there, e) refl)
    by_case false e = inr (rw (well p f.head f.lines, there, e) refl)

-- all items are added, or one has no room
pub record AreAdded (lists : List (List ℕ)) (p q : List ℕ) : Type 0 where
  pub is : with_items lists p ≡ Done q
  pub formed : IsFormed q
  pub lines : count q ≡ count p + length lists

pub all_items : (lists : List (List ℕ)) (p : List ℕ) → IsFormed p → ((q : List ℕ) × AreAdded lists p q) ⊎ (with_items lists p ≡ Err Room)
all_items [] p f = inl (p, record { is = refl; formed = f; lines = omega arith })
all_items (bytes ∷ lists) p f = by_step p bytes lists f (last_item p bytes f) (λ r fr. all_items lists r fr)
  where
    behind : (p bytes : List ℕ) (lists : List (List ℕ)) (r : List ℕ) → IsFormed p → add_item p bytes (count p + 1) false ≡ OkPage r → ((q : List ℕ) × AreAdded lists r q) ⊎ (with_items lists r ≡ Err Room)
        → ((q : List ℕ) × AreAdded (bytes ∷ lists) p q) ⊎ (with_items (bytes ∷ lists) p ≡ Err Room)
    behind p bytes lists r f e (inl t) =
        let k = insert_keeps p bytes r (count p + 1) f e in
        inl (t.0, record { is = ap (λ x. and_then (on_page x) (with_items lists)) e ∙ t.1.is; formed = t.1.formed; lines = omega (arith, t.1.lines, k.lines) })
    behind p bytes lists r f e (inr h) = inr (ap (λ x. and_then (on_page x) (with_items lists)) e ∙ h)

    by_step : (p bytes : List ℕ) (lists : List (List ℕ)) → IsFormed p → (add_item p bytes (count p + 1) false ≡ OkPage (added p bytes (count p + 1) false)) ⊎ (add_item p bytes (count p + 1) false ≡ Err NoRoom)
        → ((r : List ℕ) → IsFormed r → ((q : List ℕ) × AreAdded lists r q) ⊎ (with_items lists r ≡ Err Room)) → ((q : List ℕ) × AreAdded (bytes ∷ lists) p q) ⊎ (with_items (bytes ∷ lists) p ≡ Err Room)
    by_step p bytes lists f (inl e) rest =
        let r = added p bytes (count p + 1) false in
        let k = insert_keeps p bytes r (count p + 1) f e in
        behind p bytes lists r f e (rest r k.formed)
    by_step p bytes lists f (inr e) rest = inr (ap (λ x. and_then (on_page x) (with_items lists)) e)

-- one list, then another
pub items_append : (a b : List (List ℕ)) (p : List ℕ) → with_items (a ++ b) p ≡ and_then (with_items a p) (with_items b)
items_append [] b p = refl
items_append (bytes ∷ a) b p = by_step a b (with_last bytes p) (λ q. items_append a b q)
  where
    by_step : (a b : List (List ℕ)) (r : Redone) → ((q : List ℕ) → with_items (a ++ b) q ≡ and_then (with_items a q) (with_items b)) → and_then r (with_items (a ++ b)) ≡ and_then (and_then r (with_items a)) (with_items b)
    by_step a b (Ok q) rest = rest q
    by_step a b (Err why) rest = refl

-- lines one after another
pub items_step : (p : List ℕ) (from to : ℕ) → from < to → items p from to ≡ item p (from - 1) ∷ items p (from + 1) to
items_step p from to lt =
    let n : to - from ≡ suc (to - (from + 1)) = omega (arith, lt) in
    ap (λ n. map (λ place. item p (place - 1)) (range_with_len from n)) n

pub items_none : (p : List ℕ) (from to : ℕ) → to ≤ from → items p from to ≡ []
items_none p from to le =
    let n : to - from ≡ 0 = omega (arith, le) in
    ap (λ n. map (λ place. item p (place - 1)) (range_with_len from n)) n
