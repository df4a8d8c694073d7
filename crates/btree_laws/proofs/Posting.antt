-- Posting lists: pages with equal masks have the same items, so the same one is laid over the same item.
use Rattle.std.proofs.Common.{◌≡◌, ℕ, ◌-◌, ◌<◌, ◌&&◌, List, [], ◌∷◌, Bool, true, false, Ok, Err, length, refl, sym, ◌∙◌, ap, subst, arith}
use Rattle.std.specs.Prelude.{nat_le, nat_lt, if◌then◌else◌}
use Rattle.std.proofs.lemmas.Bool.Decides.{nat_tests}
use Rattle.page_layout.specs.Apart.{AreApart}
use Rattle.page_layout.specs.Page.{count, is_place, lp_len, item}
use Rattle.page_layout.specs.Edits.{add_item}
use Rattle.page_layout.specs.Overwrite.{has_item, overwrite_item}
use Rattle.page_layout.specs.declared.refusal.RedoWhy.TheVariants.{Place}
use Rattle.page_masks.specs.Law.{Redone, view, SameMasks, and_then}
use Rattle.page_masks.specs.Mask.{mask}
use Rattle.page_laws.specs.Btree.{BtreePage, SameBtreeItems}
use Rattle.page_laws.proofs.BtreeShown.{btree_items}
use Rattle.page_laws.proofs.BtreeOverwrite.{overwrite_respects, overwrite_keeps_page, overwrite_size}
use Rattle.redo_steps.specs.Redo.{on_page}
use Rattle.record_layouts.specs.declared.btree.BtreeInsert.{BtreeInsert}
use Rattle.record_layouts.specs.declared.btree.BtreeSplit.{BtreeSplit}
use Rattle.block_layouts.specs.Posting.{PostingInsertView}
use Rattle.block_layouts.specs.declared.posting.PostingUpdates.{PostingUpdates}
use Rattle.block_layouts.specs.declared.shortened.Update.{Update}
use Rattle.btree_pages.specs.Page.{on_btree}
use Rattle.btree_pages.specs.Special.{without_garbage}
use Rattle.btree_pages.specs.Split.{split_left_page}
use Rattle.btree_pages.proofs.ItemsLemmas.{Done}
use Rattle.btree_posting.specs.Form.{can_swap, swapped_posting, swapped_new, can_shorten, shortened}
use Rattle.btree_posting.specs.Insert.{insert_post_page}
use Rattle.btree_posting.specs.Split.{left_new}
use Rattle.btree_posting.specs.Updates.{shorten_item, shorten_items, delete_any, updates_page}
use Rattle.btree_laws.proofs.Steps.{through, done_same, same_calls, called}
use Rattle.btree_laws.proofs.Special.{special_step, garbage_change, garbage_leaf}
use Rattle.btree_laws.proofs.Sound.{IsSoundStep, KeepsApart, on_left, sound_step, sound_then, left_then, apart_then}
use Rattle.btree_laws.proofs.Added.{add_step, delete_step}

-- the item at a place, if there is one that passes a test, overwritten by what is made of it
abbrev pub laid_over : ℕ → (List ℕ → Bool) → (List ℕ → List ℕ) → List ℕ → Redone
laid_over place test make p =
    if has_item p place && test (item p (place - 1)) then on_page (overwrite_item p place (make (item p (place - 1)))) else Err Place

there_of : (p : List ℕ) (place : ℕ) → is_place p place ≡ true → place - 1 < count p
there_of p place e = grind (arith, nat_tests, e)

module _ (p q : List ℕ) (s : SameBtreeItems p q) (place : ℕ) where
  place_same : is_place q place ≡ is_place p place
  place_same = ap (λ n. nat_lt 0 place && nat_le place n) s.lines

  has_same : has_item q place ≡ has_item p place
  has_same = by_case (is_place p place) refl
    where
      by_case : (b : Bool) → is_place p place ≡ b → has_item q place ≡ has_item p place
      by_case true e = ap (λ b. b && nat_lt 0 (lp_len q (place - 1))) place_same ∙ ap (λ n. is_place p place && nat_lt 0 n) (s.len (place - 1) (there_of p place e))
      by_case false e = let f : is_place q place ≡ false = place_same ∙ e in rw (e, f) refl

  pub item_same : has_item p place ≡ true → item q (place - 1) ≡ item p (place - 1)
  item_same e = by_case (is_place p place) refl e
    where
      by_case : (b : Bool) → is_place p place ≡ b → (b && nat_lt 0 (lp_len p (place - 1))) ≡ true → item q (place - 1) ≡ item p (place - 1)
      by_case true is some = s.item (place - 1) (there_of p place is) (grind (arith, nat_tests, some))
      by_case false is some = cc some

  pub test_same : (test : List ℕ → Bool) → (has_item q place && test (item q (place - 1))) ≡ (has_item p place && test (item p (place - 1)))
  test_same test = by_case (has_item p place) refl
    where
      by_case : (b : Bool) → has_item p place ≡ b → (has_item q place && test (item q (place - 1))) ≡ (has_item p place && test (item p (place - 1)))
      by_case true e = (λ t. has_same t && test (item_same e t))
      by_case false e = let f : has_item q place ≡ false = has_same ∙ e in rw (e, f) refl

first_true : (a b : Bool) → (a && b) ≡ true → a ≡ true
first_true true b e = refl
first_true false b e = cc e

module _ (block place : ℕ) (test : List ℕ → Bool) (make : List ℕ → List ℕ) where
  abbrev go : List ℕ → Redone
  go p = laid_over place test make p

  abbrev passes : List ℕ → Bool
  passes p = has_item p place && test (item p (place - 1))

  abbrev laid : List ℕ → Redone
  laid p = on_page (overwrite_item p place (make (item p (place - 1))))

  by_test : (p r : List ℕ) → go p ≡ Done r → laid p ≡ Done r
  by_test p r e = by_case (passes p) e
    where
      by_case : (b : Bool) → (if b then laid p else Err Place) ≡ Done r → laid p ≡ Done r
      by_case true h = h
      by_case false h = cc h

  result : (p r : List ℕ) → go p ≡ Done r → overwrite_item p place (make (item p (place - 1))) ≡ Ok r
  result p r e = called (overwrite_item p place (make (item p (place - 1)))) r (by_test p r e)

  pub over_apart : KeepsApart go
  over_apart p r h apart e = let k = overwrite_keeps_page place p (make (item p (place - 1))) r h apart (result p r e) in k.1

  pub over_step : IsSoundStep block go
  over_step = record {
    size = λ p r h e. overwrite_size place p (make (item p (place - 1))) r h (result p r e);
    page = λ p r h apart e. let k = overwrite_keeps_page place p (make (item p (place - 1))) r h apart (result p r e) in k.0;
    same = λ p q hp hq apart m. told p q hp hq apart m (btree_items block p q hp hq m) (passes p) refl;
  }
    where
      told : (p q : List ℕ) → BtreePage p → BtreePage q → AreApart p → mask block p ≡ mask block q → SameBtreeItems p q → (b : Bool) → passes p ≡ b → SameMasks (view block) (go p) (go q)
      told p q hp hq apart m s true e =
          let f : passes q ≡ true = test_same p q s place test ∙ e in
          let is = item_same p q s place (first_true (has_item p place) (test (item p (place - 1))) e) in
          let bytes = make (item p (place - 1)) in
          let law = same_calls block (overwrite_item p place bytes) (overwrite_item q place bytes) (overwrite_respects block place p q bytes hp hq apart m) in
          rw (e, f) (subst (λ x. SameMasks (view block) (laid p) (on_page (overwrite_item q place (make x)))) (sym is) law)
      told p q hp hq apart m s false e = let f : passes q ≡ false = test_same p q s place test ∙ e in rw (e, f) refl

  -- and then a step that follows from the item that was there
  module _ (g : List ℕ → List ℕ → Redone) (each : (t : List ℕ) → IsSoundStep block (g t)) where
    abbrev both : List ℕ → List ℕ → Redone
    both t p = and_then (go p) (on_btree (g t))

    pub over_then : IsSoundStep block (λ p. both (item p (place - 1)) p)
    over_then = record {
      size = λ p r h e. let s = fixed (item p (place - 1)) in s.size p r h e;
      page = λ p r h apart e. let s = fixed (item p (place - 1)) in s.page p r h apart e;
      same = λ p q hp hq apart m. told p q hp hq apart m (btree_items block p q hp hq m) (passes p) refl;
    }
      where
        fixed : (t : List ℕ) → IsSoundStep block (both t)
        fixed t = sound_then block go (g t) over_step over_apart (each t)

        told : (p q : List ℕ) → BtreePage p → BtreePage q → AreApart p → mask block p ≡ mask block q → SameBtreeItems p q → (b : Bool) → passes p ≡ b
            → SameMasks (view block) (both (item p (place - 1)) p) (both (item q (place - 1)) q)
        told p q hp hq apart m s true e =
            let is = item_same p q s place (first_true (has_item p place) (test (item p (place - 1))) e) in
            let step = fixed (item p (place - 1)) in
            subst (λ t. SameMasks (view block) (both (item p (place - 1)) p) (both t q)) (sym is) (step.same p q hp hq apart m)
        told p q hp hq apart m s false e = let f : passes q ≡ false = test_same p q s place test ∙ e in rw (e, f) refl

-- INSERT_POST
pub insert_post_step : (block : ℕ) (op : BtreeInsert) (post : PostingInsertView) → IsSoundStep block (insert_post_page op post)
insert_post_step block op post =
    over_then block (op.off - 1) (can_swap post.index) (swapped_posting post.index post.tuple) (λ t q. on_page (add_item q (swapped_new post.tuple t) op.off false))
    (λ t. sound_step block (λ q. on_page (add_item q (swapped_new post.tuple t) op.off false)) (add_step block op.off (swapped_new post.tuple t)))

-- lists that become shorter
pub shorten_steps : (block : ℕ) (updates : List Update) → IsSoundStep block (shorten_items updates) × KeepsApart (shorten_items updates)
shorten_steps block [] = (
  record {
    size = λ p r h e. subst (λ x. length x ≡ 8192) (done_same p r e) h.page.size;
    page = λ p r h apart e. subst BtreePage (done_same p r e) h;
    same = λ p q hp hq apart m. m;
  },
  λ p r h apart e. subst AreApart (done_same p r e) apart,
)
shorten_steps block (update ∷ updates) =
    let rest = shorten_steps block updates in
    let one = over_step block update.place (can_shorten update.gone) (shortened update.gone) in
    let stay = over_apart block update.place (can_shorten update.gone) (shortened update.gone) in (
      sound_then block (shorten_item update) (shorten_items updates) one stay rest.0,
      apart_then (shorten_item update) (shorten_items updates) one.page stay rest.1,
    )

-- what they leave was asked for as a B-tree page
shortened_page : (updates : List Update) (p r : List ℕ) → BtreePage p → shorten_items updates p ≡ Done r → BtreePage r
shortened_page [] p r h e = subst BtreePage (done_same p r e) h
shortened_page (update ∷ updates) p r h e =
    let t = through (shorten_item update p) (on_btree (shorten_items updates)) r e in
    let size = let s = over_step 0 update.place (can_shorten update.gone) (shortened update.gone) in s.size p t.mid h t.is in
    on_left (shorten_items updates) BtreePage (λ q x hq. shortened_page updates q x hq) t.mid r size t.goes_on

any_step : (block : ℕ) (places : List ℕ) → IsSoundStep block (delete_any places)
any_step block [] = sound_step block (delete_any []) (special_step block without_garbage garbage_change garbage_leaf)
any_step block (place ∷ places) = sound_step block (delete_any (place ∷ places)) (delete_step block (place ∷ places))

pub updates_step : (block : ℕ) (updates : PostingUpdates) → IsSoundStep block (updates_page updates)
updates_step block updates =
    let s = shorten_steps block updates.updates in
    left_then block (shorten_items updates.updates) (delete_any updates.deleted) s.0 s.1 (shortened_page updates.updates) (any_step block updates.deleted)

-- a split, too
pub split_step : (block right : ℕ) (on_left : Bool) (op : BtreeSplit) (high_key new : List ℕ) → ((t : List ℕ) → IsSoundStep block (split_left_page right op (record { new_tuple = left_new on_left (swapped_new new t); high_key = high_key })))
    → IsSoundStep block (λ p. and_then (laid_over (op.new_item - 1) (can_swap op.posting) (swapped_posting op.posting new) p)
    (on_btree (split_left_page right op (record { new_tuple = left_new on_left (swapped_new new (item p (op.new_item - 1 - 1))); high_key = high_key }))))
split_step block right on_left op high_key new each =
    over_then block (op.new_item - 1) (can_swap op.posting) (swapped_posting op.posting new) (λ t. split_left_page right op (record { new_tuple = left_new on_left (swapped_new new t); high_key = high_key })) each
