-- A record that makes its page anew looks at no byte of it; pages of zeros are sound.
use Rattle.std.proofs.Common.{◌≡◌, ℕ, ◌==◌, ◌&&◌, ◌||◌, List, Bool, true, false, IsTrue, Option, Some, None, Ok, length, refl, sym, subst, arith}
use Rattle.std.specs.Prelude.{if◌then◌else◌}
use Rattle.std.proofs.lemmas.Bool.Decides.{nat_tests}
use Rattle.wal_records.specs.Reading.{LogRecord}
use Rattle.block_refs.specs.Parts.{PartsView}
use Rattle.record_layouts.specs.Btree.{btree_split_of, btree_new_root_of}
use Rattle.record_layouts.specs.declared.btree.BtreeOp.{BtreeOp}
use Rattle.record_layouts.specs.declared.btree.BtreeOp.TheVariants as btree
use Rattle.record_layouts.specs.declared.btree.BtreeSplit.{BtreeSplit}
use Rattle.record_layouts.specs.declared.btree.BtreeNewRoot.{BtreeNewRoot}
use Rattle.record_layouts.specs.declared.operation.Operation.{Operation}
use Rattle.record_layouts.specs.declared.operation.Operation.TheVariants.{Btree}
use Rattle.page_masks.specs.Kind.{is_zero, kind_of}
use Rattle.page_masks.specs.Law.{Redone, view, SamePage, SameMasks}
use Rattle.page_masks.specs.Sound.{is_sound}
use Rattle.redo_reads.specs.Given.{main_of}
use Rattle.btree_pages.proofs.ItemsLemmas.{Done}
use Rattle.btree_posting.specs.Posting.{has_posting, posting_operation}
use Rattle.btree_replay.specs.Operation.{split_acts, new_root_acts, acts_on, makes_anew, btree_makes_anew, changed_by, done_by, btree_fresh, btree_operation}
use Rattle.btree_laws.proofs.Replayed.{record_law}

is_number : (id n : ℕ) → (id == n) ≡ true → id ≡ n
is_number id n e = grind (arith, nat_tests, e)

either : (a b : Bool) (P : Type 0) → (a || b) ≡ true → (a ≡ true → P) → (b ≡ true → P) → P
either true b P e left right = left refl
either false b P e left right = right e

-- a split has an effect on its right page, and a root on itself and the metapage
right_acts : (op : Option BtreeSplit) → split_acts op 1 ≡ true
right_acts None = refl
right_acts (Some op) = refl

root_acts : (op : Option BtreeNewRoot) → new_root_acts op 0 ≡ true
root_acts None = refl
root_acts (Some op) = refl

meta_acts : (op : Option BtreeNewRoot) → new_root_acts op 2 ≡ true
meta_acts None = refl
meta_acts (Some op) = refl

module _ (rec : LogRecord) (parts : PartsView) (p q : List ℕ) where
  abbrev main : List ℕ
  main = main_of rec parts

  abbrev done : Operation → ℕ → List ℕ → Redone
  done op id r =
      if id == 0 && has_posting op main then posting_operation rec parts id r
      else if acts_on op main id then changed_by op rec parts id r
      else Done r

  abbrev Same : BtreeOp → ℕ → Type 0
  Same op id = done (Btree op) id p ≡ done (Btree op) id q

  at : (op : BtreeOp) (id n : ℕ) → (id == n) ≡ true → Same op n → Same op id
  at op id n e same = subst (Same op) (sym (is_number id n e)) same

  left_split : Same btree.SplitLeft 1
  left_split = rw (right_acts (btree_split_of main)) refl

  right_split : Same btree.SplitRight 1
  right_split = rw (right_acts (btree_split_of main)) refl

  root : Same btree.NewRoot 0
  root = rw (root_acts (btree_new_root_of main)) refl

  root_meta : Same btree.NewRoot 2
  root_meta = rw (meta_acts (btree_new_root_of main)) refl

  btree_anew : (op : BtreeOp) (id : ℕ) → btree_makes_anew op id ≡ true → Same op id
  btree_anew btree.InsertMeta id e = at btree.InsertMeta id 2 e refl
  btree_anew btree.SplitLeft id e = at btree.SplitLeft id 1 e left_split
  btree_anew btree.SplitRight id e = at btree.SplitRight id 1 e right_split
  btree_anew btree.NewRoot id e = either (id == 0) (id == 2) (Same btree.NewRoot id) e (λ t. at btree.NewRoot id 0 t root) (λ t. at btree.NewRoot id 2 t root_meta)
  btree_anew btree.MetaCleanup id e = at btree.MetaCleanup id 0 e refl
  btree_anew _ id e = cc e

  anew : (op : Operation) (id : ℕ) → makes_anew op id ≡ true → done op id p ≡ done op id q
  anew (Btree op) id e = btree_anew op id e
  anew _ id e = cc e

pub fresh_same : (rec : LogRecord) (parts : PartsView) (id : ℕ) (p q : List ℕ) → btree_fresh rec parts id ≡ true → btree_operation rec parts id p ≡ btree_operation rec parts id q
fresh_same rec parts id p q e = anew rec parts p q (done_by rec) id e

zeros_sound : (p : List ℕ) → is_zero p ≡ true → IsTrue (is_sound p)
unfolding is_sound kind_of
zeros_sound p e = rw e refl

pub zeros_same : (rec : LogRecord) (parts : PartsView) (id block : ℕ) (p q : List ℕ) → length p ≡ 8192 → length q ≡ 8192 → is_zero p ≡ true → SamePage (view block) p q
    → SameMasks (view block) (btree_operation rec parts id p) (btree_operation rec parts id q)
zeros_same rec parts id block p q size_p size_q e same = let law = record_law block rec parts id in law.mask p q size_p size_q (zeros_sound p e) same

pub size_kept : (rec : LogRecord) (parts : PartsView) (id : ℕ) (p q : List ℕ) → length p ≡ 8192 → btree_operation rec parts id p ≡ Ok q → length q ≡ 8192
size_kept rec parts id p q size e = let law = record_law 0 rec parts id in law.page p q size e
