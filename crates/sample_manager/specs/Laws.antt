-- What the sample's changes owe to replay: a page stays one of 8192 bytes, its mask decides what becomes of it, and its LSN stays where it isn't made anew.
use Rattle.std.proofs.Common.{◌≡◌, ℕ, ◌-◌, List, Bool, true, false, Option, Some, None, Ok, Err, length, take, refl, sym, ◌∙◌, ap}
use Rattle.std.specs.Prelude.{if◌then◌else◌, replicate}
use Rattle.page_layout.specs.Bytes.{up8}
use Rattle.page_layout.specs.Edits.{init_bytes}
use Rattle.page_layout.specs.declared.refusal.RedoWhy.TheVariants.{Place, PageShape}
use Rattle.page_masks.specs.Law.{Redone, SameMasks, IsOperation, view}
use Rattle.page_masks.specs.Mask.{mask}
use Rattle.page_laws.proofs.BtreeAnew.{init_size, empty_size}
use Rattle.redo_steps.specs.Redo.{laid_out}
use Rattle.sample_manager.specs.Change.{is_slot, is_slot_page, sample_change, updated, with_value}
use Rattle.sample_manager.specs.Operation.{is_init}
use Rattle.sample_manager.specs.Slot.{slot_update_of}
use Rattle.sample_manager.specs.SlotPages.{both_pages, same_values, value_lsn, value_size}
use Rattle.sample_manager.specs.declared.operation.SampleOp.{SampleOp}
use Rattle.sample_manager.specs.declared.operation.SampleOp.TheVariants.{Init, Update, Unlisted}
use Rattle.sample_manager.specs.declared.slot.SlotUpdate.{SlotUpdate}

-- an update by what is found: the page is one of slots, and has the slot
abbrev judged : Bool → Bool → List ℕ → Redone
judged page slot made = if page then (if slot then Ok made else Err Place) else Err PageShape

-- one that is done was of a slot
done : (update : SlotUpdate) (p q : List ℕ) → updated update p ≡ Ok q → (is_slot update.slot ≡ true) × (with_value update p ≡ q)
done update p q e = by_case (is_slot_page p) (is_slot update.slot) refl e
  where
    by_case : (page slot : Bool) → is_slot update.slot ≡ slot → judged page slot (with_value update p) ≡ Ok q → (is_slot update.slot ≡ true) × (with_value update p ≡ q)
    by_case true true s e = (s, cc e)
    by_case true false s e = cc e
    by_case false slot s e = cc e

-- an update leaves a page of 8192 bytes, and its first eight as they were
update_size : (update : SlotUpdate) (p q : List ℕ) → length p ≡ 8192 → updated update p ≡ Ok q → length q ≡ 8192
update_size update p q size e = let d = done update p q e in ap length (sym d.1) ∙ value_size update p size d.0

update_lsn : (update : SlotUpdate) (p q : List ℕ) → length p ≡ 8192 → updated update p ≡ Ok q → take 8 q ≡ take 8 p
update_lsn update p q size e = let d = done update p q e in ap (take 8) (sym d.1) ∙ value_lsn update p size d.0

-- on pages with equal masks it is done on both, or refused for the same
update_masks : (block : ℕ) (update : SlotUpdate) (p q : List ℕ) → length p ≡ 8192 → length q ≡ 8192 → mask block p ≡ mask block q → SameMasks (view block) (updated update p) (updated update q)
update_masks block update p q size_p size_q same = rw (← both_pages block p q size_p size_q same) (by_case (is_slot_page p) (is_slot update.slot) refl refl)
  where
    by_case : (page slot : Bool) → is_slot_page p ≡ page → is_slot update.slot ≡ slot → SameMasks (view block) (judged page slot (with_value update p)) (judged page slot (with_value update q))
    by_case true true e s = same_values block update p q size_p size_q s e same
    by_case true false e s = refl
    by_case false slot e s = refl

-- the same of an operation with these main bytes
op_size : (op : SampleOp) (main p q : List ℕ) → length p ≡ 8192 → sample_change op main p ≡ Ok q → length q ≡ 8192
op_size Init main p q size e = let made : init_bytes 32 ≡ q = cc e in ap length (sym made) ∙ empty_size (replicate 8192 0) init_size (8192 - up8 32)
op_size Update main p q size e = by_case (slot_update_of main) e
  where
    by_case : (update : Option SlotUpdate) → laid_out update (λ update. updated update p) ≡ Ok q → length q ≡ 8192
    by_case (Some update) e = update_size update p q size e
    by_case None e = cc e
op_size Unlisted main p q size e = cc e

op_masks : (block : ℕ) (op : SampleOp) (main p q : List ℕ) → length p ≡ 8192 → length q ≡ 8192 → mask block p ≡ mask block q → SameMasks (view block) (sample_change op main p) (sample_change op main q)
op_masks block Init main p q size_p size_q same = refl
op_masks block Update main p q size_p size_q same = by_case (slot_update_of main)
  where
    by_case : (update : Option SlotUpdate) → SameMasks (view block) (laid_out update (λ update. updated update p)) (laid_out update (λ update. updated update q))
    by_case (Some update) = update_masks block update p q size_p size_q same
    by_case None = refl
op_masks block Unlisted main p q size_p size_q same = refl

pub op_respects : (block : ℕ) (op : SampleOp) (main : List ℕ) → IsOperation (view block) (sample_change op main)
op_respects block op main = record {
  page = λ p q size e. op_size op main p q size e;
  mask = λ p q size_p size_q sound same. op_masks block op main p q size_p size_q same.mask;
}

pub op_anew : (op : SampleOp) (main p q : List ℕ) → is_init op ≡ true → sample_change op main p ≡ sample_change op main q
op_anew Init main p q e = refl
op_anew Update main p q e = cc e
op_anew Unlisted main p q e = refl

pub op_lsn : (op : SampleOp) (main p q : List ℕ) → is_init op ≡ false → length p ≡ 8192 → sample_change op main p ≡ Ok q → take 8 q ≡ take 8 p
op_lsn Init main p q other size e = cc other
op_lsn Update main p q other size e = by_case (slot_update_of main) e
  where
    by_case : (update : Option SlotUpdate) → laid_out update (λ update. updated update p) ≡ Ok q → take 8 q ≡ take 8 p
    by_case (Some update) e = update_lsn update p q size e
    by_case None e = cc e
op_lsn Unlisted main p q other size e = cc e
