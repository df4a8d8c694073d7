-- Redo of a record that has to do with posting lists.
use Rattle.std.proofs.Common.{◌≡◌, ℕ, List, Bool, true, false, Option, Some, None, Ok, length, refl}
use Rattle.wal_records.specs.Reading.{LogRecord}
use Rattle.block_refs.specs.Parts.{PartsView}
use Rattle.record_layouts.specs.Operation.{operation_of}
use Rattle.record_layouts.specs.Btree.{btree_insert_of, btree_split_of, btree_dedup_of, btree_delete_of, btree_vacuum_of}
use Rattle.record_layouts.specs.declared.btree.BtreeOp.{BtreeOp}
use Rattle.record_layouts.specs.declared.btree.BtreeOp.TheVariants as btree
use Rattle.record_layouts.specs.declared.btree.BtreeSplit.{BtreeSplit}
use Rattle.record_layouts.specs.declared.operation.Operation.{Operation}
use Rattle.record_layouts.specs.declared.operation.Operation.TheVariants.{Btree}
use Rattle.block_layouts.specs.Dedup.{dedup_intervals_of}
use Rattle.block_layouts.specs.Posting.{posting_insert_of, posting_updates_of}
use Rattle.block_layouts.specs.Split.{SplitView, split_tuples_of}
use Rattle.redo_steps.specs.Redo.{laid_out}
use Rattle.redo_reads.specs.Given.{main_of, bytes_for, number_at}
use Rattle.btree_pages.specs.Page.{on_btree}
use Rattle.btree_pages.specs.Split.{split_left_page}
use Rattle.btree_pages.proofs.ItemsLemmas.{Done}
use Rattle.btree_posting.specs.Dedup.{dedup_page}
use Rattle.btree_posting.specs.Form.{swapped_new}
use Rattle.btree_posting.specs.Insert.{insert_post_page}
use Rattle.btree_posting.specs.Split.{left_new, split_posting_page}
use Rattle.btree_posting.specs.Updates.{updates_page}
use Rattle.btree_posting.specs.Posting.{dedup_operation, insert_post_operation, split_posting_operation, updates_operation, delete_updates_operation, vacuum_updates_operation, posting_change, posting_changed_by, is_posting, posting_operation}
use Rattle.btree_laws.proofs.Steps.{step_operation}
use Rattle.btree_laws.proofs.Sound.{IsSoundStep, sound_step, sound_operation}
use Rattle.btree_laws.proofs.Cases.{Is, left_alone, laid, pick}
use Rattle.btree_laws.proofs.Dedup.{dedup_step}
use Rattle.btree_laws.proofs.Halves.{left_step}
use Rattle.btree_laws.proofs.Posting.{insert_post_step, split_step, updates_step}

-- a split, whose new tuple is there
split_page_step : (b right : ℕ) (on_left : Bool) (op : BtreeSplit) (tuples : SplitView) → IsSoundStep b (split_posting_page right on_left op tuples)
split_page_step b right on_left op tuples = by_case tuples.new_tuple
  where
    halves : List ℕ → List ℕ → SplitView
    halves new t = record { new_tuple = left_new on_left (swapped_new new t); high_key = tuples.high_key }

    by_case : (o : Option (List ℕ)) → IsSoundStep b (λ p. split_posting_page right on_left op (record { new_tuple = o; high_key = tuples.high_key }) p)
    by_case (Some new) =
        split_step b right on_left op tuples.high_key new
        (λ t. sound_step b (split_left_page right op (halves new t)) (left_step b right op (halves new t)))
    by_case None = record { size = λ p r h e. cc e; page = λ p r h apart e. cc e; same = λ p q hp hq apart m. refl }

module _ (b : ℕ) (rec : LogRecord) (parts : PartsView) where
  abbrev main : List ℕ
  main = main_of rec parts

  dedup_law : Is b (dedup_operation rec parts)
  dedup_law =
      laid b (btree_dedup_of main) (λ op p. laid_out (bytes_for rec parts 0) (λ bytes. laid_out (dedup_intervals_of op.nintervals bytes) (λ intervals. on_btree (dedup_page intervals) p)))
      (λ op. laid b (bytes_for rec parts 0) (λ bytes p. laid_out (dedup_intervals_of op.nintervals bytes) (λ intervals. on_btree (dedup_page intervals) p))
      (λ bytes. laid b (dedup_intervals_of op.nintervals bytes) (λ intervals. on_btree (dedup_page intervals))
      (λ intervals. step_operation b (dedup_page intervals) (dedup_step b intervals))))

  insert_law : Is b (insert_post_operation rec parts)
  insert_law =
      laid b (btree_insert_of main) (λ op p. laid_out (bytes_for rec parts 0) (λ bytes. laid_out (posting_insert_of bytes) (λ post. on_btree (insert_post_page op post) p)))
      (λ op. laid b (bytes_for rec parts 0) (λ bytes p. laid_out (posting_insert_of bytes) (λ post. on_btree (insert_post_page op post) p))
      (λ bytes. laid b (posting_insert_of bytes) (λ post. on_btree (insert_post_page op post))
      (λ post. sound_operation b (insert_post_page op post) (insert_post_step b op post))))

  split_law : (on_left : Bool) → Is b (split_posting_operation on_left rec parts)
  split_law on_left =
      laid b (btree_split_of main) (λ op p. laid_out (bytes_for rec parts 0) (λ bytes. laid_out (split_tuples_of true bytes) (λ tuples. laid_out (number_at parts 1) (λ right. on_btree (split_posting_page right on_left op tuples) p))))
      (λ op. laid b (bytes_for rec parts 0) (λ bytes p. laid_out (split_tuples_of true bytes) (λ tuples. laid_out (number_at parts 1) (λ right. on_btree (split_posting_page right on_left op tuples) p)))
      (λ bytes. laid b (split_tuples_of true bytes) (λ tuples p. laid_out (number_at parts 1) (λ right. on_btree (split_posting_page right on_left op tuples) p))
      (λ tuples. laid b (number_at parts 1) (λ right. on_btree (split_posting_page right on_left op tuples))
      (λ right. sound_operation b (split_posting_page right on_left op tuples) (split_page_step b right on_left op tuples)))))

  updates_law : (ndeleted nupdated : ℕ) → Is b (updates_operation ndeleted nupdated rec parts)
  updates_law ndeleted nupdated =
      laid b (bytes_for rec parts 0) (λ bytes p. laid_out (posting_updates_of ndeleted nupdated bytes) (λ updates. on_btree (updates_page updates) p))
      (λ bytes. laid b (posting_updates_of ndeleted nupdated bytes) (λ updates. on_btree (updates_page updates))
      (λ updates. sound_operation b (updates_page updates) (updates_step b updates)))

  delete_law : Is b (delete_updates_operation rec parts)
  delete_law = laid b (btree_delete_of main) (λ op. updates_operation op.ndeleted op.nupdated rec parts) (λ op. updates_law op.ndeleted op.nupdated)

  vacuum_law : Is b (vacuum_updates_operation rec parts)
  vacuum_law = laid b (btree_vacuum_of main) (λ op. updates_operation op.ndeleted op.nupdated rec parts) (λ op. updates_law op.ndeleted op.nupdated)

  change_law : (op : BtreeOp) → Is b (posting_change op rec parts)
  change_law btree.InsertPost = insert_law
  change_law btree.Dedup = dedup_law
  change_law btree.SplitLeft = split_law true
  change_law btree.SplitRight = split_law false
  change_law btree.Delete = delete_law
  change_law btree.Vacuum = vacuum_law
  change_law _ = left_alone b

  any_law : (op : Operation) → Is b (posting_changed_by op rec parts)
  any_law (Btree op) = change_law op
  any_law _ = left_alone b

  pub posting_law : (id : ℕ) → Is b (posting_operation rec parts id)
  posting_law id =
      pick b (is_posting rec parts id) (posting_changed_by (operation_of rec.header.manager rec.header.info) rec parts) (λ p. Done p)
      (any_law (operation_of rec.header.manager rec.header.info)) (left_alone b)

pub posting_size : (rec : LogRecord) (parts : PartsView) (id : ℕ) (p q : List ℕ) → length p ≡ 8192 → posting_operation rec parts id p ≡ Ok q → length q ≡ 8192
posting_size rec parts id p q size e = let law = posting_law 0 rec parts id in law.page p q size e
