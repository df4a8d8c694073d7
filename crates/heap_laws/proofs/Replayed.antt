-- Redo of a record: each operation can't tell pages with equal masks.
use Rattle.std.proofs.Common.{◌≡◌, ℕ, ◌==◌, List, Bool, true, false, Option, Some, None, Err, length, refl, subst}
use Rattle.std.specs.Prelude.{if◌then◌else◌}
use Rattle.wal_records.specs.Reading.{LogRecord}
use Rattle.block_refs.specs.Parts.{PartsView}
use Rattle.record_layouts.specs.Heap.{heap_insert_of, heap_delete_of, heap_update_of, heap_confirm_of, heap_lock_of, heap_inplace_of}
use Rattle.record_layouts.specs.Heap2.{multi_insert_of, heap_prune_of, heap_vacuum_of, heap_freeze_page_of, heap_visible_of}
use Rattle.record_layouts.specs.declared.heap.HeapOp.{HeapOp}
use Rattle.record_layouts.specs.declared.heap.HeapOp.TheVariants as heap
use Rattle.record_layouts.specs.declared.heap2.Heap2Op.{Heap2Op}
use Rattle.record_layouts.specs.declared.heap2.Heap2Op.TheVariants as heap2
use Rattle.record_layouts.specs.declared.heap.HeapUpdate.{HeapUpdate}
use Rattle.record_layouts.specs.declared.operation.Operation.{Operation}
use Rattle.record_layouts.specs.declared.operation.Operation.TheVariants.{Heap2, Heap}
use Rattle.block_layouts.specs.Tuple.{insert_tuple_of}
use Rattle.block_layouts.specs.MultiInsert.{multi_insert_tuples_of}
use Rattle.block_layouts.specs.Update.{UpdateView, update_tuple_of}
use Rattle.block_layouts.specs.Prune.{prune_places_of}
use Rattle.block_layouts.specs.Places.{first_places_of}
use Rattle.block_layouts.specs.Freeze.{freeze_plans_of}
use Rattle.page_layout.specs.declared.refusal.RedoWhy.TheVariants.{Layout}
use Rattle.page_masks.specs.Law.{Redone, view, IsOperation}
use Rattle.redo_steps.specs.Redo.{laid_out}
use Rattle.heap_tuples.specs.Heap.{on_heap}
use Rattle.heap_tuples.specs.Delete.{delete_page}
use Rattle.heap_tuples.specs.Confirm.{confirm_page}
use Rattle.heap_tuples.specs.Lock.{lock_page, lock_updated_page}
use Rattle.heap_tuples.specs.Inplace.{inplace_page}
use Rattle.heap_tuples.proofs.TupleLaws.{Done, done_same}
use Rattle.heap_pages.specs.Insert.{insert_page}
use Rattle.heap_pages.specs.MultiInsert.{multi_insert_page}
use Rattle.heap_pages.specs.Update.{has_parts, update_page, update_old_page, update_new_page}
use Rattle.heap_pages.specs.Prune.{prune_page}
use Rattle.heap_pages.specs.Vacuum.{vacuum_page}
use Rattle.heap_pages.specs.Freeze.{freeze_page}
use Rattle.heap_pages.specs.Visible.{visible_page}
use Rattle.heap_pages.specs.declared.update.UpdateKind.{UpdateKind}
use Rattle.heap_pages.specs.declared.update.UpdateKind.TheVariants.{Plain, Hot}
use Rattle.redo_reads.specs.Given.{main_of, bytes_for, number_at}
use Rattle.heap_replay.specs.Tuples.{delete_operation, confirm_operation, lock_operation, lock_updated_operation, inplace_operation}
use Rattle.heap_replay.specs.Added.{insert_operation, multi_insert_operation, old_parts, whole_tuple, on_one_page, update_first, update_new_operation, update_old_operation, update_operation}
use Rattle.heap_replay.specs.Lines.{prune_operation, vacuum_operation, freeze_operation, visible_operation}
use Rattle.heap_replay.specs.Operation.{acts_on, heap_change, heap2_change, changed_by, done_by, heap_operation}
use Rattle.heap_laws.proofs.Door.{trimmed_operation, begun_operation, step_operation}
use Rattle.heap_laws.proofs.Named.{delete_step, confirm_step, lock_step, version_step, visible_step, inplace_size, inplace_same}
use Rattle.heap_laws.proofs.Adding.{insert_step, multi_insert_step, update_old_step, update_new_step}
use Rattle.heap_laws.proofs.Updating.{update_size, update_same}
use Rattle.heap_laws.proofs.Freezing.{freeze_step}
use Rattle.heap_laws.proofs.Freed.{vacuum_size, vacuum_alike}
use Rattle.heap_laws.proofs.Pruned.{prune_size, prune_same}

module _ (b : ℕ) where
  abbrev Is : (List ℕ → Redone) → Type 0
  Is go = IsOperation (view b) go

  -- nothing is done
  kept : Is (λ p. Done p)
  kept = record { page = λ p q size e. subst (λ x. length x ≡ 8192) (done_same p q e) size; mask = λ p q size_p size_q sound same. same.mask }

  -- the record's bytes don't hold what is needed
  short : Is (λ p. Err Layout)
  short = record { page = λ p q size e. cc e; mask = λ p q size_p size_q sound same. refl }

  laid : {A : Type 0} (o : Option A) (go : A → List ℕ → Redone) → ((a : A) → Is (go a)) → Is (λ p. laid_out o (λ a. go a p))
  laid (Some a) go each = each a
  laid None go each = short

  where_not : (c : Bool) (go : List ℕ → Redone) → Is go → Is (λ p. if c then Err Layout else go p)
  where_not true go law = short
  where_not false go law = law

  module _ (rec : LogRecord) (parts : PartsView) (id : ℕ) where
    abbrev xid : ℕ
    xid = rec.header.xid

    abbrev main : List ℕ
    main = main_of rec parts

    with_number : (i : ℕ) (go : ℕ → List ℕ → Redone) → ((block : ℕ) → Is (go block)) → Is (λ p. laid_out (number_at parts i) (λ block. go block p))
    with_number i go each = laid (number_at parts i) go each

    with_bytes : (go : List ℕ → List ℕ → Redone) → ((bytes : List ℕ) → Is (go bytes)) → Is (λ p. laid_out (bytes_for rec parts id) (λ bytes. go bytes p))
    with_bytes go each = laid (bytes_for rec parts id) go each

    -- one tuple
    delete_law : Is (delete_operation rec parts id)
    delete_law = laid (heap_delete_of main) (λ op p. laid_out (number_at parts id) (λ block. on_heap false (delete_page xid block op) p))
        (λ op. with_number id (λ block. on_heap false (delete_page xid block op)) (λ block. step_operation b false (delete_page xid block op) (delete_step b xid block op)))

    confirm_law : Is (confirm_operation rec parts id)
    confirm_law = laid (heap_confirm_of main) (λ op p. laid_out (number_at parts id) (λ block. on_heap false (confirm_page block op) p))
        (λ op. with_number id (λ block. on_heap false (confirm_page block op)) (λ block. step_operation b false (confirm_page block op) (confirm_step b block op)))

    lock_law : Is (lock_operation rec parts id)
    lock_law = laid (heap_lock_of main) (λ op p. laid_out (number_at parts id) (λ block. on_heap false (lock_page block op) p))
        (λ op. with_number id (λ block. on_heap false (lock_page block op)) (λ block. step_operation b false (lock_page block op) (lock_step b block op)))

    version_law : Is (lock_updated_operation rec parts)
    version_law = laid (heap_lock_of main) (λ op. on_heap false (lock_updated_page op)) (λ op. step_operation b false (lock_updated_page op) (version_step b op))

    inplace_law : Is (inplace_operation rec parts id)
    inplace_law = laid (heap_inplace_of main) (λ op p. laid_out (bytes_for rec parts id) (λ values. on_heap false (inplace_page op values) p))
        (λ op. with_bytes (λ values. on_heap false (inplace_page op values)) (λ values. trimmed_operation b (inplace_page op values) (inplace_size b op values) (inplace_same b op values)))

    -- tuples added
    insert_law : (init : Bool) → Is (insert_operation init rec parts id)
    insert_law init =
        laid (heap_insert_of main) (λ op p. laid_out (bytes_for rec parts id) (λ bytes. laid_out (insert_tuple_of bytes) (λ tuple. laid_out (number_at parts id) (λ block. on_heap init (insert_page xid block op tuple) p))))
        (λ op. with_bytes (λ bytes p. laid_out (insert_tuple_of bytes) (λ tuple. laid_out (number_at parts id) (λ block. on_heap init (insert_page xid block op tuple) p)))
        (λ bytes. laid (insert_tuple_of bytes) (λ tuple p. laid_out (number_at parts id) (λ block. on_heap init (insert_page xid block op tuple) p))
        (λ tuple. with_number id (λ block. on_heap init (insert_page xid block op tuple)) (λ block. step_operation b init (insert_page xid block op tuple) (insert_step b xid block op tuple)))))

    multi_insert_law : (init : Bool) → Is (multi_insert_operation init rec parts id)
    multi_insert_law init =
        laid (multi_insert_of init main) (λ op p. laid_out (bytes_for rec parts id) (λ bytes. laid_out (multi_insert_tuples_of op.ntuples bytes) (λ tuples. laid_out (number_at parts id) (λ block. on_heap init (multi_insert_page xid block op.flags op.places tuples) p))))
        (λ op. with_bytes (λ bytes p. laid_out (multi_insert_tuples_of op.ntuples bytes) (λ tuples. laid_out (number_at parts id) (λ block. on_heap init (multi_insert_page xid block op.flags op.places tuples) p)))
        (λ bytes. laid (multi_insert_tuples_of op.ntuples bytes) (λ tuples p. laid_out (number_at parts id) (λ block. on_heap init (multi_insert_page xid block op.flags op.places tuples) p))
        (λ tuples. with_number id (λ block. on_heap init (multi_insert_page xid block op.flags op.places tuples)) (λ block. step_operation b init (multi_insert_page xid block op.flags op.places tuples) (multi_insert_step b xid block op.flags op.places tuples)))))

    module _ (kind : UpdateKind) where
      first_law : (init : Bool) (op : HeapUpdate) (tuple : UpdateView) (block : ℕ) → Is (update_first init kind rec parts op tuple block)
      first_law init op tuple block = by_case (on_one_page parts)
        where
          by_case : (c : Bool) → Is (λ p. if c then on_heap init (update_page xid block kind op (old_parts op) tuple) p else if has_parts (old_parts op) then Err Layout else on_heap init (update_new_page xid block op (whole_tuple tuple)) p)
          by_case true = begun_operation b init (update_page xid block kind op (old_parts op) tuple) (update_size b xid block kind op (old_parts op) tuple) (update_same b xid block kind op (old_parts op) tuple)
          by_case false = where_not (has_parts (old_parts op)) (on_heap init (update_new_page xid block op (whole_tuple tuple))) (step_operation b init (update_new_page xid block op (whole_tuple tuple)) (update_new_step b xid block op (whole_tuple tuple)))

      new_law : (init : Bool) → Is (update_new_operation init kind rec parts id)
      new_law init =
          laid (heap_update_of main) (λ op p. laid_out (bytes_for rec parts id) (λ bytes. laid_out (update_tuple_of (old_parts op) bytes) (λ tuple. laid_out (number_at parts id) (λ block. update_first init kind rec parts op tuple block p))))
          (λ op. with_bytes (λ bytes p. laid_out (update_tuple_of (old_parts op) bytes) (λ tuple. laid_out (number_at parts id) (λ block. update_first init kind rec parts op tuple block p)))
          (λ bytes. laid (update_tuple_of (old_parts op) bytes) (λ tuple p. laid_out (number_at parts id) (λ block. update_first init kind rec parts op tuple block p))
          (λ tuple. with_number id (λ block. update_first init kind rec parts op tuple block) (λ block. first_law init op tuple block))))

      old_law : Is (update_old_operation kind rec parts)
      old_law =
          laid (heap_update_of main) (λ op p. if has_parts (old_parts op) then Err Layout else laid_out (number_at parts 0) (λ block. on_heap false (update_old_page xid kind block op) p))
          (λ op. where_not (has_parts (old_parts op)) (λ p. laid_out (number_at parts 0) (λ block. on_heap false (update_old_page xid kind block op) p))
          (with_number 0 (λ block. on_heap false (update_old_page xid kind block op)) (λ block. step_operation b false (update_old_page xid kind block op) (update_old_step b xid block kind op))))

      update_law : (init : Bool) → Is (update_operation init kind rec parts id)
      update_law init = by_case (id == 1)
        where
          by_case : (c : Bool) → Is (λ p. if c then update_old_operation kind rec parts p else update_new_operation init kind rec parts id p)
          by_case true = old_law
          by_case false = new_law init

    -- lines, and several tuples
    prune_law : Is (prune_operation rec parts id)
    prune_law =
        laid (heap_prune_of main) (λ op p. laid_out (bytes_for rec parts id) (λ bytes. laid_out (prune_places_of op.nredirected op.ndead bytes) (λ places. on_heap false (prune_page places) p)))
        (λ op. with_bytes (λ bytes p. laid_out (prune_places_of op.nredirected op.ndead bytes) (λ places. on_heap false (prune_page places) p))
        (λ bytes. laid (prune_places_of op.nredirected op.ndead bytes) (λ places. on_heap false (prune_page places)) (λ places. trimmed_operation b (prune_page places) (prune_size places) (prune_same places b))))

    vacuum_law : Is (vacuum_operation rec parts id)
    vacuum_law =
        laid (heap_vacuum_of main) (λ op p. laid_out (bytes_for rec parts id) (λ bytes. laid_out (first_places_of op.nunused bytes) (λ places. on_heap false (vacuum_page places) p)))
        (λ op. with_bytes (λ bytes p. laid_out (first_places_of op.nunused bytes) (λ places. on_heap false (vacuum_page places) p))
        (λ bytes. laid (first_places_of op.nunused bytes) (λ places. on_heap false (vacuum_page places)) (λ places. trimmed_operation b (vacuum_page places) (vacuum_size places) (λ p q gp gq same. vacuum_alike b places p q gp.heap gq.heap same))))

    freeze_law : Is (freeze_operation rec parts id)
    freeze_law =
        laid (heap_freeze_page_of main) (λ op p. laid_out (bytes_for rec parts id) (λ bytes. laid_out (freeze_plans_of op.nplans bytes) (λ plans. on_heap false (freeze_page plans) p)))
        (λ op. with_bytes (λ bytes p. laid_out (freeze_plans_of op.nplans bytes) (λ plans. on_heap false (freeze_page plans) p))
        (λ bytes. laid (freeze_plans_of op.nplans bytes) (λ plans. on_heap false (freeze_page plans)) (λ plans. step_operation b false (freeze_page plans) (freeze_step b plans))))

    visible_law : Is (visible_operation rec parts)
    visible_law = laid (heap_visible_of main) (λ op. on_heap false visible_page) (λ op. step_operation b false visible_page (visible_step b))

    heap_law : (op : HeapOp) → Is (heap_change op rec parts id)
    heap_law (heap.Insert init) = insert_law init
    heap_law heap.Delete = delete_law
    heap_law (heap.Update init) = update_law Plain init
    heap_law heap.Truncate = kept
    heap_law (heap.HotUpdate init) = update_law Hot init
    heap_law heap.HeapConfirm = confirm_law
    heap_law heap.Lock = lock_law
    heap_law heap.Inplace = inplace_law

    heap2_law : (op : Heap2Op) → Is (heap2_change op rec parts id)
    heap2_law heap2.Rewrite = kept
    heap2_law heap2.Prune = prune_law
    heap2_law heap2.Vacuum = vacuum_law
    heap2_law heap2.FreezePage = freeze_law
    heap2_law heap2.Visible = visible_law
    heap2_law (heap2.MultiInsert init) = multi_insert_law init
    heap2_law heap2.LockUpdated = version_law
    heap2_law heap2.NewCid = kept

    changed_law : (op : Operation) → Is (changed_by op rec parts id)
    changed_law (Heap op) = heap_law op
    changed_law (Heap2 op) = heap2_law op
    changed_law _ = kept

    pub record_law : Is (heap_operation rec parts id)
    record_law = by_case (acts_on (done_by rec) id)
      where
        by_case : (c : Bool) → Is (λ p. if c then changed_by (done_by rec) rec parts id p else Done p)
        by_case true = changed_law (done_by rec)
        by_case false = kept
