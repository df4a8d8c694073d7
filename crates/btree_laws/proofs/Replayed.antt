-- Redo of a record: each operation can't tell pages with equal masks.
use Rattle.std.proofs.Common.{◌≡◌, ℕ, ◌==◌, List, [], Bool, true, false, Ok, Err, length, refl, subst}
use Rattle.std.specs.Prelude.{if◌then◌else◌}
use Rattle.wal_records.specs.Reading.{LogRecord}
use Rattle.block_refs.specs.Parts.{PartsView}
use Rattle.record_layouts.specs.Btree.{btree_insert_of, btree_split_of, btree_delete_of, btree_vacuum_of, btree_new_root_of}
use Rattle.record_layouts.specs.declared.btree.BtreeOp.{BtreeOp}
use Rattle.record_layouts.specs.declared.btree.BtreeOp.TheVariants as btree
use Rattle.record_layouts.specs.declared.btree.BtreeInsert.{BtreeInsert}
use Rattle.record_layouts.specs.declared.btree.BtreeSplit.{BtreeSplit}
use Rattle.record_layouts.specs.declared.btree.BtreeNewRoot.{BtreeNewRoot}
use Rattle.record_layouts.specs.declared.operation.Operation.{Operation}
use Rattle.record_layouts.specs.declared.operation.Operation.TheVariants.{Btree}
use Rattle.block_layouts.specs.Meta.{metapage_of}
use Rattle.block_layouts.specs.Places.{first_places_of}
use Rattle.block_layouts.specs.Split.{split_tuples_of}
use Rattle.block_layouts.specs.IndexTuples.{restored_tuples_of}
use Rattle.page_masks.specs.Law.{Redone, PageView, view, SameMasks}
use Rattle.redo_steps.specs.Redo.{laid_out}
use Rattle.redo_reads.specs.Given.{main_of, bytes_for, number_at}
use Rattle.btree_pages.specs.Page.{on_btree}
use Rattle.btree_pages.specs.Special.{with_prev, settled, settled_page, neighbour_page}
use Rattle.btree_pages.specs.Insert.{insert_page}
use Rattle.btree_pages.specs.Delete.{delete_page}
use Rattle.btree_pages.specs.Meta.{meta_page}
use Rattle.btree_pages.specs.Split.{right_special, split_left_page, split_right_page}
use Rattle.btree_pages.specs.NewRoot.{root_special, new_root_page}
use Rattle.btree_pages.proofs.ItemsLemmas.{Done}
use Rattle.btree_posting.specs.Posting.{is_posting, posting_operation}
use Rattle.btree_replay.specs.Meta.{meta_operation}
use Rattle.btree_replay.specs.Insert.{settle_operation, insert_first, insert_operation}
use Rattle.btree_replay.specs.Delete.{places_operation, delete_operation, vacuum_operation}
use Rattle.btree_replay.specs.Split.{or_none, split_left, split_right, split_neighbour, split_operation}
use Rattle.btree_replay.specs.NewRoot.{root_operation, new_root_operation}
use Rattle.btree_replay.specs.Operation.{btree_change, changed_by, done_by, btree_acts, btree_operation}
use Rattle.btree_laws.proofs.Steps.{done_same, step_operation}
use Rattle.btree_laws.proofs.Cases.{Is, left_alone, short, laid, pick}
use Rattle.btree_laws.proofs.PostingReplayed.{posting_law}
use Rattle.btree_laws.proofs.Special.{special_step, settled_change, settled_leaf, prev_change, prev_leaf}
use Rattle.btree_laws.proofs.Added.{insert_step, delete_step}
use Rattle.btree_laws.proofs.Halves.{left_step}
use Rattle.btree_laws.proofs.Sizes.{restored_size, meta_size}

module _ (b : ℕ) where
  -- a page that is made anew
  same_self : (v : PageView) (a : Redone) → SameMasks v a a
  same_self v (Ok p) = refl
  same_self v (Err why) = refl

  anew : (a : Redone) → ((r : List ℕ) → a ≡ Done r → length r ≡ 8192) → Is b (λ p. a)
  anew a size = record { page = λ p q s e. size q e; mask = λ p q size_p size_q sound same. same_self (view b) a }

  settle_law : Is b settle_operation
  settle_law = step_operation b (λ q. Done (settled_page q)) (special_step b settled settled_change settled_leaf)

  module _ (rec : LogRecord) (parts : PartsView) where
    abbrev main : List ℕ
    main = main_of rec parts

    meta_law : (id : ℕ) → Is b (λ p. meta_operation rec parts id)
    meta_law id =
        laid b (bytes_for rec parts id) (λ bytes p. laid_out (metapage_of bytes) (λ meta. Done (meta_page meta)))
        (λ bytes. laid b (metapage_of bytes) (λ meta p. Done (meta_page meta))
        (λ meta. anew (Done (meta_page meta)) (λ r e. subst (λ x. length x ≡ 8192) (done_same (meta_page meta) r e) (meta_size meta))))

    -- inserts
    first_law : (op : BtreeInsert) → Is b (insert_first rec parts op)
    first_law op = laid b (bytes_for rec parts 0) (λ bytes. on_btree (insert_page op bytes)) (λ bytes. step_operation b (insert_page op bytes) (insert_step b op bytes))

    insert_law : (id : ℕ) → Is b (insert_operation rec parts id)
    insert_law id =
        laid b (btree_insert_of main) (λ op p. if id == 0 then insert_first rec parts op p else if id == 1 then settle_operation p else meta_operation rec parts id)
        (λ op. pick b (id == 0) (insert_first rec parts op) (λ p. if id == 1 then settle_operation p else meta_operation rec parts id) (first_law op)
        (pick b (id == 1) settle_operation (λ p. meta_operation rec parts id) settle_law (meta_law id)))

    -- deletes
    places_law : (ndeleted : ℕ) → Is b (places_operation ndeleted rec parts)
    places_law ndeleted =
        laid b (bytes_for rec parts 0) (λ bytes p. laid_out (first_places_of ndeleted bytes) (λ places. on_btree (delete_page places) p))
        (λ bytes. laid b (first_places_of ndeleted bytes) (λ places. on_btree (delete_page places)) (λ places. step_operation b (delete_page places) (delete_step b places)))

    delete_law : Is b (delete_operation rec parts)
    delete_law = laid b (btree_delete_of main) (λ op. places_operation op.ndeleted rec parts) (λ op. places_law op.ndeleted)

    vacuum_law : Is b (vacuum_operation rec parts)
    vacuum_law = laid b (btree_vacuum_of main) (λ op. places_operation op.ndeleted rec parts) (λ op. places_law op.ndeleted)

    -- splits
    left_law : (on_left : Bool) (op : BtreeSplit) → Is b (split_left on_left rec parts op)
    left_law on_left op =
        laid b (bytes_for rec parts 0) (λ bytes p. laid_out (split_tuples_of on_left bytes) (λ tuples. laid_out (number_at parts 1) (λ right. on_btree (split_left_page right op tuples) p)))
        (λ bytes. laid b (split_tuples_of on_left bytes) (λ tuples p. laid_out (number_at parts 1) (λ right. on_btree (split_left_page right op tuples) p))
        (λ tuples. laid b (number_at parts 1) (λ right. on_btree (split_left_page right op tuples)) (λ right. step_operation b (split_left_page right op tuples) (left_step b right op tuples))))

    right_law : (op : BtreeSplit) → Is b (λ p. split_right rec parts op)
    right_law op =
        let next = or_none (number_at parts 2) in
        laid b (bytes_for rec parts 1) (λ bytes p. laid_out (restored_tuples_of bytes) (λ tuples. laid_out (number_at parts 0) (λ left. split_right_page left next op.level tuples)))
        (λ bytes. laid b (restored_tuples_of bytes) (λ tuples p. laid_out (number_at parts 0) (λ left. split_right_page left next op.level tuples))
        (λ tuples. laid b (number_at parts 0) (λ left p. split_right_page left next op.level tuples)
        (λ left. anew (split_right_page left next op.level tuples) (restored_size (right_special left next op.level) tuples))))

    neighbour_law : Is b (split_neighbour parts)
    neighbour_law = laid b (number_at parts 1) (λ right. on_btree (λ q. Done (neighbour_page right q))) (λ right. step_operation b (λ q. Done (neighbour_page right q)) (special_step b (with_prev right) (prev_change right) (prev_leaf right)))

    split_law : (on_left : Bool) (id : ℕ) → Is b (split_operation on_left rec parts id)
    split_law on_left id =
        laid b (btree_split_of main) (λ op p. if id == 0 then split_left on_left rec parts op p else if id == 1 then split_right rec parts op else if id == 2 then split_neighbour parts p else settle_operation p)
        (λ op. pick b (id == 0) (split_left on_left rec parts op) (λ p. if id == 1 then split_right rec parts op else if id == 2 then split_neighbour parts p else settle_operation p) (left_law on_left op)
        (pick b (id == 1) (λ p. split_right rec parts op) (λ p. if id == 2 then split_neighbour parts p else settle_operation p) (right_law op)
        (pick b (id == 2) (split_neighbour parts) settle_operation neighbour_law settle_law)))

    -- roots
    root_law : (op : BtreeNewRoot) → Is b (λ p. root_operation rec parts op)
    root_law op =
        pick b (op.level == 0) (λ p. new_root_page 0 []) (λ p. laid_out (bytes_for rec parts 0) (λ bytes. laid_out (restored_tuples_of bytes) (λ tuples. new_root_page op.level tuples)))
        (anew (new_root_page 0 []) (restored_size (root_special 0) []))
        (laid b (bytes_for rec parts 0) (λ bytes p. laid_out (restored_tuples_of bytes) (λ tuples. new_root_page op.level tuples))
        (λ bytes. laid b (restored_tuples_of bytes) (λ tuples p. new_root_page op.level tuples) (λ tuples. anew (new_root_page op.level tuples) (restored_size (root_special op.level) tuples))))

    new_root_law : (id : ℕ) → Is b (new_root_operation rec parts id)
    new_root_law id =
        laid b (btree_new_root_of main) (λ op p. if id == 0 then root_operation rec parts op else if id == 1 then settle_operation p else meta_operation rec parts id)
        (λ op. pick b (id == 0) (λ p. root_operation rec parts op) (λ p. if id == 1 then settle_operation p else meta_operation rec parts id) (root_law op)
        (pick b (id == 1) settle_operation (λ p. meta_operation rec parts id) settle_law (meta_law id)))

    -- any record
    btree_law : (op : BtreeOp) (id : ℕ) → Is b (btree_change op rec parts id)
    btree_law btree.InsertLeaf id = insert_law id
    btree_law btree.InsertUpper id = insert_law id
    btree_law btree.InsertMeta id = insert_law id
    btree_law btree.SplitLeft id = split_law true id
    btree_law btree.SplitRight id = split_law false id
    btree_law btree.InsertPost id = short b
    btree_law btree.Dedup id = short b
    btree_law btree.Delete id = delete_law
    btree_law btree.Vacuum id = vacuum_law
    btree_law btree.NewRoot id = new_root_law id
    btree_law btree.MetaCleanup id = meta_law id
    btree_law _ id = left_alone b

    change_law : (op : Operation) (id : ℕ) → Is b (changed_by op rec parts id)
    change_law (Btree op) id = btree_law op id
    change_law _ id = left_alone b

    pub record_law : (id : ℕ) → Is b (btree_operation rec parts id)
    record_law id =
        pick b (is_posting rec parts id) (posting_operation rec parts id) (λ p. if btree_acts rec parts id then changed_by (done_by rec) rec parts id p else Done p) (posting_law b rec parts id)
        (pick b (btree_acts rec parts id) (changed_by (done_by rec) rec parts id) (λ p. Done p) (change_law (done_by rec) id) (left_alone b))
