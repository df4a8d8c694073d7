-- What the records of a pair's logs do, wherever they stand.
use Rattle.std.proofs.Common.{◌≡◌, ℕ, ◌^◌, ◌<◌, Bool, true, false, cond, not, nat_eq, List, [], ◌∷◌, Option, None, Some, is_some, Ok, refl, ap, ◌∙◌, arith}
use Rattle.std.specs.Prelude.{slice_get}
use Rattle.std.specs.List.{AllByRecursion}
use Rattle.std.proofs.lemmas.Bool.Decides.{nat_tests}
use Rattle.block_effects.specs.Effects.{by_reference}
use Rattle.block_refs.specs.Parts.{PartsView, parts_of}
use Rattle.block_refs.specs.Written.{written_parts}
use Rattle.block_refs.specs.declared.names.BlockName.{BlockName}
use Rattle.block_refs.specs.declared.names.Fork.TheVariants.{Main}
use Rattle.block_refs.specs.declared.placed.Placed.{Placed}
use Rattle.control_file.specs.Rows.{checkpoint_rows}
use Rattle.control_file.specs.Writing.{checkpoint_bytes}
use Rattle.control_file.specs.declared.checkpoint.Checkpoint.{Checkpoint}
use Rattle.heap_pages.specs.Insert.{insert_page}
use Rattle.heap_replay.specs.Operation.{heap_operation}
use Rattle.heap_tuples.specs.Heap.{on_heap}
use Rattle.layout.specs.Readers.{u16_at, u8_at}
use Rattle.layout.specs.Rows.{RowFits}
use Rattle.layout.specs.Splice.{splice}
use Rattle.layout.specs.Writing.{value_bytes}
use Rattle.page_masks.specs.Law.{stamped}
use Rattle.record_effects.specs.Acts.{sets_map_bits}
use Rattle.record_effects.specs.Managers.{effect_on, rules_of}
use Rattle.record_layouts.specs.Heap.{heap_op_of}
use Rattle.record_layouts.specs.Operation.{operation_of}
use Rattle.record_layouts.specs.Xlog.{xlog_op_of}
use Rattle.replay_law.specs.Effect.{Change, Effect, Nothing}
use Rattle.replay_profile.specs.Names.{is_block}
use Rattle.replay_profile.specs.Profile.{done_by, is_in_profile, is_short}
use Rattle.reset_plan.specs.NewSegment.{checkpoint_record}
use Rattle.wal_records.specs.Reading.{LogRecord}
use Rattle.wal_records.specs.Writer.{NewRecord}
use Rattle.pair_maker.specs.Inserts.{insert_block, insert_body, insert_main, insert_record, pair_relation, transaction, tuple_of}
use Rattle.pair_maker.specs.Logs.{common_checkpoint, last_checkpoint}
use Rattle.pair_maker.specs.declared.side.Side.{Side}
use Rattle.pair_maker.specs.declared.side.Side.TheVariants.{Target, Source}
use Rattle.pair_laws.proofs.BodyLemmas.{checkpoint-parts, checkpoint-said, common-fits, insert-parts, last-fits, no_blocks}
use Rattle.pair_laws.proofs.PageLemmas.{first_place}
use Rattle.pair_laws.proofs.RecordLemmas.{given}

-- a block of the pair's relation
abbrev pub block_at : ℕ → BlockName
block_at block = record { rel = pair_relation; fork = Main; block = block }

-- Wherever such a record stands, it has these parts, replay takes it, its layout is whole, and it sets no bits of the map.
pub record IsWhole (n : NewRecord) : Type 0 where
  pub parts : PartsView
  pub read : parts_of n.body ≡ Ok parts
  pub known : (start end : ℕ) (before : Option ℕ) → is_in_profile None (given start end before n) parts ≡ true
  pub whole : (start end : ℕ) (before : Option ℕ) → is_short (given start end before n) parts ≡ false
  pub no_map : (start end : ℕ) (before : Option ℕ) → sets_map_bits (done_by (given start end before n)) ≡ false

-- .. and does nothing to a block
pub record IsIdle (name : BlockName) (n : NewRecord) : Type 0 where
  pub whole : IsWhole n
  pub nothing : (start end : ℕ) (before : Option ℕ) → effect_on None (given start end before n) whole.parts name ≡ Nothing

-- ---- inserts

abbrev pub insert_parts : (seed block : ℕ) → PartsView
insert_parts seed block = written_parts (insert_block seed block ∷ []) insert_main

abbrev insert_placed : (seed block : ℕ) → Placed
insert_placed seed block = record { block = (insert_block seed block).block; image_at = 0; at = 0; size = 10 }

no-last : (block : ℕ) → block < 4096 → nat_eq block 0xFFFFFFFF ≡ false
no-last block low = grind (arith, nat_tests, low)

pub insert-known : (seed block : ℕ) → block < 4096 → (start end : ℕ) (before : Option ℕ) → is_in_profile None (given start end before (insert_record seed block)) (insert_parts seed block) ≡ true
unfolding operation_of heap_op_of
insert-known seed block low start end before = let e = no-last block low in rw e refl

pub insert-whole_layout : (seed block : ℕ) (start end : ℕ) (before : Option ℕ) → is_short (given start end before (insert_record seed block)) (insert_parts seed block) ≡ false
unfolding operation_of heap_op_of insert_body value_bytes
insert-whole_layout seed block start end before = refl

pub insert-no_map : (seed block : ℕ) (start end : ℕ) (before : Option ℕ) → sets_map_bits (done_by (given start end before (insert_record seed block))) ≡ false
unfolding operation_of heap_op_of
insert-no_map seed block start end before = refl

abbrev pub insert-whole : (seed block : ℕ) → block < 4096 → IsWhole (insert_record seed block)
insert-whole seed block low = record {
  parts = insert_parts seed block;
  read = insert-parts seed block (omega (arith, low));
  known = insert-known seed block low;
  whole = insert-whole_layout seed block;
  no_map = insert-no_map seed block;
}

-- what it does, by whether it names the block
abbrev by_found : (seed block : ℕ) → LogRecord → Bool → Effect
by_found seed block rec found = by_reference (rules_of None rec) rec (insert_parts seed block) (cond found (Some (insert_placed seed block)) None)

insert-effect : (seed block : ℕ) (name : BlockName) (start end : ℕ) (before : Option ℕ) → effect_on None (given start end before (insert_record seed block)) (insert_parts seed block) name
    ≡ by_found seed block (given start end before (insert_record seed block)) (is_block name (block_at block))
unfolding operation_of heap_op_of
insert-effect seed block name start end before = refl

pub insert-idle : (seed block : ℕ) (name : BlockName) → block < 4096 → is_block name (block_at block) ≡ false → IsIdle name (insert_record seed block)
insert-idle seed block name low other = record {
  whole = insert-whole seed block low;
  nothing = λ start end before. insert-effect seed block name start end before ∙ ap (by_found seed block (given start end before (insert_record seed block))) other;
}

by-own : (seed block start end : ℕ) (before : Option ℕ) → by_found seed block (given start end before (insert_record seed block)) true
    ≡ Change (stamped end (heap_operation (given start end before (insert_record seed block)) (insert_parts seed block) 0))
unfolding operation_of heap_op_of
by-own seed block start end before = refl

pub insert-does : (seed block : ℕ) (name : BlockName) (start end : ℕ) (before : Option ℕ) → is_block name (block_at block) ≡ true
    → effect_on None (given start end before (insert_record seed block)) (insert_parts seed block) name
    ≡ Change (stamped end (heap_operation (given start end before (insert_record seed block)) (insert_parts seed block) 0))
insert-does seed block name start end before own =
    insert-effect seed block name start end before ∙ ap (by_found seed block (given start end before (insert_record seed block))) own ∙ by-own seed block start end before

-- its operation puts the block's tuple at the page's first place
pub insert-operation : (seed block start end : ℕ) (before : Option ℕ) (p : List ℕ) → heap_operation (given start end before (insert_record seed block)) (insert_parts seed block) 0 p
    ≡ on_heap false (insert_page transaction block first_place (tuple_of seed block)) p
unfolding operation_of heap_op_of insert_body value_bytes u16_at u8_at
insert-operation seed block start end before p = refl

-- ---- checkpoints

-- a checkpoint that can be written, with full-page images on
pub record IsCheckpoint (cp : Checkpoint) : Type 0 where
  pub fits : AllByRecursion RowFits (checkpoint_rows 0 cp)
  pub images : slice_get (checkpoint_bytes cp) 16 ≡ Some 1

pub checkpoint-known : (cp : Checkpoint) → IsCheckpoint cp → (start end : ℕ) (before : Option ℕ) → is_in_profile None (given start end before (checkpoint_record cp)) no_blocks ≡ true
unfolding checkpoint_record operation_of xlog_op_of
checkpoint-known cp is start end before = let e = is.images in rw e refl

pub checkpoint-whole_layout : (cp : Checkpoint) → IsCheckpoint cp → (start end : ℕ) (before : Option ℕ) → is_short (given start end before (checkpoint_record cp)) no_blocks ≡ false
unfolding checkpoint_record operation_of xlog_op_of
checkpoint-whole_layout cp is start end before = ap (λ o. not (is_some o)) (checkpoint-said cp is.fits)

pub checkpoint-no_map : (cp : Checkpoint) (start end : ℕ) (before : Option ℕ) → sets_map_bits (done_by (given start end before (checkpoint_record cp))) ≡ false
unfolding checkpoint_record operation_of xlog_op_of
checkpoint-no_map cp start end before = refl

pub checkpoint-read : (cp : Checkpoint) → IsCheckpoint cp → parts_of (checkpoint_record cp).body ≡ Ok no_blocks
unfolding checkpoint_record
checkpoint-read cp is = checkpoint-parts cp is.fits

abbrev pub checkpoint-whole : (cp : Checkpoint) → IsCheckpoint cp → IsWhole (checkpoint_record cp)
checkpoint-whole cp is = record {
  parts = no_blocks;
  read = checkpoint-read cp is;
  known = checkpoint-known cp is;
  whole = checkpoint-whole_layout cp is;
  no_map = checkpoint-no_map cp;
}

checkpoint-nothing : (cp : Checkpoint) (name : BlockName) (start end : ℕ) (before : Option ℕ) → effect_on None (given start end before (checkpoint_record cp)) no_blocks name ≡ Nothing
unfolding checkpoint_record operation_of xlog_op_of
checkpoint-nothing cp name start end before = refl

pub checkpoint-idle : (cp : Checkpoint) (name : BlockName) → IsCheckpoint cp → IsIdle name (checkpoint_record cp)
checkpoint-idle cp name is = record { whole = checkpoint-whole cp is; nothing = checkpoint-nothing cp name }

common-images : slice_get (checkpoint_bytes common_checkpoint) 16 ≡ Some 1
unfolding checkpoint_bytes checkpoint_rows value_bytes splice
common-images = refl

pub common-is : IsCheckpoint common_checkpoint
common-is = record { fits = common-fits 0; images = common-images }

last-images : (side : Side) (place : ℕ) → slice_get (checkpoint_bytes (last_checkpoint side place)) 16 ≡ Some 1
unfolding checkpoint_bytes checkpoint_rows value_bytes splice
last-images Target place = refl
last-images Source place = refl

pub last-is : (side : Side) (place : ℕ) → place < 2 ^ 64 → IsCheckpoint (last_checkpoint side place)
last-is side place low = record { fits = last-fits side place 0 low; images = last-images side place }
