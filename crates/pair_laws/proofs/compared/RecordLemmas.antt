-- What a record of a pair's log leaves of the files, wherever it stands.
use Rattle.std.proofs.Common.{None, ◌≡◌, ℕ, ◌<◌, ◌≤◌, [], Option, Ok, refl, ap, subst, arith}
use Rattle.block_refs.specs.Parts.{PartsView}
use Rattle.block_refs.specs.declared.placed.Placed.{Placed}
use Rattle.block_replay.specs.Blocks.{blocks_after, each_after}
use Rattle.block_replay.specs.World.{BlockWorld}
use Rattle.cluster_tree.specs.Contents.{Contents}
use Rattle.cluster_tree.specs.PathValue.{PathValue}
use Rattle.control_file.specs.declared.checkpoint.Checkpoint.{Checkpoint}
use Rattle.file_effects.specs.Done.{files_after, for_each}
use Rattle.file_effects.specs.Effect.{effect_of}
use Rattle.layout.specs.Readers.{u16_at, u8_at}
use Rattle.layout.specs.Writing.{value_bytes}
use Rattle.pair_laws.proofs.BodyLemmas.{insert-parts, no_blocks}
use Rattle.pair_laws.proofs.EffectLemmas.{IsCheckpoint, IsWhole, checkpoint-whole, insert-whole, insert_parts}
use Rattle.pair_laws.proofs.RecordLemmas.{given}
use Rattle.pair_maker.specs.Inserts.{insert_body, insert_record}
use Rattle.record_effects.specs.Acts.{act_on}
use Rattle.record_effects.specs.declared.acts.Act.TheVariants.{Change}
use Rattle.replay_laws.proofs.RuleLemmas.{managers_are}
use Rattle.record_layouts.specs.Heap.{heap_op_of}
use Rattle.record_layouts.specs.Operation.{operation_of}
use Rattle.record_layouts.specs.Xlog.{xlog_op_of}
use Rattle.replay_laws.proofs.RecordLemmas.{done}
use Rattle.replay_laws.proofs.WorldLemmas.{one_world}
use Rattle.replay_world.specs.Records.{record_after}
use Rattle.replay_world.specs.World.{World, blocks_of}
use Rattle.reset_plan.specs.NewSegment.{checkpoint_record}
use Rattle.wal_records.specs.Reading.{LogRecord}
use Rattle.wal_records.specs.Writer.{NewRecord}
use Rattle.pair_laws.proofs.compared.KeepLemmas.{HasRelation, KeepsFiles}
use Rattle.pair_laws.proofs.compared.FileLemmas.{keeps-same, same-ok}
use Rattle.pair_laws.proofs.compared.PutLemmas.{MakesPages, change-keeps, ref_to}

-- what a record of these parts leaves of the files
abbrev pub RecordKeeps : PathValue → (blocks : ℕ) → LogRecord → PartsView → Type 0
RecordKeeps root blocks rec parts = (w v : World) → HasRelation root blocks w.files → record_after None root 131072 rec parts w ≡ Ok v → KeepsFiles root blocks w.files v.files

-- and wherever a record stands
pub record IsKeeper (root : PathValue) (blocks : ℕ) (n : NewRecord) : Type 0 where
  pub whole : IsWhole n
  pub keeps : (start end : ℕ) (before : Option ℕ) → RecordKeeps root blocks (given start end before n) whole.parts

-- ---- a record that does nothing to files but through its blocks

by-blocks : (root : PathValue) (blocks : ℕ) (rec : LogRecord) (parts : PartsView) → ((c : Contents) → files_after root 131072 rec parts c ≡ Ok c)
    → ((u m : BlockWorld) → HasRelation root blocks u.files → blocks_after None root 131072 rec parts u ≡ Ok m → KeepsFiles root blocks u.files m.files) → RecordKeeps root blocks rec parts
by-blocks root blocks rec parts still keeps w v has made =
    let after = done None root 131072 rec parts w v made in
    let same = same-ok (files_after root 131072 rec parts after.mid.files) after.mid.files v.files (still after.mid.files) after.files in
    subst (KeepsFiles root blocks w.files) same (keeps (blocks_of w) after.mid has after.blocks)

-- ---- inserts

insert-act : (seed block start end : ℕ) (before : Option ℕ) → act_on None (given start end before (insert_record seed block)) (insert_parts seed block) (ref_to block) ≡ Change
unfolding operation_of heap_op_of
insert-act seed block start end before = refl

insert-files : (root : PathValue) (seed block start end : ℕ) (before : Option ℕ) (c : Contents) → files_after root 131072 (given start end before (insert_record seed block)) (insert_parts seed block) c ≡ Ok c
unfolding files_after for_each effect_of operation_of heap_op_of insert_body value_bytes u16_at u8_at
insert-files root seed block start end before c = refl

abbrev placed : (seed block : ℕ) → Placed
placed seed block = record { block = ref_to block; image_at = 0; at = 0; size = 10 }

insert-makes : (seed block : ℕ) → block < 4096 → (start end : ℕ) (before : Option ℕ) → MakesPages (given start end before (insert_record seed block)) (insert_parts seed block)
insert-makes seed block low start end before =
    ((managers_are None tt (given start end before (insert_record seed block))).mask (given start end before (insert_record seed block)) (insert_parts seed block) (placed seed block)
    (insert-parts seed block (omega (arith, low))) refl).page

pub insert-keeper : (root : PathValue) (seed blocks block : ℕ) → blocks ≤ 4096 → block < blocks → IsKeeper root blocks (insert_record seed block)
insert-keeper root seed blocks block few below =
    let low : block < 4096 = omega (arith, few, below) in
    record {
      whole = insert-whole seed block low;
      keeps = λ start end before.
          let rec = given start end before (insert_record seed block) in
          by-blocks root blocks rec (insert_parts seed block) (insert-files root seed block start end before)
          (λ u m has made. change-keeps root blocks block few below rec (insert_parts seed block) (insert-makes seed block low start end before) (placed seed block) u m refl (insert-act seed block start end before) has made);
    }

-- ---- checkpoints

checkpoint-files : (root : PathValue) (cp : Checkpoint) (start end : ℕ) (before : Option ℕ) (c : Contents) → files_after root 131072 (given start end before (checkpoint_record cp)) no_blocks c ≡ Ok c
unfolding files_after for_each effect_of checkpoint_record operation_of xlog_op_of
checkpoint-files root cp start end before c = refl

none-keep : (root : PathValue) (blocks : ℕ) (rec : LogRecord) (parts : PartsView) (u m : BlockWorld) → HasRelation root blocks u.files → each_after None root 131072 rec parts [] u ≡ Ok m → KeepsFiles root blocks u.files m.files
unfolding each_after
none-keep root blocks rec parts u m has made = keeps-same root blocks u.files m.files has (ap (λ (x : BlockWorld). x.files) (one_world u m made))

pub checkpoint-keeper : (root : PathValue) (blocks : ℕ) (cp : Checkpoint) → IsCheckpoint cp → IsKeeper root blocks (checkpoint_record cp)
checkpoint-keeper root blocks cp is = record {
  whole = checkpoint-whole cp is;
  keeps = λ start end before.
      let rec = given start end before (checkpoint_record cp) in
      by-blocks root blocks rec no_blocks (checkpoint-files root cp start end before) (none-keep root blocks rec no_blocks);
}
