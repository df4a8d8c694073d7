-- What the records of a pair's logs say of the control file, wherever they stand.
use Rattle.std.proofs.Common.{◌≡◌, ℕ, ◌^◌, ◌<◌, ◌≤◌, List, [], ◌∷◌, ◌++◌, map, Option, None, Some, lit<, refl}
use Rattle.std.specs.Prelude.{IfSome}
use Rattle.std.specs.List.{AllByRecursion}
use Rattle.control_file.specs.Rows.{checkpoint_rows}
use Rattle.control_file.specs.declared.checkpoint.Checkpoint.{Checkpoint}
use Rattle.layout.specs.Rows.{RowFits}
use Rattle.record_layouts.specs.Heap.{heap_op_of}
use Rattle.record_layouts.specs.Operation.{operation_of}
use Rattle.record_layouts.specs.Xlog.{xlog_op_of}
use Rattle.replay_control.specs.Said.{change_said, checkpoint_said}
use Rattle.reset_plan.specs.NewSegment.{checkpoint_record}
use Rattle.wal_records.specs.Writer.{NewRecord}
use Rattle.pair_maker.specs.Inserts.{insert_blocks, insert_record}
use Rattle.pair_maker.specs.Logs.{common_checkpoint, common_place, last_checkpoint, last_place, records_of, records_upto, timeline_of}
use Rattle.pair_maker.specs.declared.side.Side.{Side}
use Rattle.pair_laws.proofs.BodyLemmas.{checkpoint-said, no_blocks}
use Rattle.pair_laws.proofs.EffectLemmas.{IsCheckpoint, IsWhole, checkpoint-whole, common-is, insert-whole, insert_parts, last-is}
use Rattle.pair_laws.proofs.NamesLemmas.{blocks-low}
use Rattle.pair_laws.proofs.RecordLemmas.{given}
use Rattle.pair_laws.proofs.SmallLemmas.{checkpoint_with, last_low, low_timeline}

-- a checkpoint of a pair, whose numbers fit a control file
pub record IsLow (cp : Checkpoint) : Type 0 where
  pub place : ℕ
  pub tli : ℕ
  pub xid : ℕ
  pub is : cp ≡ checkpoint_with place tli xid
  pub place_low : place < 2 ^ 64
  pub tli_low : tli < 2 ^ 32
  pub xid_low : xid < 2 ^ 64

-- wherever such a record stands, it says such a checkpoint, or none, and nothing of settings
pub record IsSaid (n : NewRecord) : Type 0 where
  pub whole : IsWhole n
  pub said : Option Checkpoint
  pub low : IfSome said IsLow
  pub checkpoint : (start end : ℕ) (before : Option ℕ) → checkpoint_said (given start end before n) whole.parts ≡ said
  pub settings : (start end : ℕ) (before : Option ℕ) → change_said (given start end before n) whole.parts ≡ None

-- ---- inserts

insert-checkpoint : (seed block start end : ℕ) (before : Option ℕ) → checkpoint_said (given start end before (insert_record seed block)) (insert_parts seed block) ≡ None
unfolding operation_of heap_op_of
insert-checkpoint seed block start end before = refl

insert-settings : (seed block start end : ℕ) (before : Option ℕ) → change_said (given start end before (insert_record seed block)) (insert_parts seed block) ≡ None
unfolding operation_of heap_op_of
insert-settings seed block start end before = refl

insert-said : (seed block : ℕ) → block < 4096 → IsSaid (insert_record seed block)
insert-said seed block low = record {
  whole = insert-whole seed block low;
  said = None;
  low = tt;
  checkpoint = insert-checkpoint seed block;
  settings = insert-settings seed block;
}

-- ---- checkpoints

checkpoint-checkpoint : (cp : Checkpoint) → AllByRecursion RowFits (checkpoint_rows 0 cp) → (start end : ℕ) (before : Option ℕ)
    → checkpoint_said (given start end before (checkpoint_record cp)) no_blocks ≡ Some cp
unfolding checkpoint_record operation_of xlog_op_of
checkpoint-checkpoint cp fits start end before = checkpoint-said cp fits

checkpoint-settings : (cp : Checkpoint) (start end : ℕ) (before : Option ℕ) → change_said (given start end before (checkpoint_record cp)) no_blocks ≡ None
unfolding checkpoint_record operation_of xlog_op_of
checkpoint-settings cp start end before = refl

said-checkpoint : (cp : Checkpoint) → IsCheckpoint cp → IsLow cp → IsSaid (checkpoint_record cp)
said-checkpoint cp is low = record {
  whole = checkpoint-whole cp is;
  said = Some cp;
  low = low;
  checkpoint = checkpoint-checkpoint cp is.fits;
  settings = checkpoint-settings cp;
}

common-low : IsLow common_checkpoint
common-low = record { place = common_place; tli = 1; xid = 700; is = refl; place_low = lit< tt; tli_low = lit< tt; xid_low = lit< tt }

pub last-low : (side : Side) (place : ℕ) → place < 2 ^ 64 → IsLow (last_checkpoint side place)
last-low side place low = record { place = place; tli = timeline_of side; xid = 701; is = refl; place_low = low; tli_low = low_timeline side; xid_low = lit< tt }

-- ---- the records of a log

all-inserts : (seed : ℕ) (blocks : List ℕ) → AllByRecursion (λ b. b < 4096) blocks → AllByRecursion IsSaid (map (insert_record seed) blocks)
all-inserts seed [] low = tt
all-inserts seed (block ∷ blocks) low = (insert-said seed block low.0, all-inserts seed blocks low.1)

all-both : (xs ys : List NewRecord) → AllByRecursion IsSaid xs → AllByRecursion IsSaid ys → AllByRecursion IsSaid (xs ++ ys)
all-both [] ys a b = b
all-both (x ∷ xs) ys a b = (a.0, all-both xs ys a.1 b)

pub all-said : (side : Side) (seed blocks : ℕ) → blocks ≤ 4096 → AllByRecursion IsSaid (records_of side seed blocks)
all-said side seed blocks few =
    let place = last_place side seed blocks in
    let low = last_low side seed blocks few in
    all-both (records_upto side seed blocks) (checkpoint_record (last_checkpoint side place) ∷ [])
    (said-checkpoint common_checkpoint common-is common-low, all-inserts seed (insert_blocks side seed blocks) (blocks-low side seed blocks 4096 few))
    (said-checkpoint (last_checkpoint side place) (last-is side place low) (last-low side place low), tt)
