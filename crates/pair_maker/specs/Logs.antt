-- The logs of a pair: PostgreSQL 16, src/include/catalog/pg_control.h, XLOG_CHECKPOINT_SHUTDOWN. Own: "A pair from a number".
use Rattle.std.specs.Prelude.{ℕ, pos, ◌+◌, List, [], ◌∷◌, ◌++◌, map, ◌≡◌, ◌==◌, ◌&&◌, true, Option, None, Some, if◌then◌else◌}
use Rattle.std.proofs.Common.{lit<, refl, ap, ◌∙◌}
use Rattle.std.proofs.lemmas.Nat.{ones_cat}
use Rattle.std.specs.Int.Count.{ones, ones_in}
use Rattle.control_file.specs.declared.checkpoint.Checkpoint.{Checkpoint}
use Rattle.reset_plan.specs.NewSegment.{checkpoint_record}
use Rattle.wal_base.specs.SegSize.{is_seg_size}
use Rattle.wal_base.specs.SizeOfBytes.{is_size}
use Rattle.wal_base.specs.declared.seg_size.SegSize.{SegSize}
use Rattle.wal_records.specs.Place.{place_at}
use Rattle.wal_records.specs.Writer.{NewRecord, Written, written}
use Rattle.wal_records.specs.declared.log_origin.LogOrigin.{LogOrigin}
use Rattle.pair_maker.specs.Blocks.{log_start}
use Rattle.pair_maker.specs.Inserts.{insert_blocks, insert_record, inserts_into}
use Rattle.pair_maker.specs.declared.side.Side.{Side}
use Rattle.pair_maker.specs.declared.side.Side.TheVariants.{Target, Source}

-- the number that both clusters have
abbrev pub system : ℕ
system = 7300000000000000001

-- when they were made and are rewound, in seconds since 1970
abbrev pub made_at : ℕ
made_at = 1700000000

-- 2^20 is the size of a segment: one bit of it is set
last_bits : ones 1 + ones 0 ≡ 1
unfolding ones ones_in
last_bits = refl

one_bit : ones 0x10_0000 ≡ 1
one_bit = ones_cat 20 1 0 (lit< tt) ∙ last_bits

pub is_megabyte : is_seg_size 0x10_0000 ≡ true
is_megabyte = ap (λ n. ((n == 1) && true) && true) one_bit

-- segments of 1 MiB
abbrev pub megabyte : SegSize
megabyte = record { bytes = 0x10_0000; is_size = is_size 0x10_0000 is_megabyte }

-- the target stays on timeline 1, and the source leaves it behind their common checkpoint
abbrev pub timeline_of : Side → ℕ
timeline_of Target = 1
timeline_of Source = 2

-- both logs begin at the same position, and the source's pages are of its timeline from there on
abbrev pub origin_of : Side → LogOrigin
origin_of side = record { start = log_start; tli = timeline_of side; system = system; size = megabyte }

-- the common checkpoint, the first record of each log, and where that record ends
abbrev pub common_place : ℕ
common_place = 0x10_0028

abbrev pub common_checkpoint : Checkpoint
common_checkpoint = record {
  redo = common_place;
  tli = 1;
  prevTli = 1;
  fpw = 1;
  nextXid = 700;
  nextOid = 16385;
  nextMulti = 1;
  nextMultiOffset = 0;
  oldestXid = 700;
  oldestXidDb = 1;
  oldestMulti = 1;
  oldestMultiDb = 1;
  time = pos made_at;
  oldestCommitTs = 0;
  newestCommitTs = 0;
  oldestActiveXid = 0;
}

-- the records of a log up to those of its first so many blocks: the common checkpoint, and the inserts
abbrev pub records_upto : Side → (seed blocks : ℕ) → List NewRecord
records_upto side seed blocks = checkpoint_record common_checkpoint ∷ map (insert_record seed) (insert_blocks side seed blocks)

unfoldable pub log_upto : Side → (seed blocks : ℕ) → Written
log_upto side seed blocks = written (origin_of side) (records_upto side seed blocks)

-- where the insert into a block ends, if there is one
unfoldable pub block_end : Side → (seed block : ℕ) → Option ℕ
block_end side seed block = if inserts_into side seed block then Some (log_upto side seed (block + 1)).end else None

-- where the last record stands: the checkpoint at which the cluster was shut down, behind the inserts
unfoldable pub last_place : Side → (seed blocks : ℕ) → ℕ
last_place side seed blocks = place_at 0x10_0000 (log_upto side seed blocks).end

abbrev pub last_checkpoint : Side → (place : ℕ) → Checkpoint
last_checkpoint side place = record common_checkpoint { redo = place; tli = timeline_of side; nextXid = 701 }

-- the records of a whole log
abbrev pub records_of : Side → (seed blocks : ℕ) → List NewRecord
records_of side seed blocks = records_upto side seed blocks ++ checkpoint_record (last_checkpoint side (last_place side seed blocks)) ∷ []
