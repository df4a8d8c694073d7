-- How records touch blocks, field by field and in no order: PostgreSQL 16, src/include/access/rmgrlist.h and xlogrecord.h;
-- src/include/catalog/storage_xlog.h; src/include/access/xact.h; src/include/commands/dbcommands_xlog.h.
use Rattle.std.specs.Prelude.{◌≡◌, ◌⊎◌, ℕ, ◌+◌, ◌*◌, ◌<◌, ◌≤◌, ◌^◌, List, length, true, false, bit_and, Some}
use Rattle.std.specs.List.{Any, Contains}
use Rattle.layout.specs.Readers.{u32_at}
use Rattle.block_refs.specs.Bits.{has_bits}
use Rattle.block_refs.specs.Bytes.{main_bytes}
use Rattle.block_refs.specs.Header.{relation_at}
use Rattle.block_refs.specs.Parts.{PartsView}
use Rattle.block_refs.specs.Spelling.{HasParts}
use Rattle.block_refs.specs.declared.names.BlockName.{BlockName}
use Rattle.block_refs.specs.declared.names.Fork.TheVariants.{Main}
use Rattle.block_refs.specs.declared.names.RelName.{RelName}
use Rattle.record_layouts.specs.End.{end_of}
use Rattle.record_layouts.specs.declared.end.TransactionEnd.{TransactionEnd}
use Rattle.record_layouts.specs.declared.end_parts.Outcome.{Outcome}
use Rattle.record_layouts.specs.declared.end_parts.Outcome.TheVariants.{Commit, Abort}
use Rattle.wal_records.specs.Reading.{LogRecord}

-- A record of RM_SMGR_ID: XLOG_SMGR_CREATE is 10, XLOG_SMGR_TRUNCATE 20.
pub record IsStorage (rec : LogRecord) (n : ℕ) : Type 0 where
  pub manager : rec.header.manager ≡ 2
  pub number : bit_and rec.header.info 0xF0 ≡ n

-- of RM_DBASE_ID: XLOG_DBASE_CREATE_FILE_COPY is 0, XLOG_DBASE_CREATE_WAL_LOG 10, XLOG_DBASE_DROP 20
pub record IsDatabase (rec : LogRecord) (n : ℕ) : Type 0 where
  pub manager : rec.header.manager ≡ 4
  pub number : bit_and rec.header.info 0xF0 ≡ n

-- of RM_XACT_ID, where the number has three bits: XLOG_XACT_COMMIT is 0, XLOG_XACT_ABORT 20, and those of prepared
-- transactions are 30 and 40
pub record IsTransaction (rec : LogRecord) (n : ℕ) : Type 0 where
  pub manager : rec.header.manager ≡ 1
  pub number : bit_and rec.header.info 0x70 ≡ n

abbrev pub IsEnd : LogRecord → Outcome → Type 0
IsEnd rec Commit = IsTransaction rec 0x00 ⊎ IsTransaction rec 0x30
IsEnd rec Abort = IsTransaction rec 0x20 ⊎ IsTransaction rec 0x40

-- these kinds change relations without naming their blocks
abbrev pub IsKind : LogRecord → Type 0
IsKind rec =
    (IsStorage rec 0x10 ⊎ IsStorage rec 0x20)
    ⊎ ((IsDatabase rec 0x00 ⊎ (IsDatabase rec 0x10 ⊎ IsDatabase rec 0x20))
    ⊎ (IsEnd rec Commit ⊎ IsEnd rec Abort))

-- xl_smgr_create: rlocator in twelve bytes, forkNum in four
pub record Creates (rec : LogRecord) (main : List ℕ) (rel : RelName) : Type 0 where
  pub kind : IsStorage rec 0x10
  pub whole : 16 ≤ length main
  pub named : relation_at main 0 ≡ rel
  pub fork : u32_at 12 main ≤ 3

-- xl_smgr_truncate: blkno in four bytes, rlocator in twelve, flags in four
pub record Truncates (rec : LogRecord) (main : List ℕ) (rel : RelName) (cut bits : ℕ) : Type 0 where
  pub kind : IsStorage rec 0x20
  pub whole : 20 ≤ length main
  pub from : u32_at 0 main ≡ cut
  pub named : relation_at main 4 ≡ rel
  pub flags : u32_at 16 main ≡ bits

-- a commit or an abort, whose fields are these
pub record Ends (rec : LogRecord) (main : List ℕ) (outcome : Outcome) (end : TransactionEnd) : Type 0 where
  pub kind : IsEnd rec outcome
  pub fields : end_of outcome (has_bits rec.header.info 0x80) main ≡ Some end

-- xl_dbase_create_file_copy_rec has db_id, tablespace_id, src_db_id and src_tablespace_id, and
-- xl_dbase_create_wal_log_rec the first two, in four bytes each; xl_dbase_drop_rec has db_id, ntablespaces, which is
-- signed, and as many tablespace_ids
pub record DropSize (main : List ℕ) : Type 0 where
  pub front : 8 ≤ length main
  pub count : u32_at 4 main < 2 ^ 31
  pub spaces : 8 + 4 * u32_at 4 main ≤ length main

abbrev pub IsMadeOrDropped : LogRecord → List ℕ → Type 0
IsMadeOrDropped rec main =
    (IsDatabase rec 0x00 × (16 ≤ length main))
    ⊎ ((IsDatabase rec 0x10 × (8 ≤ length main)) ⊎ (IsDatabase rec 0x20 × DropSize main))

pub record MakesOrDrops (rec : LogRecord) (main : List ℕ) (database : ℕ) : Type 0 where
  pub fields : IsMadeOrDropped rec main
  pub named : u32_at 0 main ≡ database

-- A record counts where it is of such a kind and its fields are whole, or of another kind without the bit
-- XLR_SPECIAL_REL_UPDATE.
abbrev pub IsWhole : LogRecord → List ℕ → Type 0
IsWhole rec main =
    ((rel : RelName) × Creates rec main rel)
    ⊎ (((rel : RelName) × (from : ℕ) × (flags : ℕ) × Truncates rec main rel from flags)
    ⊎ (((outcome : Outcome) × (end : TransactionEnd) × Ends rec main outcome end)
    ⊎ ((database : ℕ) × MakesOrDrops rec main database)))

abbrev pub Counts : LogRecord → List ℕ → Type 0
Counts rec main = IsWhole rec main ⊎ ((IsKind rec → ⊥) × (has_bits rec.header.info 1 ≡ false))

-- the name of a block of a main fork
abbrev pub main_block : RelName → ℕ → BlockName
main_block rel block = record { rel = rel; fork = Main; block = block }

-- of the parts some block reference names it
abbrev pub References : PartsView → RelName → ℕ → Type 0
References parts rel block = Any (λ placed. placed.block.name ≡ main_block rel block) parts.blocks

-- a truncation whose flags say that the main fork is cut, SMGR_TRUNCATE_HEAP, at the block or before it
pub record Cuts (rec : LogRecord) (main : List ℕ) (rel : RelName) (block : ℕ) : Type 0 where
  pub from : ℕ
  pub flags : ℕ
  pub cut : Truncates rec main rel from flags
  pub heap : has_bits flags 1 ≡ true
  pub behind : from ≤ block

-- the end of a transaction that drops the relation
pub record Drops (rec : LogRecord) (main : List ℕ) (rel : RelName) : Type 0 where
  pub outcome : Outcome
  pub end : TransactionEnd
  pub ends : Ends rec main outcome end
  pub dropped : Contains end.dropped rel

-- A record with these parts touches a block of a relation's main fork.
abbrev pub TouchesBy : LogRecord → PartsView → RelName → ℕ → Type 0
TouchesBy rec parts rel block =
    (Counts rec (main_bytes rec.body parts) × References parts rel block)
    ⊎ (Cuts rec (main_bytes rec.body parts) rel block
    ⊎ (Creates rec (main_bytes rec.body parts) rel
    ⊎ (Drops rec (main_bytes rec.body parts) rel
    ⊎ MakesOrDrops rec (main_bytes rec.body parts) rel.database)))

pub record TouchesBlock (rec : LogRecord) (rel : RelName) (block : ℕ) : Type 0 where
  pub parts : PartsView
  pub spelled : HasParts rec.body parts
  pub touches : TouchesBy rec parts rel block

-- Some of these records does.
abbrev pub Touches : List LogRecord → RelName → ℕ → Type 0
Touches records rel block = Any (λ rec. TouchesBlock rec rel block) records
