-- The lines of a record: PostgreSQL 16, src/bin/pg_waldump/pg_waldump.c, XLogDumpDisplayRecord;
-- src/backend/access/transam/xlogstats.c, XLogRecGetLen.
use Rattle.std.specs.Prelude.{ℕ, ◌-◌, ◌^◌, ◌==◌, Bool, List, ◌++◌, length, replicate, codes, if◌then◌else◌, Option, None, Some}
use Rattle.std.specs.Fmt.{format_spec, styled_decimal}
use Rattle.wal_base.specs.Lsn.{lsn_padded}
use Rattle.wal_records.specs.Reading.{LogRecord}
use Rattle.wal_records.specs.declared.header.RecordHeader.{RecordHeader}
use Rattle.block_refs.specs.Bytes.{image_total, main_bytes}
use Rattle.block_refs.specs.Parts.{PartsView}
use Rattle.rmgr_desc.specs.Describe.{description_of}
use Rattle.rmgr_desc.specs.Managers.{manager_name_of}
use Rattle.rmgr_desc.specs.Operations.{operation_name_of}
use Rattle.rmgr_hooks.specs.Custom.{Extension}
use Rattle.waldump_core.specs.Refs.{refs_text}

-- %-11s
abbrev pub left_in : ℕ → List ℕ → List ℕ
left_in width text = text ++ replicate (width - length text) 32

-- %6u and %10u
abbrev pub right_in : ℕ → ℕ → List ℕ
right_in width n = styled_decimal (format_spec 32 0 0 width (2 ^ 64 - 1)) n

-- how many bytes a record has, without its images and in all, and its transaction
unfoldable pub sizes_text : RecordHeader → ℕ → List ℕ
sizes_text header len =
    codes " len (rec/tot): " ++ (right_in 6 len ++ (codes "/" ++ (right_in 6 header.total ++ (codes ", tx: " ++ right_in 10 header.xid))))

-- where it starts, and where the record before it does
unfoldable pub places_text : ℕ → ℕ → List ℕ
places_text start prev = codes ", lsn: " ++ (lsn_padded start ++ (codes ", prev " ++ (lsn_padded prev ++ codes ", desc: ")))

-- what stands before the name of the operation
unfoldable pub head_text : LogRecord → ℕ → List ℕ
head_text r images =
    codes "rmgr: " ++ (left_in 11 (manager_name_of r.header.manager)
    ++ (sizes_text r.header (r.header.total - images) ++ places_text r.start r.header.prev.0))

-- what stands behind the name of the operation: what a manager of an extension tells of its own records, where one is handed in
unfoldable pub described : Option Extension → LogRecord → PartsView → List ℕ
described None r parts = description_of r parts
described (Some custom) r parts =
    if r.header.manager == custom.id then custom.text r.header.info (main_bytes r.body parts) else description_of r parts

-- a record with these parts: its line, and with the details a line for each block reference
unfoldable pub line_text : Option Extension → Bool → LogRecord → PartsView → List ℕ
line_text custom details r parts =
    head_text r (image_total parts.blocks) ++ (operation_name_of r.header.manager r.header.info ++ (codes " "
    ++ (described custom r parts ++ refs_text details parts.blocks)))
