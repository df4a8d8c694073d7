-- What replay of blocks works on: PostgreSQL 16, src/backend/access/transam/xlogutils.c, log_invalid_page and
-- forget_invalid_pages. Own: "Blocks in replay".
use Rattle.std.specs.Prelude.{List, not, filter, Option}
use Rattle.std.specs.BTreeSet.{insert_key}
use Rattle.std.specs.List.{slice_get}
use Rattle.block_refs.specs.Order.{compared}
use Rattle.block_refs.specs.Parts.{PartsView}
use Rattle.block_refs.specs.declared.names.BlockName.{BlockName}
use Rattle.block_effects.specs.Gone.{is_gone}
use Rattle.cluster_tree.specs.Contents.{Contents}
use Rattle.wal_records.specs.Reading.{LogRecord}

-- the files, and the names of the blocks whose change was skipped, since they had no page: each once, rising
pub record BlockWorld : Type 0 where
  pub files : Contents
  pub skipped : List BlockName

-- a name more
abbrev pub with_name : BlockName → List BlockName → List BlockName
with_name name skipped = insert_key compared skipped name

-- but for the blocks that a record takes away
abbrev pub without_gone : LogRecord → PartsView → List BlockName → List BlockName
without_gone rec parts skipped = filter (λ name. not (is_gone rec parts name)) skipped

abbrev pub least_name : List BlockName → Option BlockName
least_name skipped = slice_get skipped 0
