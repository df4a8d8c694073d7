-- The pieces of the line of a cause: its name and its values, as docs/COMMANDS.md has them. Own: "The line of a cause".
use Rattle.std.specs.Prelude.{ℕ, List, [], ◌∷◌, codes, Option, None, Some}
use Rattle.std.specs.Fmt.{decimal}
use Rattle.cluster_tree.specs.PathValue.{PathValue, path_text}
use Rattle.wal_base.specs.Hex.{upper_hex}
use Rattle.wal_base.specs.Lsn.{lsn_text}
use Rattle.wal_base.specs.declared.lsn.Lsn.{Lsn}
use Rattle.wal_records.specs.declared.why.Why.{Why}
use Rattle.wal_records.specs.declared.why.Why.TheVariants as why
use Rattle.block_refs.specs.Names.{block_text}
use Rattle.block_refs.specs.declared.names.BlockName.{BlockName}
use Rattle.page_layout.specs.declared.refusal.RedoWhy.{RedoWhy}
use Rattle.page_layout.specs.declared.refusal.RedoWhy.TheVariants as redo
use Rattle.control_file.specs.FieldNames.{field_name}
use Rattle.control_file.specs.declared.field.Field.{Field}

-- a cause with a path
abbrev pub path_pieces : List ℕ → PathValue → List (List ℕ)
path_pieces what path = what ∷ codes " " ∷ path_text path ∷ []

-- a cause with a path and a number
abbrev pub number_pieces : List ℕ → PathValue → ℕ → List (List ℕ)
number_pieces what path n = what ∷ codes " " ∷ path_text path ∷ codes " " ∷ decimal n ∷ []

-- a path at which two clusters differ, and the number of the block if one is known
abbrev pub difference_pieces : PathValue → Option ℕ → List (List ℕ)
difference_pieces path None = path_pieces (codes "Differs") path
difference_pieces path (Some block) = number_pieces (codes "Differs") path block

-- a root and two checksums, as %08X
abbrev pub crc_pieces : PathValue → ℕ → ℕ → List (List ℕ)
crc_pieces root stored computed = codes "Crc " ∷ path_text root ∷ codes " " ∷ upper_hex 8 stored ∷ codes " " ∷ upper_hex 8 computed ∷ []

abbrev pub shape_pieces : PathValue → Field → ℕ → List (List ℕ)
shape_pieces root field n = codes "Shape " ∷ path_text root ∷ codes " " ∷ field_name field ∷ codes " " ∷ decimal n ∷ []

abbrev pub systems_pieces : ℕ → ℕ → List (List ℕ)
systems_pieces target source = codes "SystemsDiffer " ∷ decimal target ∷ codes " " ∷ decimal source ∷ []

-- the name of a reason
abbrev pub why_name : Why → List ℕ
why_name why.Place = codes "Place"
why_name why.NoSegment = codes "NoSegment"
why_name why.ShortSegment = codes "ShortSegment"
why_name why.Page = codes "Page"
why_name why.Continuation = codes "Continuation"
why_name why.ZeroLength = codes "ZeroLength"
why_name why.ShortLength = codes "ShortLength"
why_name why.TooLong = codes "TooLong"
why_name why.Manager = codes "Manager"
why_name why.Prev = codes "Prev"
why_name why.Crc = codes "Crc"

abbrev pub end_pieces : Lsn → Why → List (List ℕ)
end_pieces at why = codes "LogEnds " ∷ lsn_text at.0 ∷ codes " " ∷ why_name why ∷ []

-- a cause with a position and a number
abbrev pub record_pieces : List ℕ → Lsn → ℕ → List (List ℕ)
record_pieces what at n = what ∷ codes " " ∷ lsn_text at.0 ∷ codes " " ∷ decimal n ∷ []

-- a cause with a position
abbrev pub place_pieces : List ℕ → Lsn → List (List ℕ)
place_pieces what at = what ∷ codes " " ∷ lsn_text at.0 ∷ []

-- a cause with two positions
abbrev pub ends_pieces : List ℕ → Lsn → Lsn → List (List ℕ)
ends_pieces what first second = what ∷ codes " " ∷ lsn_text first.0 ∷ codes " " ∷ lsn_text second.0 ∷ []

-- a cause with the start of a record, its manager and its info byte
abbrev pub special_pieces : List ℕ → Lsn → ℕ → ℕ → List (List ℕ)
special_pieces what at manager info = what ∷ codes " " ∷ lsn_text at.0 ∷ codes " " ∷ decimal manager ∷ codes " " ∷ decimal info ∷ []

-- the name of a reason why a record isn't redone
abbrev pub redo_name : RedoWhy → List ℕ
redo_name redo.Layout = codes "Layout"
redo_name redo.Place = codes "Place"
redo_name redo.Room = codes "Room"
redo_name redo.PageShape = codes "PageShape"

-- the start of a record, a block, and why the record isn't redone on it
abbrev pub redo_pieces : Lsn → BlockName → RedoWhy → List (List ℕ)
redo_pieces at name why = codes "RedoFailed " ∷ lsn_text at.0 ∷ codes " " ∷ block_text name ∷ codes " " ∷ redo_name why ∷ []

-- a cause with a block
abbrev pub block_pieces : List ℕ → BlockName → List (List ℕ)
block_pieces what name = what ∷ codes " " ∷ block_text name ∷ []

-- a root, and a timeline whose history isn't there
abbrev pub missing_pieces : PathValue → ℕ → List (List ℕ)
missing_pieces root tli = codes "HistoryMissing " ∷ path_text root ∷ codes " " ∷ decimal tli ∷ []

-- a cause with a root, a timeline and the number of a line of its history
abbrev pub entry_pieces : List ℕ → PathValue → ℕ → ℕ → List (List ℕ)
entry_pieces what root tli n = what ∷ codes " " ∷ path_text root ∷ codes " " ∷ decimal tli ∷ codes " " ∷ decimal n ∷ []
