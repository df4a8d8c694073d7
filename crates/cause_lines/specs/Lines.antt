-- The line of a cause on standard error. Own: "The line of a cause".
use Rattle.std.specs.Prelude.{ℕ, List, [], ◌∷◌, ◌++◌, codes, string_bytes, Option}
use Rattle.std.specs.List.{concat}
use Rattle.run_acts.specs.declared.cause.Cause.{Cause}
use Rattle.run_acts.specs.declared.cause.Cause.TheVariants as cause
use Rattle.run_acts.specs.declared.cause.PathCause.TheVariants as paths
use Rattle.run_acts.specs.declared.cause.ControlCause.TheVariants as control
use Rattle.run_acts.specs.declared.cause.HistoryCause.TheVariants as history
use Rattle.run_acts.specs.declared.cause.RewindCause.TheVariants as rewind
use Rattle.run_acts.specs.declared.cause.LogCause.TheVariants as logs
use Rattle.run_acts.specs.declared.cause.ReplayCause.TheVariants as replay
use Rattle.commands.specs.declared.name.CommandName.{CommandName}
use Rattle.cause_lines.specs.declared.lines.Line.{Line}
use Rattle.cause_lines.specs.declared.lines.Line.TheVariants as line
use Rattle.cause_lines.specs.declared.fixed.Fixed.{Fixed}
use Rattle.cause_lines.specs.declared.fixed.Fixed.TheVariants as fixed
use Rattle.commands.specs.Name.{name_text}
use Rattle.cause_lines.specs.Pieces.{block_pieces, crc_pieces, difference_pieces, end_pieces, ends_pieces, entry_pieces, missing_pieces, number_pieces, path_pieces}
use Rattle.cause_lines.specs.Pieces.{place_pieces, record_pieces, redo_pieces, shape_pieces, special_pieces, systems_pieces}

-- the name of a cause without values
abbrev pub fixed_name : Fixed → List ℕ
fixed_name fixed.Usage = codes "Usage"
fixed_name fixed.DotDot = codes "DotDot"
fixed_name fixed.PathsOverlap = codes "PathsOverlap"
fixed_name fixed.NoCommonAncestor = codes "NoCommonAncestor"
fixed_name fixed.ReadFault = codes "ReadFault"
fixed_name fixed.WriteFault = codes "WriteFault"
fixed_name fixed.SinkFault = codes "SinkFault"
fixed_name fixed.OutOfMemory = codes "OutOfMemory"

-- COMMAND: error: and these pieces, and a newline
abbrev pub line_with : Option CommandName → List (List ℕ) → List ℕ
line_with name pieces = concat (name_text name ∷ codes ": error: " ∷ (pieces ++ (codes "\n" ∷ [])))

-- the line of a cause without values
unfoldable pub fixed_line : Option CommandName → Fixed → List ℕ
fixed_line name f = line_with name (fixed_name f ∷ [])

-- the line of a cause; there is none of Done
abbrev pub line_of : Option CommandName → Cause → List ℕ
line_of name cause.Done = []
line_of name cause.Usage = fixed_line name fixed.Usage
line_of name cause.ReadFault = fixed_line name fixed.ReadFault
line_of name cause.WriteFault = fixed_line name fixed.WriteFault
line_of name cause.SinkFault = fixed_line name fixed.SinkFault
line_of name cause.OutOfMemory = fixed_line name fixed.OutOfMemory
line_of name (cause.Changed path) = line_with name (path_pieces (codes "Changed") path)
line_of name (cause.Unfinished path) = line_with name (path_pieces (codes "Unfinished") path)
line_of name (cause.Paths paths.DotDot) = fixed_line name fixed.DotDot
line_of name (cause.Paths (paths.TooDeep path)) = line_with name (path_pieces (codes "TooDeep") path)
line_of name (cause.Paths paths.PathsOverlap) = fixed_line name fixed.PathsOverlap
line_of name (cause.Paths (paths.NotFolder path)) = line_with name (path_pieces (codes "NotFolder") path)
line_of name (cause.Paths (paths.Link path)) = line_with name (path_pieces (codes "Link") path)
line_of name (cause.Paths (paths.NameNotText path)) = line_with name (path_pieces (codes "NameNotText") path)
line_of name (cause.Paths (paths.Occupied path)) = line_with name (path_pieces (codes "Occupied") path)
line_of name (cause.Control (control.ControlMissing root)) = line_with name (path_pieces (codes "ControlMissing") root)
line_of name (cause.Control (control.Size root n)) = line_with name (number_pieces (codes "Size") root n)
line_of name (cause.Control (control.Crc root stored computed)) = line_with name (crc_pieces root stored computed)
line_of name (cause.Control (control.Version root n)) = line_with name (number_pieces (codes "Version") root n)
line_of name (cause.Control (control.Catalog root n)) = line_with name (number_pieces (codes "Catalog") root n)
line_of name (cause.Control (control.Shape root field n)) = line_with name (shape_pieces root field n)
line_of name (cause.History (history.HistoryMissing root tli)) = line_with name (missing_pieces root tli)
line_of name (cause.History (history.BadLine root tli n)) = line_with name (entry_pieces (codes "BadLine") root tli n)
line_of name (cause.History (history.NotRising root tli n)) = line_with name (entry_pieces (codes "NotRising") root tli n)
line_of name (cause.History history.NoCommonAncestor) = fixed_line name fixed.NoCommonAncestor
line_of name (cause.Rewind (rewind.SystemsDiffer target source)) = line_with name (systems_pieces target source)
line_of name (cause.Rewind (rewind.NoHints root)) = line_with name (path_pieces (codes "NoHints") root)
line_of name (cause.Rewind (rewind.NotClean root n)) = line_with name (number_pieces (codes "NotClean") root n)
line_of name (cause.Rewind (rewind.EndNotRecord end found)) = line_with name (ends_pieces (codes "EndNotRecord") end found)
line_of name (cause.Rewind (rewind.NoCommonCheckpoint at)) = line_with name (place_pieces (codes "NoCommonCheckpoint") at)
line_of name (cause.Rewind (rewind.UnknownSpecial at manager info)) = line_with name (special_pieces (codes "UnknownSpecial") at manager info)
line_of name (cause.Rewind (rewind.KindsDiffer path)) = line_with name (path_pieces (codes "KindsDiffer") path)
line_of name (cause.Rewind (rewind.OddSize path n)) = line_with name (number_pieces (codes "OddSize") path n)
line_of name (cause.Rewind (rewind.BadPlan root n)) = line_with name (number_pieces (codes "BadPlan") root n)
line_of name (cause.Rewind (rewind.SourceDiffers path)) = line_with name (path_pieces (codes "SourceDiffers") path)
line_of name (cause.Rewind (rewind.TargetDiffers path)) = line_with name (path_pieces (codes "TargetDiffers") path)
line_of name (cause.Log (logs.LogEnds at why)) = line_with name (end_pieces at why)
line_of name (cause.Log (logs.BadParts at offset)) = line_with name (record_pieces (codes "BadParts") at offset)
line_of name (cause.Log (logs.Compressed at id)) = line_with name (record_pieces (codes "Compressed") at id)
line_of name (cause.Log (logs.NoRecordAt at)) = line_with name (place_pieces (codes "NoRecordAt") at)
line_of name (cause.Log (logs.NoWal path)) = line_with name (path_pieces (codes "NoWal") path)
line_of name (cause.Log (logs.BadSegment path)) = line_with name (path_pieces (codes "BadSegment") path)
line_of name (cause.Replay (replay.ChecksumsOn root)) = line_with name (path_pieces (codes "ChecksumsOn") root)
line_of name (cause.Replay (replay.NoLabel root)) = line_with name (path_pieces (codes "NoLabel") root)
line_of name (cause.Replay (replay.BadLabel root n)) = line_with name (number_pieces (codes "BadLabel") root n)
line_of name (cause.Replay (replay.NotInProfile at manager info)) = line_with name (special_pieces (codes "NotInProfile") at manager info)
line_of name (cause.Replay (replay.EndsTooSoon end least)) = line_with name (ends_pieces (codes "EndsTooSoon") end least)
line_of name (cause.Replay (replay.RedoFailed at block why)) = line_with name (redo_pieces at block why)
line_of name (cause.Replay (replay.MissingPage block)) = line_with name (block_pieces (codes "MissingPage") block)
line_of name (cause.Replay (replay.ShadowDiffers path)) = line_with name (path_pieces (codes "ShadowDiffers") path)
line_of name (cause.Replay (replay.NotRestartable block)) = line_with name (block_pieces (codes "NotRestartable") block)
line_of name (cause.Differs path block) = line_with name (difference_pieces path block)

-- the text of a line on its way
abbrev pub made_text : Option CommandName → Line → List ℕ
made_text name line.Nothing = []
made_text name (line.Known f) = fixed_line name f
made_text name (line.Made text) = string_bytes text
