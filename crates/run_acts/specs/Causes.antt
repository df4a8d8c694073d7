-- The causes: how a run ends that has one, which are free, which come from the words alone, and the status of each. Own: "The line of a cause", "Statuses".
use Rattle.std.specs.Prelude.{ℕ, ◌≡◌, ◌⊎◌, Bool, true, false, not, Result, Ok, Err}
use Rattle.acts.specs.Acts.{Ending, Done, Refused, ReadFailed, WriteFailed, SinkFailed, NoMemory}
use Rattle.run_acts.specs.declared.cause.Cause.{Cause}
use Rattle.run_acts.specs.declared.cause.Cause.TheVariants as cause
use Rattle.run_acts.specs.declared.cause.HistoryCause.TheVariants as history
use Rattle.run_acts.specs.declared.cause.PathCause.{PathCause}
use Rattle.run_acts.specs.declared.cause.PathCause.TheVariants as paths

-- how a run ends that has this cause
abbrev pub ending_of : Cause → Ending
ending_of cause.Done = Done
ending_of cause.Usage = Refused
ending_of cause.ReadFault = ReadFailed
ending_of cause.WriteFault = WriteFailed
ending_of cause.SinkFault = SinkFailed
ending_of cause.OutOfMemory = NoMemory
ending_of (cause.Changed path) = Refused
ending_of (cause.Unfinished path) = Refused
ending_of (cause.Paths p) = Refused
ending_of (cause.Control c) = Refused
ending_of (cause.History h) = Refused
ending_of (cause.Rewind c) = Refused
ending_of (cause.Log c) = Refused
ending_of (cause.Replay c) = Refused
ending_of (cause.Differs path block) = Refused

-- a fault of a device or want of memory, which may come at any point
abbrev pub IsFree : Cause → Type 0
IsFree e = (e ≡ cause.ReadFault) ⊎ (e ≡ cause.WriteFault) ⊎ (e ≡ cause.SinkFault) ⊎ (e ≡ cause.OutOfMemory)

-- what a command may answer while it looks: a failed read, want of memory, or a refusal
abbrev pub IsOfLook : Cause → Type 0
IsOfLook e = (e ≡ cause.ReadFault) ⊎ (e ≡ cause.OutOfMemory) ⊎ (ending_of e ≡ Refused)

-- what is told of the text of a path alone
abbrev pub is_of_text : PathCause → Bool
is_of_text paths.DotDot = true
is_of_text (paths.TooDeep path) = true
is_of_text paths.PathsOverlap = true
is_of_text (paths.NotFolder path) = false
is_of_text (paths.Link path) = false
is_of_text (paths.NameNotText path) = false
is_of_text (paths.Occupied path) = false

-- what a command may answer of the files, whatever its words
abbrev pub is_of_files : Cause → Bool
is_of_files cause.Done = false
is_of_files cause.Usage = false
is_of_files cause.ReadFault = true
is_of_files cause.WriteFault = false
is_of_files cause.SinkFault = true
is_of_files cause.OutOfMemory = true
is_of_files (cause.Changed path) = true
is_of_files (cause.Unfinished path) = true
is_of_files (cause.Paths p) = not (is_of_text p)
is_of_files (cause.Control c) = true
is_of_files (cause.History h) = true
is_of_files (cause.Rewind c) = true
is_of_files (cause.Log c) = true
is_of_files (cause.Replay c) = true
is_of_files (cause.Differs path block) = true

-- a path has too many parts: a root's own, or one that a walk finds below it or below a folder that a record removes
abbrev pub is_deep : Cause → Bool
is_deep (cause.Paths (paths.TooDeep path)) = true
is_deep _ = false

-- the cause of an outcome
abbrev pub cause_of : Result (Unit {0}) Cause → Cause
cause_of (Ok u) = cause.Done
cause_of (Err e) = e

-- a cause with values, whose line is made in memory
abbrev pub has_values : Cause → Bool
has_values cause.Done = false
has_values cause.Usage = false
has_values cause.ReadFault = false
has_values cause.WriteFault = false
has_values cause.SinkFault = false
has_values cause.OutOfMemory = false
has_values (cause.Changed path) = true
has_values (cause.Unfinished path) = true
has_values (cause.Paths paths.DotDot) = false
has_values (cause.Paths (paths.TooDeep path)) = true
has_values (cause.Paths paths.PathsOverlap) = false
has_values (cause.Paths (paths.NotFolder path)) = true
has_values (cause.Paths (paths.Link path)) = true
has_values (cause.Paths (paths.NameNotText path)) = true
has_values (cause.Paths (paths.Occupied path)) = true
has_values (cause.Control c) = true
has_values (cause.History (history.HistoryMissing root tli)) = true
has_values (cause.History (history.BadLine root tli n)) = true
has_values (cause.History (history.NotRising root tli n)) = true
has_values (cause.History history.NoCommonAncestor) = false
has_values (cause.Rewind c) = true
has_values (cause.Log c) = true
has_values (cause.Replay c) = true
has_values (cause.Differs path block) = true

-- the status of the program
abbrev pub status_of : Cause → ℕ
status_of cause.Done = 0
status_of cause.ReadFault = 3
status_of cause.WriteFault = 3
status_of cause.SinkFault = 3
status_of cause.OutOfMemory = 4
status_of cause.Usage = 1
status_of (cause.Changed path) = 1
status_of (cause.Unfinished path) = 1
status_of (cause.Paths p) = 1
status_of (cause.Control c) = 1
status_of (cause.History h) = 1
status_of (cause.Rewind c) = 1
status_of (cause.Log c) = 1
status_of (cause.Replay c) = 1
status_of (cause.Differs path block) = 1
