-- What pg_waldump does: PostgreSQL 16 manual, reference page of pg_waldump; src/bin/pg_waldump/pg_waldump.c, main and print_rmgr_list.
use Rattle.std.specs.Prelude.{◌≡◌, ℕ, ◌++◌, Bool, List, [], ◌∷◌, codes, Option, None, Some, Result, Ok, Err}
use Rattle.std.specs.List.{flat_map}
use Rattle.cluster_tree.specs.Contents.{Contents}
use Rattle.wal_base.specs.Segment.{bytes_of}
use Rattle.wal_records.specs.Further.{pages_of}
use Rattle.rmgr_desc.specs.Managers.{manager_names}
use Rattle.rmgr_hooks.specs.Custom.{Extension}
use Rattle.waldump_core.specs.Dump.{Dump, dump_of}
use Rattle.waldump_core.specs.declared.dumped.Dumped.{Dumped}
use Rattle.waldump_core.specs.declared.fault.DumpFault.{DumpFault}
use Rattle.log_folder.specs.Found.{IsMisused, found_in}
use Rattle.log_folder.specs.declared.find.FoundLog.{FoundLog}
use Rattle.log_folder.specs.declared.fault.FolderFault.{FolderFault}
use Rattle.commands.specs.declared.waldump.WaldumpWords.{WaldumpWords}
use Rattle.commands.specs.declared.waldump.WaldumpWords.TheVariants as asked
use Rattle.acts.specs.Acts.{Print, Seen}
use Rattle.acts.specs.Texts.{prints}
use Rattle.run_acts.specs.Answers.{Answer, Carries, refused, does}
use Rattle.run_acts.specs.declared.cause.Cause.{Cause}
use Rattle.cmd_waldump.specs.Causes.{dump_cause, folder_cause}

abbrev pub manager_line : List ℕ → List ℕ
manager_line name = name ++ codes "\n"

-- the names of the resource managers, one per line
unfoldable pub manager_list : List ℕ
manager_list = flat_map manager_line manager_names

-- the list is one text
abbrev pub list_answer : Answer
list_answer = does (Print manager_list ∷ [])

-- over every tree the list is this one
abbrev pub IsList : Answer → Type 0
IsList answer = answer ≡ list_answer

-- a run carries out the list
abbrev pub CarriesList : Bool → Bool → Cause → Seen → Seen → Type 0
CarriesList out_tells err_tells ended old new = Carries (Unit {0}) list_answer IsList out_tells err_tells ended old new

-- why a dump is refused, if so
abbrev pub dump_refusal : Result Dumped DumpFault → Option Cause
dump_refusal (Ok dumped) = None
dump_refusal (Err fault) = Some (dump_cause fault)

-- the lines of a dump, and its refusal
abbrev pub dump_answer : Dump → Answer
dump_answer dump = record { acts = prints dump.lines; refusal = dump_refusal dump.answer }

-- the dump of a log that was found, of the records that are selected
unfoldable pub log_answer : Option Extension → Contents → FoundLog → Answer
log_answer custom c found = dump_answer (dump_of custom (pages_of found.log c) (bytes_of found.log.size) found.sel)

-- the dump of a log, or why there is none
abbrev pub found_answer : Option Extension → Contents → Result FoundLog FolderFault → Answer
found_answer custom c (Ok found) = log_answer custom c found
found_answer custom c (Err fault) = refused (folder_cause fault)

-- what is done about the words
abbrev pub waldump_answer : Option Extension → Contents → WaldumpWords → Answer
waldump_answer custom c asked.Managers = list_answer
waldump_answer custom c (asked.Dump words) = found_answer custom c (found_in c words)

-- over every tree a dump is lines on standard output, each whole, and a refusal, if any
abbrev pub IsDump : Answer → Type 0
IsDump answer = (lines : List (List ℕ)) × (answer.acts ≡ prints lines)

-- over every tree: the list, or a dump
abbrev pub IsWaldump : WaldumpWords → Answer → Type 0
IsWaldump asked.Managers answer = IsList answer
IsWaldump (asked.Dump words) answer = IsDump answer

-- the list of the resource managers is asked for, which needs no tree
abbrev pub AskForList : WaldumpWords → Type 0
AskForList asked.Managers = Unit {0}
AskForList (asked.Dump words) = ⊥

-- the words break a rule that hangs on the size of segments
abbrev pub BreakRule : WaldumpWords → Type 0
BreakRule asked.Managers = ⊥
BreakRule (asked.Dump words) = IsMisused words
