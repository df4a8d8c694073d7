-- Why a record isn't replayed. Own: "Answers and their causes".
use Rattle.std.specs.Prelude.{◌≡◌, List, ℕ, Result, Ok, Err, MatchResult}
use Rattle.block_refs.specs.Outcomes.{start_of}
use Rattle.block_refs.specs.declared.names.BlockName.{BlockName}
use Rattle.cluster_tree.specs.declared.file_fault.FileFault.{FileFault}
use Rattle.file_edits.specs.Answers.{IsFree}
use Rattle.page_masks.specs.Law.{Redone}
use Rattle.wal_records.specs.Reading.{LogRecord}
use Rattle.block_replay.specs.declared.faults.RecordFault.{RecordFault}
use Rattle.block_replay.specs.declared.faults.RecordFault.TheVariants.{RedoFailed, File}

-- an answer about files
abbrev pub of_files : {A : Type 0} → Result A FileFault → Result A RecordFault
of_files (Ok value) = Ok value
of_files (Err fault) = Err (File fault)

-- a page that was redone, or the refusal with the record's start and the block's name
abbrev pub of_redo : LogRecord → BlockName → Redone → Result (List ℕ) RecordFault
of_redo rec name (Ok page) = Ok page
of_redo rec name (Err why) = Err (RedoFailed (start_of rec) name why)

-- what is answered whatever stands there: a device failed, or memory was wanting
abbrev pub IsFreeFault : RecordFault → Type 0
IsFreeFault (File fault) = IsFree fault
IsFreeFault (RedoFailed start name why) = ⊥

-- a page is left that is the one meant, or the refusal is
abbrev pub Leaves : Result (List ℕ) RecordFault → List ℕ → Result (Unit {0}) RecordFault → Type 0
Leaves meant page result = MatchResult result (λ _. meant ≡ Ok page) (λ fault. meant ≡ Err fault)
