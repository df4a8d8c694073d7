-- What a clean-up puts, over every tree: PostgreSQL 16 manual, reference page of pg_archivecleanup, option -d. Own: "What is seen of a run".
use Rattle.std.specs.Prelude.{◌≡◌, ◌⊎◌, ℕ, Bool, true, false, if◌then◌else◌, List, [], map}
use Rattle.commands.specs.declared.archivecleanup.ArchivecleanupWords.{ArchivecleanupWords}
use Rattle.acts.specs.Acts.{Refused, NoMemory, Seen, Performs}
use Rattle.run_acts.specs.Answers.{Answer, cause_in}
use Rattle.run_acts.specs.Causes.{IsFree, ending_of}
use Rattle.run_acts.specs.Laws.{Told}
use Rattle.run_acts.specs.declared.cause.Cause.{Cause}
use Rattle.cmd_archivecleanup.specs.Archivecleanup.{IsArchivecleanup, going, in_folder, removing_line}

-- the lines that tell of the removals of those that go, of these names: with -d one each, and else none
abbrev pub lines_of : ArchivecleanupWords → List (List ℕ) → List (List ℕ)
lines_of words names = if words.debug then map (λ name. removing_line (in_folder words.folder name)) (going names words) else []

-- Of a run that isn't dry there are names that were listed, so that standard error goes on by the lines of those of them that go, in their order, as far
-- as they came.
abbrev pub LinesInOrder : Type 0
LinesInOrder = (o : Bool) (words : ArchivecleanupWords) (answer : Answer) (how : Cause) (s u : Seen) → words.dry_run ≡ false → IsArchivecleanup words answer
    → Performs o true (ending_of how) answer.acts s u → (names : List (List ℕ)) × Told (ending_of how) (lines_of words names) s.err.text u.err.text

-- nothing is put or changed by a run that is refused, or for which there is no memory
abbrev pub NothingElse : Type 0
NothingElse = (o e : Bool) (words : ArchivecleanupWords) (answer : Answer) (how : Cause) (s u : Seen) → (ending_of how ≡ Refused) ⊎ (ending_of how ≡ NoMemory)
    → IsArchivecleanup words answer → IsFree how ⊎ (how ≡ cause_in answer.refusal) → Performs o e (ending_of how) answer.acts s u → u ≡ s
