-- That what a stopped rewind leaves can be resumed, and the calls of a resume, from the words on.
use Rattle.std.proofs.Common.{◌≡◌, ◌≢◌, ◌⊎◌, ◌∙◌, ℤ, IsTrue, List, inl, inr, None, Result, Ok, subst, sym}
use Rattle.cluster_tree.specs.Contents.{Contents}
use Rattle.cluster_tree.specs.Run.{Moment}
use Rattle.cluster_tree.specs.Stops.{LeavesOnly, Stops}
use Rattle.commands.specs.declared.command.Command.{Command}
use Rattle.commands.specs.declared.command.Command.TheVariants as command
use Rattle.commands.specs.declared.fault.CommandFault.{CommandFault}
use Rattle.commands.specs.declared.rewind.RewindWords.{RewindWords}
use Rattle.cluster_tree.specs.PathValue.{PathValue}
use Rattle.marked_runs.specs.Moments.{StandsSynced}
use Rattle.rewind_core.specs.Over.{without_own}
use Rattle.rewind_core.specs.Planned.{Needing}
use Rattle.rewind_core.specs.declared.outcome.Plan.{Plan}
use Rattle.stored_laws.specs.Laws.{IsStopped, IsStoppedAgain}
use Rattle.resume_core.specs.Stored.{stored_of}
use Rattle.cmd_rewind.specs.Rewind.{IsLeftToResume}
use Rattle.cmd_rewind.proofs.StopLemmas.{still-same}
use Rattle.cluster_tree.specs.declared.tree.ChangeCall.{ChangeCall}
use Rattle.commands.specs.declared.fault.CommandFault.TheVariants as words_fault
use Rattle.run_acts.specs.Causes.{has_values}
use Rattle.run_acts.specs.declared.cause.Cause.{Cause}
use Rattle.run_acts.specs.declared.cause.Cause.TheVariants as cause
use Rattle.run_acts.specs.declared.cause.RewindCause.TheVariants as unfit
use Rattle.cmd_resume.specs.Calls.{MakesAgain}
use Rattle.cmd_resume.specs.Changes.{changes_again}
use Rattle.cmd_resume.proofs.CallLemmas.{none-tried}
use Rattle.wal_tools.specs.Words.{words_cause}

-- with the time under another name
pub resumable_at : {n m : ℤ} (words : RewindWords) (s c : Contents) (a b : Stops) → n ≡ m → LeavesOnly (IsLeftToResume words n s c) a b → LeavesOnly (IsLeftToResume words m s c) a b
resumable_at words s c a b same left = subst (λ x. LeavesOnly (IsLeftToResume words x s c) a b) same left

-- of pg_rewind
pub resumable_rewind : {k : Command} {words : RewindWords} {n m : ℤ} (c : Contents) (a b : Stops) → k ≡ command.Rewind words → n ≡ m → LeavesOnly (IsLeftToResume words n c c) a b
    → (rewind : RewindWords) → ◌≡◌ {A = Result Command CommandFault} (Ok k) (Ok (command.Rewind rewind)) → LeavesOnly (IsLeftToResume rewind m c c) a b
resumable_rewind {k} {words} {n} {m} c a b is same left rewind asked =
    let own : words ≡ rewind = cc (is, asked) in
    subst (λ w. LeavesOnly (IsLeftToResume w m c c) a b) own (resumable_at words c c a b same left)

-- and of its resume
pub resumable_resume : {k : Command} {words : RewindWords} {n m : ℤ} (c : Contents) (a b : Stops) → k ≡ command.Resume words → n ≡ m → (stored_of c words.target words.source ≡ Ok None → LeavesOnly (IsLeftToResume words n (without_own c words.target) c) a b)
    → (resume : RewindWords) → ◌≡◌ {A = Result Command CommandFault} (Ok k) (Ok (command.Resume resume)) → stored_of c resume.target resume.source ≡ Ok None
    → LeavesOnly (IsLeftToResume resume m (without_own c resume.target) c) a b
resumable_resume {k} {words} {n} {m} c a b is same left resume asked none =
    let own : words ≡ resume = cc (is, asked) in
    subst (λ (w : RewindWords). LeavesOnly (IsLeftToResume w m (without_own c w.target) c) a b) own (resumable_at words (without_own c words.target) c a b same (left (subst (λ (w : RewindWords). stored_of c w.target w.source ≡ Ok None) (sym own) none)))

-- nothing was done
pub resumable_still : (words : RewindWords) (now : ℤ) (s c : Contents) (first : Moment) → StandsSynced c first → LeavesOnly (IsLeftToResume words now s c) first.stops first.stops
resumable_still words now s c first stands = still-same (IsLeftToResume words now s c) c first stands (λ i same. inl same)

-- of a resume of a rewind that was stopped
pub again_resume : {k : Command} {words : RewindWords} (i : Contents) (a b : Stops) → k ≡ command.Resume words
    → ((c : Contents) (before : ℤ) (n : Needing) (plan : Plan) → IsStopped c words.target words.source before n plan i → LeavesOnly (IsStoppedAgain c words.target words.source before n plan) a b)
    → (resume : RewindWords) → ◌≡◌ {A = Result Command CommandFault} (Ok k) (Ok (command.Resume resume)) → (c : Contents) (before : ℤ) (n : Needing) (plan : Plan) → IsStopped c resume.target resume.source before n plan i
    → LeavesOnly (IsStoppedAgain c resume.target resume.source before n plan) a b
again_resume {k} {words} i a b is left resume asked =
    let own : words ≡ resume = cc (is, asked) in
    subst (λ (w : RewindWords). (c : Contents) (before : ℤ) (n : Needing) (plan : Plan) → IsStopped c w.target w.source before n plan i → LeavesOnly (IsStoppedAgain c w.target w.source before n plan) a b) own left

pub again_still : (c : Contents) (target source : PathValue) (before : ℤ) (n : Needing) (plan : Plan) (i : Contents) (first : Moment) → IsStopped c target source before n plan i → StandsSynced i first
    → LeavesOnly (IsStoppedAgain c target source before n plan) first.stops first.stops
again_still c target source before n plan i first stop stands =
    still-same (IsStoppedAgain c target source before n plan) i first stands (λ d same. inl (subst (IsStopped c target source before n plan) (sym same) stop))

-- ---- the calls of a resume

pub tries_resume : {k : Command} {words : RewindWords} (c : Contents) (calls calls' : List ChangeCall) (ended : Cause) → k ≡ command.Resume words → MakesAgain words c calls calls' ended
    → (resume : RewindWords) → ◌≡◌ {A = Result Command CommandFault} (Ok k) (Ok (command.Resume resume)) → MakesAgain resume c calls calls' ended
tries_resume {k} {words} c calls calls' ended is made resume asked =
    let own : words ≡ resume = cc (is, asked) in
    subst (λ (w : RewindWords). MakesAgain w c calls calls' ended) own made

-- none were made
tries_none : (words : RewindWords) (c : Contents) (calls : List ChangeCall) (ended : Cause) → ((way : PathValue) → ended ≢ cause.Rewind (unfit.TargetDiffers way)) → MakesAgain words c calls calls ended
tries_none words c calls ended other said wet found = none-tried c (changes_again c words.target said) calls ended other

pub tries_unmade : (words : RewindWords) (c : Contents) (calls : List ChangeCall) → MakesAgain words c calls calls cause.OutOfMemory
tries_unmade words c calls = tries_none words c calls cause.OutOfMemory (λ way is. cc is)

words_other : (fault : CommandFault) (way : PathValue) → words_cause fault ≢ cause.Rewind (unfit.TargetDiffers way)
words_other words_fault.Usage way is = cc is
words_other words_fault.DotDot way is = cc is
words_other (words_fault.TooDeep path) way is = cc is
words_other words_fault.PathsOverlap way is = cc is
words_other words_fault.OutOfMemory way is = cc is

pub tries_refused : (words : RewindWords) (c : Contents) (calls : List ChangeCall) (fault : CommandFault) (ended : Cause) → ended ≡ words_cause fault → MakesAgain words c calls calls ended
tries_refused words c calls fault ended is = tries_none words c calls ended (λ way at. words_other fault way (sym is ∙ at))

-- want of memory for the line of the cause is told in its place, and says nothing of what stands
memory_told : (c : Contents) (words : RewindWords) (calls calls' : List ChangeCall) (outcome ended : Cause) → ended ≡ cause.OutOfMemory → MakesAgain words c calls calls' outcome → MakesAgain words c calls calls' ended
memory_told c words calls calls' outcome ended none made said wet found = record {
  first = (made said wet found).first;
  differs = λ way is. let both : cause.OutOfMemory ≡ cause.Rewind (unfit.TargetDiffers way) = sym none ∙ is in absurd (cc both);
}

pub tries_told : (words : RewindWords) (c : Contents) (calls calls' : List ChangeCall) {outcome own ended : Cause} → own ≡ outcome → (ended ≡ own) ⊎ (IsTrue (has_values own) × (ended ≡ cause.OutOfMemory))
    → MakesAgain words c calls calls' outcome → MakesAgain words c calls calls' ended
tries_told words c calls calls' {outcome} {own} {ended} same (inl is) made = subst (MakesAgain words c calls calls') (sym (is ∙ same)) made
tries_told words c calls calls' {outcome} {own} {ended} same (inr m) made = memory_told c words calls calls' outcome ended m.1 made
