-- What pg_rewind --resume does: PostgreSQL 16 manual, reference page of pg_rewind. Own: "A rewind that is resumed".
use Rattle.std.specs.Prelude.{◌≡◌, ◌⊎◌, ℕ, ℤ, if◌then◌else◌, false, List, [], ◌∷◌, map, Option, None, Some, Result, Ok, Err}
use Rattle.cluster_tree.specs.Change.{Change, all_changed, call_of}
use Rattle.cluster_tree.specs.Contents.{Contents}
use Rattle.cluster_tree.specs.Marks.{marks_of}
use Rattle.cluster_tree.specs.PathValue.{PathValue, path_of}
use Rattle.cluster_tree.specs.Run.{Moment}
use Rattle.marked_runs.specs.Moments.{IsMarked, IsUntouched, StandsSynced}
use Rattle.rewind_core.specs.Over.{without_own}
use Rattle.rewind_survey.specs.declared.outcome.Told.{Told}
use Rattle.mark_lines.specs.Paths.{parts_below}
use Rattle.plan_text.specs.Text.{Saying}
use Rattle.resume_core.specs.Stored.{stored_of}
use Rattle.resume_core.specs.declared.fault.ResumeFault.{ResumeFault}
use Rattle.resume_core.specs.declared.fault.ResumeFault.TheVariants as fault
use Rattle.resumed_writes.specs.declared.faults.StoredPerformFault.{StoredPerformFault}
use Rattle.resumed_writes.specs.declared.faults.StoredPerformFault.TheVariants as again
use Rattle.commands.specs.declared.rewind.RewindWords.{RewindWords}
use Rattle.acts.specs.Acts.{Do, Look, Report, Within}
use Rattle.run_acts.specs.Answers.{Answer, does, refused}
use Rattle.run_acts.specs.declared.cause.Cause.{Cause}
use Rattle.run_acts.specs.declared.cause.Cause.TheVariants as cause
use Rattle.run_acts.specs.declared.cause.RewindCause.TheVariants as unfit
use Rattle.cluster_causes.specs.Rewind.{rewind_cause}
use Rattle.cmd_rewind.specs.Rewind.{IsDurable, IsLeftByRewind, IsRewind, LeavesRewound, all_done, diverged, rewind_answer, rewind_report, rewinding}
use Rattle.cmd_resume.specs.Changes.{Trial, changes_again, tried}

-- the way from a root to a path below it
abbrev pub way_from : (root path : PathValue) → PathValue
way_from root path = path_of false (parts_below root path)

-- the cause of a fault, with the source's files by their ways
abbrev pub resume_cause : PathValue → ResumeFault → Cause
resume_cause source (fault.Rewind e) = rewind_cause e
resume_cause source (fault.BadPlan root number) = cause.Rewind (unfit.BadPlan root number)
resume_cause source (fault.SourceDiffers path) = cause.Rewind (unfit.SourceDiffers (way_from source path))

-- the cause of changes that are made again and broke off
abbrev pub again_cause : PathValue → StoredPerformFault → Cause
again_cause target again.ReadFault = cause.ReadFault
again_cause target again.WriteFault = cause.WriteFault
again_cause target (again.Changed path) = cause.Changed path
again_cause target (again.TargetDiffers path) = cause.Rewind (unfit.TargetDiffers (way_from target path))

-- all changes, of these contents, and the last line
abbrev pub made_rest : Contents → List Change → Answer
made_rest c changes = record { acts = Do (map call_of changes) (all_changed c changes) ∷ Report all_done ∷ []; refusal = None }

-- changes of the target, which leave these contents, and then a refusal: what stands at this way differs
abbrev pub differing_rest : PathValue → Option Contents → PathValue → Answer
differing_rest target after way = record { acts = Within (target ∷ []) after ∷ []; refusal = Some (cause.Rewind (unfit.TargetDiffers way)) }

-- all of them, or those before the first one that what stands refuses
abbrev pub tried_rest : PathValue → Contents → List Change → (before : List Change) → Option PathValue → Answer
tried_rest target c changes before None = made_rest c changes
tried_rest target c changes before (Some path) = differing_rest target (Some (all_changed c before)) (way_from target path)

abbrev pub rest_of : PathValue → Contents → List Change → Answer
rest_of target c changes = let t : Trial = tried c changes in tried_rest target c changes t.before t.differs

-- a line before an answer, and a look before all
abbrev pub behind_line : List ℕ → Answer → Answer
behind_line line answer = record { acts = Report line ∷ answer.acts; refusal = answer.refusal }

abbrev pub behind_look : Answer → Answer
behind_look answer = record { acts = Look ∷ answer.acts; refusal = answer.refusal }

-- two lines, and then that
abbrev pub told_answer : Told → Answer → Answer
told_answer told rest = behind_look (behind_line (diverged told.fork) (behind_line (rewinding told) rest))

-- a stored rewind is reported in a dry run (-n), and else made again
abbrev pub stored_answer : RewindWords → Contents → Saying → Answer
stored_answer words c said =
    if words.dry_run then does (rewind_report said.told) else told_answer said.told (rest_of words.target c (changes_again c words.target said))

-- what is done about what the mark holds: without a complete one it is a rewind of what is seen without that mark
abbrev pub found_answer : RewindWords → ℤ → Contents → Result (Option Saying) ResumeFault → Answer
found_answer words now c (Ok None) = rewind_answer (without_own c words.target) c words now
found_answer words now c (Ok (Some said)) = stored_answer words c said
found_answer words now c (Err e) = refused (resume_cause words.source e)

abbrev pub resume_answer : Contents → RewindWords → ℤ → Answer
resume_answer c words now = found_answer words now c (stored_of c words.target words.source)

-- over every tree: what a rewind may do, or changes of the target behind two lines, and then a refusal, in no dry run
abbrev pub IsResume : RewindWords → Answer → Type 0
IsResume words answer =
    IsRewind words answer
    ⊎ ((told : Told) × (after : Option Contents) × (way : PathValue) × (words.dry_run ≡ false) × (answer ≡ told_answer told (differing_rest words.target after way)))

-- A resume that is done leaves what its changes make of the contents; where no complete mark was found, what a rewind leaves of what is seen without it.
pub record LeavesResumed (words : RewindWords) (now : ℤ) (c c' : Contents) : Type 0 where
  pub fresh : stored_of c words.target words.source ≡ Ok None → LeavesRewound words now (without_own c words.target) c'
  pub stored : (said : Saying) → words.dry_run ≡ false → stored_of c words.target words.source ≡ Ok (Some said) → c' ≡ all_changed c (changes_again c words.target said)

-- what a stop at any moment may leave: untouched; where no complete mark was found, what a rewind may leave; and where the mark holds a plan and
-- no run is dry, the mark, or what the changes of the resume make
abbrev pub IsLeftByResume : RewindWords → ℤ → Moment → Contents → Type 0
IsLeftByResume words now first d =
    IsUntouched first d
    ⊎ ((stored_of first.state.contents words.target words.source ≡ Ok None) × IsLeftByRewind words now (without_own first.state.contents words.target) first d)
    ⊎ ((said : Saying) × (words.dry_run ≡ false) × (stored_of first.state.contents words.target words.source ≡ Ok (Some said))
    × (IsMarked (marks_of words.target).rewind d ⊎ (d ≡ all_changed first.state.contents (changes_again first.state.contents words.target said))))

-- once it is done, what stands
pub record IsResumedDurably (words : RewindWords) (now : ℤ) (c : Contents) (moment : Moment) : Type 0 where
  pub fresh : stored_of c words.target words.source ≡ Ok None → IsDurable words now (without_own c words.target) moment
  pub stored : (said : Saying) → words.dry_run ≡ false → stored_of c words.target words.source ≡ Ok (Some said) → StandsSynced moment.state.contents moment
