-- What pg_resetwal does: PostgreSQL 16 manual, reference page of pg_resetwal; src/bin/pg_resetwal/pg_resetwal.c, main. Own: "A reset of the log".
use Rattle.std.specs.Prelude.{◌≡◌, ◌⊎◌, ℕ, ℤ, if◌then◌else◌, is_some, List, [], ◌∷◌, map, codes, Result, Ok, Err}
use Rattle.cluster_tree.specs.Change.{all_changed, call_of}
use Rattle.cluster_tree.specs.Contents.{Contents}
use Rattle.cluster_tree.specs.Run.{Moment}
use Rattle.control_file.specs.Text.{control_text_of}
use Rattle.reset_plan.specs.Prepared.{IsOfNames}
use Rattle.reset_plan.specs.Reset.{Reset, reset_of}
use Rattle.reset_plan.specs.declared.fault.ResetFault.{ResetFault}
use Rattle.reset_plan.specs.declared.fault.ResetFault.TheVariants as fault
use Rattle.reset_cleanup.specs.Stopping.{IsLeft}
use Rattle.commands.specs.declared.resetwal.ResetwalWords.{ResetwalWords}
use Rattle.acts.specs.Acts.{Act, Print, Do}
use Rattle.run_acts.specs.Answers.{Answer, refused, does}
use Rattle.run_acts.specs.Causes.{IsOfLook}
use Rattle.run_acts.specs.declared.cause.Cause.{Cause}
use Rattle.run_acts.specs.declared.cause.Cause.TheVariants as cause
use Rattle.run_acts.specs.declared.cause.LogCause.TheVariants as logs
use Rattle.run_acts.specs.declared.cause.PathCause.TheVariants as paths
use Rattle.run_acts.specs.declared.cause.RewindCause.TheVariants as unfit
use Rattle.cluster_causes.specs.Clusters.{cluster_cause}

-- the cause of a fault
abbrev pub reset_cause : ResetFault → Cause
reset_cause (fault.Cluster e) = cluster_cause e
reset_cause (fault.NotFolder path) = cause.Paths (paths.NotFolder path)
reset_cause (fault.BadSegment path) = cause.Log (logs.BadSegment path)
reset_cause (fault.NotClean root n) = cause.Rewind (unfit.NotClean root n)
reset_cause (fault.Link path) = cause.Paths (paths.Link path)
reset_cause (fault.KindsDiffer path) = cause.Rewind (unfit.KindsDiffer path)
reset_cause (fault.NameNotText path) = cause.Paths (paths.NameNotText path)
reset_cause fault.WriteFault = cause.WriteFault

-- what is told of a reset that was made
abbrev pub done_line : List ℕ
done_line = codes "Write-ahead log reset\n"

-- a dry run (-n) prints the text of the control file that the reset would leave; else the changes are made, of these contents, and told
abbrev pub reset_acts : Contents → ResetwalWords → Reset → List Act
reset_acts c words reset =
    if is_some words.options.dry then Print (control_text_of reset.control) ∷ []
    else Do (map call_of reset.changes) (all_changed c reset.changes) ∷ Print done_line ∷ []

abbrev pub told_answer : Contents → ResetwalWords → Result Reset ResetFault → Answer
told_answer c words (Ok reset) = does (reset_acts c words reset)
told_answer c words (Err f) = refused (reset_cause f)

-- what is done about the cluster's log
abbrev pub resetwal_answer : Contents → ResetwalWords → ℤ → Answer
resetwal_answer c words now = told_answer c words (reset_of c words.root words.options now)

-- a reset of some control file and some names, and this is done about it
pub record IsOfReset (words : ResetwalWords) (now : ℤ) (answer : Answer) : Type 0 where
  pub reset : Reset
  pub made : IsOfNames words.root words.options now reset
  pub contents : Contents
  pub is : answer ≡ does (reset_acts contents words reset)

-- over every tree: what is done about such a reset, or a refusal while it looks
abbrev pub IsResetwal : ResetwalWords → ℤ → Answer → Type 0
IsResetwal words now answer = IsOfReset words now answer ⊎ ((e : Cause) × IsOfLook e × (answer ≡ refused e))

-- what a stop at any moment of it may leave: all untouched, and of a reset that isn't dry and isn't refused the mark, or all that it was to leave
abbrev pub IsLeftByReset : ResetwalWords → ℤ → Moment → Contents → Type 0
IsLeftByReset words now first c = IsLeft words.root words.options now first c
