-- What is to be done once all lines are made: the code's own, over every tree. Own: "A command is a script of acts".
use Rattle.std.specs.Prelude.{◌≡◌, ◌⊎◌, if◌then◌else◌, Bool, true, false, List, [], ◌∷◌, map, string_bytes, Result, Ok}
use Rattle.cluster_tree.specs.Change.{all_changed, call_of}
use Rattle.cluster_tree.specs.Contents.{Contents}
use Rattle.cluster_tree.specs.PathValue.{PathValue}
use Rattle.rewind_survey.specs.declared.fault.RewindFault.{RewindFault}
use Rattle.rewind_writes.specs.Plan.{plan_changes}
use Rattle.rewind_writes.specs.Steps.{AllAreFit}
use Rattle.rewind_core.specs.Fits.{IsPlanFor, IsSaidIn}
use Rattle.rewind_core.specs.Planned.{Meant, Needing, Needs}
use Rattle.rewind_core.specs.declared.outcome.Plan.{Plan}
use Rattle.rewind_core.specs.declared.outcome.Planned.{Planned}
use Rattle.rewind_core.specs.declared.outcome.Planned.TheVariants as planned
use Rattle.acts.specs.Acts.{Act, Do, Report}
use Rattle.run_acts.specs.Answers.{Answer, does}
use Rattle.run_acts.specs.declared.cause.Cause.{Cause}
use Rattle.run_acts.specs.declared.cause.Cause.TheVariants as cause
use Rattle.cmd_rewind.specs.Rewind.{all_done, fork_report, made_acts, no_rewind, rewind_report, same_report}
use Rattle.cmd_rewind.specs.declared.lines.Lines.{Lines}
use Rattle.cmd_rewind.specs.declared.lines.Lines.TheVariants as lines
use Rattle.cmd_rewind.specs.declared.tasks.Task.{Task}
use Rattle.cmd_rewind.specs.declared.tasks.Task.TheVariants as task

-- what is done about what was planned
abbrev pub planned_answer : Bool → Contents → Planned → Answer
planned_answer dry_run c planned.SameTimeline = does same_report
planned_answer dry_run c (planned.EndsAtFork fork) = does (fork_report fork)
planned_answer dry_run c (planned.Needed plan) =
    if dry_run then does (rewind_report plan.told) else does (made_acts plan.told c (plan_changes c plan.text plan.writes))

-- the report of lines that were made
abbrev pub reported : Lines → List Act
reported lines.Same = same_report
reported (lines.AtFork first) = Report (string_bytes first) ∷ Report no_rewind ∷ []
reported (lines.Rewind first second) = Report (string_bytes first) ∷ Report (string_bytes second) ∷ Report all_done ∷ []

-- the changes of a plan, of these contents, and the last line
abbrev pub made_of : Plan → Contents → List Act
made_of plan c = Do (map call_of (plan_changes c plan.text plan.writes)) (all_changed c (plan_changes c plan.text plan.writes)) ∷ Report all_done ∷ []

-- what a task does
abbrev pub task_acts : Task → Contents → List Act
task_acts (task.Tell lines) c = reported lines
task_acts (task.Rewind first second plan) c = Report (string_bytes first) ∷ Report (string_bytes second) ∷ made_of plan c

-- the ends of its plan's ranges are numbers of 64 bits
abbrev pub IsFitTask : Task → Type 0
IsFitTask (task.Tell lines) = Unit {0}
IsFitTask (task.Rewind first second plan) = AllAreFit plan.writes.steps.items

-- it is one of what was planned: in a report nothing is needed, or the run is dry
abbrev pub IsTaskOf : Bool → Planned → Task → Type 0
IsTaskOf dry_run v (task.Tell lines) = (plan : Plan) → v ≡ planned.Needed plan → dry_run ≡ true
IsTaskOf dry_run v (task.Rewind first second plan) = v ≡ planned.Needed plan

-- and one for what is meant: its plan is of just what is needed
abbrev pub IsTaskFor : Bool → Contents → Result Meant RewindFault → Task → Type 0
IsTaskFor dry_run c meant (task.Tell lines) = (n : Needing) → meant ≡ Ok (Needs n) → dry_run ≡ true
IsTaskFor dry_run c meant (task.Rewind first second plan) = (n : Needing) × (meant ≡ Ok (Needs n)) × IsPlanFor c n plan

-- and the text of its plan is read as just that plan
abbrev pub IsSaidTask : Contents → (target source : PathValue) → Task → Type 0
IsSaidTask c target source (task.Tell lines) = Unit {0}
IsSaidTask c target source (task.Rewind first second plan) = IsSaidIn c target source plan

-- a dry run makes no rewind
abbrev pub IsWet : Bool → Task → Type 0
IsWet dry_run (task.Tell lines) = Unit {0}
IsWet dry_run (task.Rewind first second plan) = dry_run ≡ false

-- why changes and the lines around them break off
abbrev pub IsOfMaking : Cause → Type 0
IsOfMaking e = (e ≡ cause.ReadFault) ⊎ (e ≡ cause.WriteFault) ⊎ (e ≡ cause.SinkFault) ⊎ ((p : PathValue) × (e ≡ cause.Changed p))
