-- What a stop at any moment of a reset may leave. Own: "What a stop may leave", "A reset of the log".
use Rattle.std.specs.Prelude.{◌≡◌, ◌⊎◌, ℤ, cond, false, length, None, Ok, Err}
use Rattle.std.specs.List.{list_any}
use Rattle.cluster_tree.specs.Change.{all_changed, is_on}
use Rattle.cluster_tree.specs.Contents.{Contents}
use Rattle.cluster_tree.specs.Marks.{MarkPaths, is_there, marks_of}
use Rattle.cluster_tree.specs.PathValue.{PathValue}
use Rattle.cluster_tree.specs.Run.{Moment}
use Rattle.clusters.specs.declared.fault.ClusterFault.TheVariants as cluster
use Rattle.control_file.specs.Writing.{control_bytes}
use Rattle.marked_runs.specs.Moments.{IsMarked, IsUntouched}
use Rattle.reset_numbers.specs.declared.options.ResetOptions.{ResetOptions}
use Rattle.reset_plan.specs.Plan.{body_changes, plan_changes}
use Rattle.reset_plan.specs.Reset.{Reset, reset_of}
use Rattle.reset_plan.specs.declared.fault.ResetFault.TheVariants as fault
use Rattle.reset_plan.specs.declared.plan.Plan.{Plan}
use Rattle.reset_plan.specs.declared.plan.Prepared.{Prepared}
use Rattle.reset_plan.specs.declared.plan.Prepared.TheVariants.{Dry, Ready}
use Rattle.reset_cleanup.specs.Resetting.{LogIsReset}

-- ---- of changes that were made ready

-- all were made, and the control file has its size
pub record IsWhole (plan : Plan) (old c : Contents) : Type 0 where
  pub is : c ≡ all_changed old (plan_changes plan)
  pub size : length (control_bytes plan.body.control) ≡ 8192

-- untouched, marked or whole
abbrev pub IsPerformed : Plan → Moment → Contents → Type 0
IsPerformed plan first c = IsUntouched first c ⊎ (IsMarked plan.mark c ⊎ IsWhole plan first.state.contents c)

-- the same of what was looked at, where a dry run leaves all untouched
abbrev pub IsPreparedLeft : Prepared → Moment → Contents → Type 0
IsPreparedLeft (Dry control) first c = IsUntouched first c
IsPreparedLeft (Ready plan) first c = IsPerformed plan first c

-- the mark is no path of what is changed under it
abbrev pub IsOffMark : Prepared → Type 0
IsOffMark (Dry control) = Unit {0}
IsOffMark (Ready plan) = list_any (is_on plan.mark) (body_changes plan.body) ≡ false

-- ---- of a reset

-- all that it was to leave
pub record IsFinished (root : PathValue) (options : ResetOptions) (now : ℤ) (reset : Reset) (old c : Contents) : Type 0 where
  pub is : c ≡ all_changed old reset.changes
  pub after : LogIsReset old c root options now reset.control

-- the reset isn't dry and isn't refused, and its mark stands or it is finished
pub record IsAmid (root : PathValue) (options : ResetOptions) (now : ℤ) (old c : Contents) : Type 0 where
  pub wet : options.dry ≡ None
  pub reset : Reset
  pub meant : reset_of old root options now ≡ Ok reset
  pub left : IsMarked (marks_of root).reset c ⊎ IsFinished root options now reset old c

-- so from the first moment on: untouched, and only of such a reset marked or finished
abbrev pub IsLeft : PathValue → ResetOptions → ℤ → Moment → Contents → Type 0
IsLeft root options now first c = IsUntouched first c ⊎ IsAmid root options now first.state.contents c

-- ---- a law for callers

-- the first mark that is looked for and stands, where that of a reset does
abbrev pub standing : Contents → MarkPaths → PathValue
standing c marks = cond (is_there c marks.rewind) marks.rewind (cond (is_there c marks.replay) marks.replay marks.reset)

-- a root at which the mark of a reset stands is refused with it, or with the mark that stands before it
abbrev pub MarkedIsRefused : Type 0
MarkedIsRefused = (c : Contents) (root : PathValue) (options : ResetOptions) (now : ℤ) → IsMarked (marks_of root).reset c → reset_of c root options now ≡ Err (fault.Cluster (cluster.Unfinished (standing c (marks_of root))))
