-- A reset that was made ready. Own: "A reset of the log".
use Rattle.std.specs.Prelude.{◌≡◌, ◌⊎◌, ℕ, ℤ, if◌then◌else◌, List, [], Some, Result, Ok, Err, MatchResult, is_some}
use Rattle.cluster_tree.specs.PathValue.{PathValue}
use Rattle.clusters.specs.Roots.{wal_folder}
use Rattle.control_file.specs.declared.control.Control.{Control}
use Rattle.wal_base.specs.declared.segment.Segment.{Segment}
use Rattle.reset_numbers.specs.Behind.{new_segment}
use Rattle.reset_numbers.specs.declared.options.ResetOptions.{ResetOptions}
use Rattle.reset_plan.specs.Plan.{plan_changes}
use Rattle.reset_plan.specs.Reset.{Reset, changes_of, control_after, gone_of}
use Rattle.reset_plan.specs.ResetFaults.{IsFree}
use Rattle.reset_plan.specs.declared.fault.ResetFault.{ResetFault}
use Rattle.reset_plan.specs.declared.plan.Prepared.{Prepared}
use Rattle.reset_plan.specs.declared.plan.Prepared.TheVariants.{Dry, Ready}

-- what the control file will say
abbrev pub control_in : Prepared → Control
control_in (Dry control) = control
control_in (Ready plan) = plan.body.control

-- what it does
abbrev pub reset_by : Prepared → Reset
reset_by (Dry control) = record { control = control; changes = [] }
reset_by (Ready plan) = record { control = plan.body.control; changes = plan_changes plan }

-- it is the reset that is meant, or why that is refused
abbrev pub Prepares : Result Reset ResetFault → Result Prepared ResetFault → Type 0
Prepares meant result = MatchResult result (λ prepared. meant ≡ Ok (reset_by prepared)) (λ e. IsFree e ⊎ (meant ≡ Err e))

-- a dry run
abbrev pub IsDry : Prepared → Type 0
IsDry (Dry control) = Unit {0}
IsDry (Ready plan) = ⊥

-- ---- over every tree

-- a reset by which these files go, and after which the control file says this and the log begins at this segment; a dry run changes nothing
abbrev pub reset_with : PathValue → ResetOptions → Control → List PathValue → Segment → Reset
reset_with root options control gone segment =
    if is_some options.dry then record { control = control; changes = [] } else record { control = control; changes = changes_of root gone control segment }

-- some control file was read, some names were listed in pg_wal and in archive_status, and this is the reset that follows of them
pub record IsOfNames (root : PathValue) (options : ResetOptions) (now : ℤ) (reset : Reset) : Type 0 where
  pub old : Control
  pub names : List (List ℕ)
  pub statuses : List (List ℕ)
  pub segment : Segment
  pub behind : new_segment options old names ≡ Some segment
  pub is : reset ≡ reset_with root options (control_after options now segment old) (gone_of (wal_folder root) names statuses) segment
