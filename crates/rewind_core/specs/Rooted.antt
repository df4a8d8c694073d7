-- What was found at the roots of two clusters before they are walked. Own: "The plan of a rewind".
use Rattle.std.specs.Prelude.{◌≡◌, None, Ok}
use Rattle.cluster_tree.specs.Contents.{Contents}
use Rattle.cluster_tree.specs.PathValue.{PathValue}
use Rattle.control_file.specs.declared.control.Control.{Control}
use Rattle.clusters.specs.Marks.{unfinished}
use Rattle.clusters.specs.RootControl.{control_at}
use Rattle.rewind_plan.specs.Between.{between}
use Rattle.rewind_core.specs.Planned.{Aim}
use Rattle.rewind_core.specs.declared.planning.Rewinding.{Rewinding}

-- no run is unfinished there, and the control file is read
abbrev pub IsRooted : Contents → PathValue → Type 0
IsRooted c root = (unfinished c root ≡ None) × (control : Control) × (control_at c root ≡ Ok control)

-- a rewind by its code
abbrev pub aim : Rewinding → Aim
aim r = record { told = r.told; between = between r.clusters; control = r.control.now; label = r.label }
