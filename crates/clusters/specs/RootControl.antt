-- The control file of a cluster: PostgreSQL 16, src/common/controldata_utils.c, get_controlfile.
use Rattle.std.specs.Prelude.{ℕ, List, codes, Result, Ok, Err}
use Rattle.cluster_tree.specs.PathValue.{PathValue}
use Rattle.cluster_tree.specs.Contents.{Contents, entry_at}
use Rattle.cluster_tree.specs.Tree.{file_of}
use Rattle.cluster_tree.specs.declared.tree.TreeFault.{TreeFault}
use Rattle.control_file.specs.declared.control.Control.{Control}
use Rattle.control_file.specs.declared.fault.ControlFault.{ControlFault}
use Rattle.control_file.specs.declared.fault.ControlFault.TheVariants as control
use Rattle.control_file.specs.Admission.{control_of}
use Rattle.clusters.specs.Roots.{path_in}
use Rattle.clusters.specs.declared.fault.ClusterFault.{ClusterFault}
use Rattle.clusters.specs.declared.fault.ClusterFault.TheVariants as fault

-- the refusals of a control file, with its root
abbrev pub at_root : PathValue → Result Control ControlFault → Result Control ClusterFault
at_root root (Ok c) = Ok c
at_root root (Err (control.Size n)) = Err (fault.Size root n)
at_root root (Err (control.Crc stored computed)) = Err (fault.Crc root stored computed)
at_root root (Err (control.Version n)) = Err (fault.Version root n)
at_root root (Err (control.Catalog n)) = Err (fault.Catalog root n)
at_root root (Err (control.Shape field n)) = Err (fault.Shape root field n)

-- what a control file of these bytes says, where there is one
abbrev pub control_in : PathValue → Result (List ℕ) TreeFault → Result Control ClusterFault
control_in root (Ok bytes) = at_root root (control_of bytes)
control_in root (Err _) = Err (fault.ControlMissing root)

-- what the control file of a root says, or why it is refused
unfoldable pub control_at : Contents → PathValue → Result Control ClusterFault
control_at c root = control_in root (file_of (entry_at c (path_in root (codes "global/pg_control"))))
