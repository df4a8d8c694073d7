-- What is found out of a cluster before its paths are paired. Own: "The plan of a rewind".
use Rattle.std.specs.Prelude.{◌≡◌, List, None, Ok}
use Rattle.cluster_tree.specs.Contents.{Contents}
use Rattle.cluster_tree.specs.PathValue.{PathValue}
use Rattle.control_file.specs.declared.control.Control.{Control}
use Rattle.clusters.specs.Marks.{unfinished}
use Rattle.clusters.specs.RootControl.{control_at}
use Rattle.file_walk.specs.Walk.{HasParts, walk_of}
use Rattle.file_walk.specs.declared.entry.Entry.{Entry}

-- no run is unfinished there, the control file is read, and the walk below the root finds these entries
pub record IsWalked (c : Contents) (root : PathValue) (control : Control) (entries : List Entry) : Type 0 where
  pub finished : unfinished c root ≡ None
  pub read : control_at c root ≡ Ok control
  pub parts : HasParts c root
  pub walk : walk_of c root ≡ Ok entries
