-- What replay works on. Own: "The world of a replay".
use Rattle.std.specs.Prelude.{List}
use Rattle.block_refs.specs.declared.names.BlockName.{BlockName}
use Rattle.cluster_tree.specs.Contents.{Contents}
use Rattle.control_file.specs.declared.control.Control.{Control}
use Rattle.block_replay.specs.World.{BlockWorld}
use Rattle.replay_world.specs.declared.world.Replaying.{Replaying}

-- the files, the control file as it is to be written, and the names of the blocks whose change was skipped
pub record World : Type 0 where
  pub files : Contents
  pub control : Control
  pub skipped : List BlockName

-- what redo of blocks sees of it
abbrev pub blocks_of : World → BlockWorld
blocks_of w = record { files = w.files; skipped = w.skipped }

-- these files, and what a replay keeps
abbrev pub world_of : Contents → Replaying → World
world_of c r = record { files = c; control = r.control; skipped = r.skipped }
