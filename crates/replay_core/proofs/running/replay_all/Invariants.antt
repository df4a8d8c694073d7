use Rattle.std.proofs.Common.{◌≡◌, ◌≤◌, ◌-◌, ◌<◌, ◌^◌, false, IsTrue, None}
use Rattle.rmgr_hooks.specs.Custom.{handed_in}
use Rattle.cluster_tree.specs.Frame.{Came}
use Rattle.control_file.specs.Admission.{IsControl}
use Rattle.file_edits.specs.Own.{OnOwn}
use Rattle.file_effects.specs.Own.{is_replayed}
use Rattle.file_effects.specs.Touched.{SparesBlocks}
use Rattle.block_refs.specs.declared.names.BlockName.{BlockName}
use Rattle.replay_world.specs.Touched.{touched_by}
use Rattle.wal_records.specs.Cursor.{Knows, to_come}
use Rattle.replay_world.specs.World.{world_of}
use Rattle.replay_core.specs.Steps.{Replays}
use Rattle.replay_core.proofs.running.replay_all.Given as goal

abbrev pub invariant-records : goal.invariant-records
invariant-records g l = record {
  opened : l.cursor.ended ≡ None;
  within : l.cursor.place < 2 ^ 64;
  below : l.count.records ≤ l.cursor.place;
  log : l.cursor.log ≡ l.fn.cursor.log;
  files : l.world.files ≡ l.fn.world.files;
  control : IsControl l.fn.world.control → IsControl l.world.control;
  frame : Came g.F.Tree l.fn.tree l.tree;
  own : IsTrue g.F.Tree.tells → OnOwn g.F.Tree.calls (is_replayed l.fn.world.files.root) l.fn.tree l.tree;
  spares : IsTrue g.F.Tree.tells → SparesBlocks g.F.Tree l.fn.world.files.root l.fn.world.files.per_file (touched_by (handed_in g.M.Manager l.custom) (to_come l.fn.cursor (g.F.Tree.contents l.fn.tree)).records) l.fn.tree l.tree;
  fewer : IsTrue g.F.Tree.tells → (name : BlockName) → touched_by (handed_in g.M.Manager l.custom) (to_come l.fn.cursor (g.F.Tree.contents l.fn.tree)).records name ≡ false → touched_by (handed_in g.M.Manager l.custom) (to_come l.cursor (g.F.Tree.contents l.tree)).records name ≡ false;
  knows : IsTrue g.F.Tree.tells → Knows l.cursor (g.F.Tree.contents l.tree);
  replays : IsTrue g.F.Tree.tells → Replays (handed_in g.M.Manager l.custom) l.fn.world.files.root l.fn.world.files.per_file (to_come l.fn.cursor (g.F.Tree.contents l.fn.tree)).records (to_come l.cursor (g.F.Tree.contents l.tree)).records (world_of (g.F.Tree.contents l.fn.tree) l.fn.world) (world_of (g.F.Tree.contents l.tree) l.world) l.fn.count l.count;
}

abbrev pub decreases-records : goal.decreases-records
decreases-records g l = 2 ^ 64 - l.cursor.place
