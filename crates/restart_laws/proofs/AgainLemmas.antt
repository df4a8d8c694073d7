-- A replay over what has all back that a stop changed ends as the one that was stopped would have.
use Rattle.std.proofs.Common.{ℕ, ◌<◌, List, [], ◌∷◌, Option, refl}
use Rattle.cluster_laws.specs.Alike.{AlikeWorlds}
use Rattle.cluster_tree.specs.Contents.{Contents, FileEntry}
use Rattle.cluster_tree.specs.PathValue.{PathValue, below}
use Rattle.clusters.specs.Roots.{wal_folder}
use Rattle.replay_core.specs.Under.{replayed_under, world_under}
use Rattle.replay_laws.specs.Log.{AreTaken, HoldsBytes}
use Rattle.replay_laws.proofs.CheckedLemmas.{start-taken}
use Rattle.replay_laws.proofs.TouchedLemmas.{start-touches}
use Rattle.replay_list.specs.declared.listed.Listed.{Listed}
use Rattle.replay_restart.proofs.ReadyLemmas.{own-there}
use Rattle.replay_start.specs.Checked.{Start}
use Rattle.restart_start.specs.Beginning.{without_own}
use Rattle.restarted_laws.specs.Again.{AreAgain}
use Rattle.restarted_laws.specs.Unchanged.{KeepsUntouched}
use Rattle.restarted_laws.proofs.AgainLemmas.{log-ends}
use Rattle.restarted_laws.proofs.EndLemmas.{before-log}
use Rattle.restarted_laws.proofs.FileLemmas.{log-files}
use Rattle.restarted_laws.proofs.UnchangedLemmas.{block-again}
use Rattle.restored_laws.specs.Back.{IsBack, SameBeside}
use Rattle.restored_laws.proofs.BlockLemmas.{block-back}
use Rattle.rmgr_hooks.specs.Custom.{Extension, IsSound}
use Rattle.restart_laws.specs.Stopped.{EndAsOne, IsServed, IsStoppedIn, WasBegun}
use Rattle.restart_laws.proofs.AlikeLemmas.{alike-back, versions-back, whole-back, whole-blocks, whole-laid}
use Rattle.restart_laws.proofs.ControlLemmas.{start-blocks}
use Rattle.restart_laws.proofs.EndLemmas.{ends-as_one}

module _ (custom : Option Extension) (sound : IsSound custom) (root : PathValue) (s : Start) (listed : List Listed) (c d : Contents) (begun : WasBegun custom root s listed c d)
    (served : IsServed root s.control.relseg c) (x b : Contents) (stopped : IsStoppedIn custom root s d x)
    (back : IsBack root d x b) (beside : SameBeside root d b) where
  abbrev e : Contents
  e = without_own c root

  abbrev per : ℕ
  per = s.control.relseg

  some : 0 < per
  some = start-blocks custom e root s begun.may.passes

  holds : HoldsBytes e root
  holds name bytes is = served.bytes name bytes (own-there c root (below (wal_folder root) (name ∷ [])) (FileEntry bytes) is)

  taken : AreTaken custom s.label.start.0 s.records
  taken = start-taken custom e root s holds begun.may.passes

  alike : AlikeWorlds root root per (world_under s d) (world_under s b)
  alike = record {
    files = alike-back custom root s listed c d begun per served x b back beside;
    whole = whole-laid custom root s listed c d begun per served;
    other_whole = whole-back custom root s listed c d begun per served x b back beside;
    control = refl;
  }

  keeps : KeepsUntouched custom root root per s.records (world_under s d) (world_under s b)
  keeps name page main none has =
      block-back root per d x b name page back has
      (λ own. stopped.blocks name page (record { main = main.main; block = main.block }) own (start-touches custom e root s name holds begun.may.passes main none) has)

  again : AreAgain custom root root per s.records (world_under s d) (world_under s b)
  again = record {
    begins = record { some = some; whole = alike.whole; none = refl };
    other_begins = record { some = some; whole = alike.other_whole; none = refl };
    blocks = block-again custom root root per s.records (world_under s d) (world_under s b) begun.may.anew alike.files keeps;
  }

  pub ends-as_first : EndAsOne root (replayed_under custom root s d) (replayed_under custom root s b)
  ends-as_first =
      ends-as_one custom root s d b taken
      (log-files custom sound root root per some s.label.start.0 s.records (world_under s d) (world_under s b) taken alike
      (whole-blocks custom root s listed c d begun) (versions-back custom root s listed c d begun per served x b back beside)
      (log-ends custom sound root root per some s.label.start.0 s.records (world_under s d) (world_under s b) taken
      (before-log custom sound root root per some s.records (world_under s d) (world_under s b) alike again)))
