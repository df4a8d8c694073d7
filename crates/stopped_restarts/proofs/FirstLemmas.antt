-- A run that begins over what a stop left before a whole mark stood was begun over the first contents.
use Rattle.std.proofs.Common.{List, Option}
use Rattle.cluster_tree.specs.Contents.{Contents}
use Rattle.cluster_tree.specs.PathValue.{PathValue}
use Rattle.replay_copies.specs.Laid.{IsLaid, SameElsewhere}
use Rattle.replay_copies.proofs.TellLemmas.{laid-stands}
use Rattle.replay_list.specs.Laws.{IsListOf}
use Rattle.replay_list.specs.declared.listed.Listed.{Listed}
use Rattle.replay_restart.proofs.ReadyLemmas.{can-lay}
use Rattle.replay_restart.proofs.TakenLemmas.{unbegun}
use Rattle.replay_start.specs.Checked.{Start}
use Rattle.restart_start.specs.Beginning.{MayBegin, without_own}
use Rattle.restart_laws.specs.Stopped.{IsServed, WasBegun}
use Rattle.restart_laws.proofs.LateLemmas.{laid-late, may-late}
use Rattle.rmgr_hooks.specs.Custom.{Extension}
use Rattle.stopped_restarts.specs.Course.{IsFirst}
use Rattle.stopped_restarts.proofs.TreeLemmas.{laid-tree}

pub was-begun : (custom : Option Extension) (root : PathValue) (c x : Contents) → IsFirst custom root c → SameElsewhere root c x → (s : Start) (listed : List Listed) (d : Contents)
    → MayBegin custom (without_own x root) root s listed → IsListOf root listed → IsLaid root listed x d → WasBegun custom root s listed c d
was-begun custom root c x first same s listed d may list laid =
    let own = may-late custom root c x first.anew same s listed may in
    let ready = can-lay c root custom s listed first.tree (unbegun c root first.anew) own list in
    let stands = laid-stands root listed c d (laid-late custom root c x first.anew same listed list d laid) in
    record {
      tree = first.tree;
      proper = first.proper;
      anew = first.anew;
      may = own;
      list = list;
      laid_tree = laid-tree root listed c d first.tree ready.rooted (unbegun c root first.anew).mark stands;
      laid = stands;
    }

-- and servers can have left the cluster
pub was-served : (custom : Option Extension) (root : PathValue) (s : Start) (listed : List Listed) (c d : Contents) → IsFirst custom root c → WasBegun custom root s listed c d → IsServed root s.control.relseg c
was-served custom root s listed c d first begun = first.served s begun.may.passes
