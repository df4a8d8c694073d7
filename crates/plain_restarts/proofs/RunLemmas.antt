-- Of what a run found: what a stop of it leaves, what it leaves where it is done, and why it isn't.
use Rattle.std.proofs.Common.{List, Option}
use Rattle.cluster_tree.specs.Contents.{Contents}
use Rattle.cluster_tree.specs.PathValue.{PathValue}
use Rattle.replay_list.specs.declared.listed.Listed.{Listed}
use Rattle.replay_restart.specs.Meant.{IsLeftBy, WhyEnded}
use Rattle.replay_restart.specs.Stopped.{IsStopped}
use Rattle.replay_restart.specs.declared.fault.RestartFault.{RestartFault}
use Rattle.replay_restart.specs.declared.outcome.Restarted.{Restarted}
use Rattle.replay_start.specs.Checked.{Start}
use Rattle.rmgr_hooks.specs.Custom.{Extension, IsSound}
use Rattle.stopped_restarts.specs.Course.{IsFirst, IsLeftByStops}
use Rattle.stopped_restarts.specs.Stopped.{IsServed, IsStoppedIn, WasBegun}
use Rattle.stopped_restarts.proofs.CourseLemmas.{stops-on}
use Rattle.stopped_restarts.proofs.OneLemmas.{one-run}
use Rattle.stopped_restarts.proofs.RefusedLemmas.{refused-as_one}
use Rattle.plain_restarts.specs.Plain.{IsLeftPlainly, WhyNotPlainly}
use Rattle.plain_restarts.proofs.DoneLemmas.{one-plain, refused-plainly}

module _ (custom : Option Extension) (sound : IsSound custom) (root : PathValue) (first found : Contents) where
  module _ (is_first : IsFirst custom root first) (stops : IsLeftByStops custom root first found) where
    pub stop-leaves : (y : Contents) → IsStopped custom root found y → IsLeftByStops custom root first y
    stop-leaves y stopped = stops-on custom sound root first found is_first y stops stopped

    pub done-leaves : (new : Contents) (told : Restarted) → IsLeftBy custom found root new told → IsLeftPlainly custom root first new told
    done-leaves new told left = one-plain custom root first new told (one-run custom sound root first found new is_first told stops left)

  pub refused-why : (s : Start) (listed : List Listed) (d : Contents) → WasBegun custom root s listed first d → IsServed root s.control.relseg first → IsStoppedIn custom root s d found
      → (e : RestartFault) → WhyEnded custom found root e → WhyNotPlainly custom root first found e
  refused-why s listed d begun served stopped e why = refused-plainly custom root s listed first d found begun served e (refused-as_one custom sound root s listed first d found begun served stopped e why)
