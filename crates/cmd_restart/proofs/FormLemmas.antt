-- Want of memory, before a replay that can be started again and behind it, for the line of its cause.
use Rattle.std.proofs.Common.{Option, ◌≡◌, ◌∙◌, inl, inr, refl, sym}
use Rattle.rmgr_hooks.specs.Custom.{Extension}
use Rattle.cluster_tree.specs.Contents.{Contents}
use Rattle.clusters.specs.declared.fault.ClusterFault.TheVariants as cluster
use Rattle.commands.specs.declared.walreplay.WalreplayWords.{WalreplayWords}
use Rattle.replay_start.specs.declared.fault.ReplayFault.TheVariants as replay
use Rattle.replay_restart.specs.declared.fault.RestartFault.{RestartFault}
use Rattle.replay_restart.specs.declared.fault.RestartFault.TheVariants as fault
use Rattle.run_acts.specs.Answers.{Answer}
use Rattle.run_acts.specs.declared.cause.Cause.{Cause}
use Rattle.run_acts.specs.declared.cause.Cause.TheVariants as cause
use Rattle.cmd_walreplay.specs.Walreplay.{broken}
use Rattle.cmd_restart.specs.Restart.{IsRestartIn, StaysRestarted, restart_cause}

abbrev wanting : RestartFault
wanting = fault.Replay (replay.Cluster cluster.OutOfMemory)

-- it comes before all else
abbrev pub no_memory : WalreplayWords → Answer
no_memory words = broken words (restart_cause wanting)

pub memory-form : (custom : Option Extension) (tells : Type 0) (c : Contents) (words : WalreplayWords) → IsRestartIn tells custom c words (no_memory words)
memory-form custom tells c words = (inr (inr (wanting, refl)), (λ t. inr (inr (wanting, inl (inr (inr (inl refl))), refl))))

-- nothing was done
pub unmade_stays : (custom : Option Extension) (words : WalreplayWords) (c : Contents) → StaysRestarted custom words c c cause.OutOfMemory
unmade_stays custom words c = record { log = λ path holds. refl; exact = inl (inr (inr (inr refl))); checked = λ f why. (refl, (λ is. cc is)); mark = inl (inr (inr (inr refl))) }

-- there is none for the line of the cause
pub unlined_stays : (custom : Option Extension) (words : WalreplayWords) (c c' : Contents) (own ended : Cause) → ended ≡ cause.OutOfMemory → StaysRestarted custom words c c' own → StaysRestarted custom words c c' ended
unlined_stays custom words c c' own ended none stays = record {
  log = stays.log;
  exact = inl (inr (inr (inr none)));
  checked = λ f why. ((stays.checked f why).0, (λ is. let both : cause.OutOfMemory ≡ cause.WriteFault = sym none ∙ is in cc both));
  mark = inl (inr (inr (inr none)));
}
