-- What a replay that can be started again leaves whatever it answers.
use Rattle.std.proofs.Common.{Option, ◌≡◌, ◌≢◌, ◌∙◌, ◌⊎◌, inl, inr, refl, sym, ap, subst, Result, Ok, Err, IfErr}
use Rattle.rmgr_hooks.specs.Custom.{Extension}
use Rattle.cluster_tree.specs.Contents.{Contents}
use Rattle.cluster_tree.specs.PathValue.{PathValue}
use Rattle.cluster_tree.specs.declared.file_fault.FileFault.TheVariants as file
use Rattle.clusters.specs.declared.fault.ClusterFault.TheVariants as cluster
use Rattle.file_walk.specs.declared.fault.WalkFault.TheVariants as walk
use Rattle.replay_start.specs.declared.fault.ReplayFault.TheVariants as replay
use Rattle.commands.specs.declared.walreplay.WalreplayWords.{WalreplayWords}
use Rattle.marked_runs.specs.Moments.{IsMarked}
use Rattle.replay_copies.specs.Laid.{mark_of}
use Rattle.replay_core.specs.Within.{LogStays}
use Rattle.replay_restart.specs.Faults.{IsFree as IsFreeFault}
use Rattle.replay_restart.specs.Left.{LeavesMark}
use Rattle.replay_restart.specs.Meant.{WhyEnded, WhyFirst}
use Rattle.replay_restart.specs.declared.fault.RestartFault.{RestartFault}
use Rattle.replay_restart.specs.declared.fault.RestartFault.TheVariants as fault
use Rattle.replay_restart.specs.declared.outcome.Restarted.{Restarted}
use Rattle.run_acts.specs.Causes.{IsFree, cause_of}
use Rattle.run_acts.specs.declared.cause.Cause.{Cause}
use Rattle.run_acts.specs.declared.cause.Cause.TheVariants as cause
use Rattle.cmd_restart.specs.Restart.{IsRefused, IsRefusedFirst, StaysRestarted, restart_cause}
use Rattle.cmd_restart.proofs.CarryLemmas.{IsOfWrite, free_cause}

-- a refusal is free, or that of the first point that refuses
pub refused_by : (custom : Option Extension) (words : WalreplayWords) (c : Contents) (f : RestartFault) (e : Cause) → e ≡ restart_cause f → IsFreeFault f ⊎ WhyEnded custom c words.root f → IsFree e ⊎ IsRefused custom words c e
refused_by custom words c f e is (inl free) = inl (subst IsFree (sym is) (free_cause f free))
refused_by custom words c f e is (inr why) = inr (f, why, is)

-- a fault of a file that was contradicted, or of a change that failed, isn't answered
pub never_changed : (f : RestartFault) (p : PathValue) → (f ≡ fault.Replay (replay.Cluster (cluster.Changed p))) ⊎ (f ≡ fault.Walk (walk.File (file.Changed p)))
    → (◌≡◌ {A = Result Restarted RestartFault} (Err f) (Err (fault.Replay (replay.Cluster (cluster.Changed p)))) → ⊥) × (◌≡◌ {A = Result Restarted RestartFault} (Err f) (Err (fault.Walk (walk.File (file.Changed p)))) → ⊥) → ⊥
never_changed f p (inl is) never = never.0 (ap Err is)
never_changed f p (inr is) never = never.1 (ap Err is)

pub unwritten_by : {e : Cause} (f : RestartFault) → (e ≡ cause.WriteFault → IsOfWrite f) → (◌≡◌ {A = Result Restarted RestartFault} (Err f) (Err (fault.Replay replay.WriteFault)) → ⊥)
    → (◌≡◌ {A = Result Restarted RestartFault} (Err f) (Err (fault.Walk (walk.File file.WriteFault))) → ⊥) → e ≢ cause.WriteFault
unwritten_by f of never walked is = by (of is)
  where
    by : IsOfWrite f → ⊥
    by (inl i) = never (ap Err i)
    by (inr i) = walked (ap Err i)

module _ (custom : Option Extension) (words : WalreplayWords) (c c' : Contents) (log : LogStays words.root c c') where
  -- behind the last change only the line may fail
  pub stays_told : (r : Result (Unit {0}) Cause) → IfErr r (λ e. e ≡ cause.SinkFault) → ((f : RestartFault) → WhyFirst custom c words.root f → c' ≡ c) → StaysRestarted custom words c c' (cause_of r)
  stays_told (Ok done) only same = record { log = log; exact = inr (inl refl); checked = λ f why. (same f why, (λ is. cc is)); mark = inr (inl refl) }
  stays_told (Err e) only same = record {
    log = log;
    exact = inl (inr (inr (inl only)));
    checked = λ f why. (same f why, (λ is. let both : cause.SinkFault ≡ cause.WriteFault = sym only ∙ is in cc both));
    mark = inl (inr (inr (inl only)));
  }

  by_exact : {e : Cause} → IsFree e ⊎ IsRefused custom words c e → IsFree e ⊎ (e ≡ cause.Done) ⊎ IsRefused custom words c e
  by_exact (inl free) = inl free
  by_exact (inr why) = inr (inr why)

  by_mark : (f : RestartFault) (e : Cause) → e ≡ restart_cause f → LeavesMark custom words.root c c' f → IsFree e ⊎ (e ≡ cause.Done) ⊎ IsRefusedFirst custom words c e ⊎ IsMarked (mark_of words.root) c'
  by_mark f e is (inl free) = inl (subst IsFree (sym is) (free_cause f free))
  by_mark f e is (inr (inl why)) = inr (inr (inl (f, why, is)))
  by_mark f e is (inr (inr mark)) = inr (inr (inr mark))

  pub stays_refused : (f : RestartFault) (e : Cause) → e ≡ restart_cause f → IsFreeFault f ⊎ WhyEnded custom c words.root f → LeavesMark custom words.root c c' f
      → ((g : RestartFault) → WhyFirst custom c words.root g → (c' ≡ c) × (e ≢ cause.WriteFault)) → StaysRestarted custom words c c' e
  stays_refused f e is meant left checked = record { log = log; exact = by_exact (refused_by custom words c f e is meant); checked = checked; mark = by_mark f e is left }
