-- What a replay leaves whatever it answers.
use Rattle.std.proofs.Common.{Option, ◌≡◌, ◌⊎◌, inl, inr, refl, sym, ap, subst, Result, Ok, Err, IfErr}
use Rattle.rmgr_hooks.specs.Custom.{Extension}
use Rattle.cluster_tree.specs.Contents.{Contents}
use Rattle.commands.specs.declared.walreplay.WalreplayWords.{WalreplayWords}
use Rattle.replay_start.specs.Checked.{Start, start_of}
use Rattle.replay_start.specs.declared.fault.ReplayFault.{ReplayFault}
use Rattle.replay_core.specs.Faults.{IsFree as IsFreeFault}
use Rattle.replay_core.specs.Within.{IsMarked, LeavesMark, LogStays}
use Rattle.run_acts.specs.Causes.{IsFree, cause_of}
use Rattle.run_acts.specs.declared.cause.Cause.{Cause}
use Rattle.run_acts.specs.declared.cause.Cause.TheVariants as cause
use Rattle.cmd_walreplay.specs.Walreplay.{StaysMarked, replay_cause}

free_cause : (f : ReplayFault) → IsFreeFault f → IsFree (replay_cause f)
free_cause f (inl is) = inl (ap replay_cause is)
free_cause f (inr (inl is)) = inr (inl (ap replay_cause is))
free_cause f (inr (inr (inl is))) = inr (inr (inr (ap replay_cause is)))
free_cause f (inr (inr (inr never))) = absurd never

module _ (custom : Option Extension) (words : WalreplayWords) (c c' : Contents) (log : LogStays words.root c c') where
  -- behind the last change only the line may fail
  pub stays_told : (r : Result (Unit {0}) Cause) → IfErr r (λ e. e ≡ cause.SinkFault) → StaysMarked custom words c c' (cause_of r)
  stays_told (Ok done) only = record { log = log; mark = λ s is. inr (inl refl) }
  stays_told (Err e) only = record { log = log; mark = λ s is. inl (inr (inr (inl only))) }

  pub stays_refused : (f : ReplayFault) (e : Cause) → e ≡ replay_cause f → ((s : Start) → start_of custom c words.root ≡ Ok s → LeavesMark words.root c' f) → StaysMarked custom words c c' e
  stays_refused f e is left = record { log = log; mark = λ s begun. by (left s begun) }
    where
      by : LeavesMark words.root c' f → IsFree e ⊎ (e ≡ cause.Done) ⊎ IsMarked words.root c'
      by (inl free) = inl (subst IsFree (sym is) (free_cause f free))
      by (inr mark) = inr (inr mark)
