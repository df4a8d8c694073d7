-- A replay that can be started again, as the command that was carried out.
use Rattle.std.proofs.Common.{Option, ◌≡◌, ℕ, ℤ, Bool, IsTrue, List, inl, inr, ⊎_elim, sym, subst, Result, Ok, OnOk}
use Rattle.cluster_tree.specs.Contents.{Contents}
use Rattle.cluster_tree.specs.Run.{Moment}
use Rattle.cluster_tree.specs.Stops.{LeavesOnly, Stops}
use Rattle.commands.specs.declared.command.Command.{Command}
use Rattle.commands.specs.declared.command.Command.TheVariants as command
use Rattle.commands.specs.declared.fault.CommandFault.{CommandFault}
use Rattle.commands.specs.declared.walreplay.WalreplayWords.{WalreplayWords}
use Rattle.marked_runs.specs.Moments.{StandsSynced}
use Rattle.cluster_tree.specs.PathValue.{PathValue}
use Rattle.marked_runs.proofs.StopLemmas.{leaves_weaker}
use Rattle.plain_restarts.specs.Course.{IsFirst, IsLeftByStops}
use Rattle.plain_restarts.proofs.RunLemmas.{refused-why, stop-leaves}
use Rattle.rmgr_hooks.specs.Custom.{Extension, IsSound}
use Rattle.acts.specs.Acts.{Seen}
use Rattle.run_acts.specs.Unseen.{CarriesUnseen}
use Rattle.run_acts.specs.declared.cause.Cause.{Cause}
use Rattle.run_acts.proofs.UnseenSteps.{unseen_by}
use Rattle.replay_restart.specs.Stopped.{IsStopped, Untouched}
use Rattle.cmd_rewind.proofs.StopLemmas.{still-same}
use Rattle.cmd_restart.specs.Restart.{IsLeftByStart, IsRefused, IsRestartIn, LeavesRestarted, StaysRestarted, unknown_answer}
use Rattle.wal_tools.specs.Leaves.{LeavesAsked, StaysAsked}
use Rattle.wal_tools.specs.Restarted.{GoesOn}
use Rattle.wal_tools.specs.Stopped.{IsDurableAsked, IsLeftAsked}
use Rattle.wal_tools.specs.Words.{IsSeen, MayChange}
use Rattle.wal_tools.proofs.RunLemmas.{CarriesOut}

-- what it does is seen where the tree tells
seen_restart : (T : Type 0) (words : WalreplayWords) → IsSeen T (Ok (command.Restart words)) → T
seen_restart T words (inl t) = t
seen_restart T words (inr none) = absurd (none tt)

module _ {k : Command} {words : WalreplayWords} (is : k ≡ command.Restart words) where
  -- it was carried out
  pub of_restart : (custom : Option Extension) (tells : Bool) (c : Contents) (now : ℤ) {o e : Bool} {ended : Cause} {s u : Seen}
      → CarriesUnseen (IsTrue tells) ⊥ unknown_answer (IsRestartIn (IsTrue tells) custom c words) o e ended s u → CarriesOut custom tells c now o e (Ok k) ended s u
  of_restart custom tells c now {o} {e} {ended} {s} {u} p =
      let P : Command → Type 0 = λ x. CarriesOut custom tells c now o e (Ok x) ended s u in
      subst P (sym is) (unseen_by (seen_restart (IsTrue tells) words) (λ t. inl t) p)

  -- it may change files
  pub restart_may : MayChange (Ok k)
  restart_may = let P : Command → Type 0 = λ x. MayChange (Ok x) in subst P (sym is) tt

  -- what it leaves
  pub restarted_at : (custom : Option Extension) (r : Result (Unit {0}) Cause) (now : ℤ) (tells : Bool) (c c' : Contents) (out out' : List ℕ) → OnOk r (LeavesRestarted custom words tells c c' out out')
      → OnOk r (LeavesAsked custom (Ok k) now tells c c' out out')
  restarted_at custom r now tells c c' out out' left = let Q : Command → Type 0 = λ x. OnOk r (LeavesAsked custom (Ok x) now tells c c' out out') in subst Q (sym is) left

  -- what stays
  pub restart_stays : (custom : Option Extension) (c c' : Contents) (ended : Cause) → StaysRestarted custom words c c' ended → StaysAsked custom (Ok k) c c' ended
  restart_stays custom c c' ended stays = let Q : Command → Type 0 = λ x. StaysAsked custom (Ok x) c c' ended in subst Q (sym is) stays

  -- what a stop may leave
  pub left_of_restart : (custom : Option Extension) (now : ℤ) (first : Moment) (a b : Stops) → LeavesOnly (IsLeftByStart custom words first) a b → LeavesOnly (IsLeftAsked custom (Ok k) now first) a b
  left_of_restart custom now first a b left = let P : Command → Type 0 = λ x. LeavesOnly (IsLeftAsked custom (Ok x) now first) a b in subst P (sym is) left

  -- and once it is done
  pub durable_restart : (r : Result (Unit {0}) Cause) (now : ℤ) (c : Contents) (moment : Moment) → OnOk r (StandsSynced moment.state.contents moment) → OnOk r (IsDurableAsked (Ok k) now c moment)
  durable_restart r now c moment durable = let P : Command → Type 0 = λ x. OnOk r (IsDurableAsked (Ok x) now c moment) in subst P (sym is) durable

-- what a stop leaves of a run over what stops left
pub stops_left : (custom : Option Extension) → IsSound custom → (root : PathValue) (first i : Contents) → IsFirst custom root first → IsLeftByStops custom root first i → (a b : Stops) → LeavesOnly (IsStopped custom root i) a b
    → LeavesOnly (IsLeftByStops custom root first) a b
stops_left custom sound root first i is_first stops a b left =
    leaves_weaker (IsStopped custom root i) (IsLeftByStops custom root first) a b (stop-leaves custom sound root first i is_first stops) left

-- why it isn't done, over what goes on
pub goes_on_but : (custom : Option Extension) → IsSound custom → (asked : Result Command CommandFault) (c c' : Contents) (ended : Cause) → StaysAsked custom asked c c' ended → GoesOn custom asked c ended
goes_on_but custom sound asked c c' ended stays words is s listed first d begun served stopped =
    let stood : StaysRestarted custom words c c' ended = subst (λ a. StaysAsked custom a c c' ended) is stays in
    ⊎_elim (λ free. inl free)
    (⊎_elim (λ done. inr (inl done))
    (λ (why : IsRefused custom words c ended). inr (inr (why.0, refused-why custom sound words.root first c s listed d begun served stopped why.0 why.1, why.2))))
    stood.exact

-- what a stop leaves, for the same words
pub restart_stopped : {k : Command} {words : WalreplayWords} → k ≡ command.Restart words → (custom : Option Extension) (i : Contents) (a b : Stops) → LeavesOnly (IsStopped custom words.root i) a b
    → (asked : WalreplayWords) → ◌≡◌ {A = Result Command CommandFault} (Ok k) (Ok (command.Restart asked)) → LeavesOnly (IsStopped custom asked.root i) a b
restart_stopped {k} {words} is custom i a b left asked same =
    let own : words ≡ asked = cc (is, same) in
    subst (λ (w : WalreplayWords). LeavesOnly (IsStopped custom w.root i) a b) own left

pub stopped_still : (custom : Option Extension) (words : WalreplayWords) (i : Contents) (first : Moment) → StandsSynced i first → LeavesOnly (IsStopped custom words.root i) first.stops first.stops
stopped_still custom words i first stands = still-same (IsStopped custom words.root i) i first stands (λ x same. Untouched same)
