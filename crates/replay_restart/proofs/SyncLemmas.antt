-- What a sync leaves.
use Rattle.std.proofs.Common.{◌≡◌, inl, inr, [], ◌∷◌, Result, Ok, Err, refl, ap, sym, subst}
use Rattle.cluster_tree.specs.Contents.{entry_at}
use Rattle.cluster_tree.specs.PathValue.{PathValue}
use Rattle.cluster_tree.specs.Run.{Moment, Occurs, Pends}
use Rattle.cluster_tree.specs.Stops.{LeavesOnly, MayBeLeft}
use Rattle.cluster_tree.specs.declared.tree.ChangeCall.TheVariants as call
use Rattle.cluster_tree.specs.declared.tree.TreeFault.{TreeFault}
use Rattle.cluster_tree.proofs.Images.{holds_first, holds_synced, leaves_only}
use Rattle.marked_runs.specs.Moments.{IsUntouched, StandsSynced}
use Rattle.replay_core.specs.Within.{StaysWithin}
use Rattle.replay_restart.proofs.CallLemmas.{still-within}

module _ (a b : Moment) where
  still : LeavesOnly (IsUntouched a) a.stops a.stops
  still = leaves_only (IsUntouched a) (IsUntouched a) a a (holds_first (IsUntouched a) (IsUntouched a) a (inl refl) (λ c image. inr image)) (λ c q. q)

  synced-stops : Occurs call.Sync a b → LeavesOnly (IsUntouched a) a.stops b.stops
  synced-stops occurs =
      leaves_only (IsUntouched a) (IsUntouched a) a b
      (holds_synced (IsUntouched a) (IsUntouched a) (IsUntouched a) a a b (holds_first (IsUntouched a) (IsUntouched a) a (inl refl) (λ c image. inr image)) occurs (λ c q. q) (inl refl)) (λ c q. q)

  -- a stop leaves what one could have left before
  pub sync-stops : {A : Type 0} (result : Result A TreeFault) → Pends call.Sync a b result → LeavesOnly (IsUntouched a) a.stops b.stops
  sync-stops (Ok v) occurs = synced-stops occurs
  sync-stops (Err e) (inl same) = subst (λ (m : Moment). LeavesOnly (IsUntouched a) a.stops m.stops) (sym same) still
  sync-stops (Err e) (inr occurs) = synced-stops occurs.1

  -- and once it is done what stands
  pub sync-synced : b.state.contents ≡ a.state.contents → Occurs call.Sync a b → StandsSynced a.state.contents b
  sync-synced same occurs = record { now = same; left = λ c image. subst (λ s. MayBeLeft s c) occurs.stops image }

  sync-called : (root : PathValue) → b.state.contents ≡ a.state.contents → Occurs call.Sync a b → StaysWithin root a.state b.state
  sync-called root same occurs = record {
    made = call.Sync ∷ [];
    grew = occurs.happens.listed;
    within = ((λ p is. absurd cc), tt);
    elsewhere = λ path apart. ap (λ c. entry_at c path) same;
  }

  pub sync-within : {A : Type 0} (result : Result A TreeFault) (root : PathValue) → b.state.contents ≡ a.state.contents → Pends call.Sync a b result → StaysWithin root a.state b.state
  sync-within (Ok v) root same occurs = sync-called root same occurs
  sync-within (Err e) root same (inl still) = still-within root a.state b.state (ap (λ (m : Moment). m.state) still)
  sync-within (Err e) root same (inr occurs) = sync-called root same occurs.1
