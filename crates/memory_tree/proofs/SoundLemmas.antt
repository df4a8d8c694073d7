-- What always holds of a tree in memory.
use Rattle.std.proofs.Common.{◌≡◌, [], refl, sym, subst, ap, Result, Ok, Err, OnOk, OnErr}
use Rattle.std.proofs.Math.Logic.{∥∥₁_map}
use Rattle.cluster_tree.specs.Contents.{Contents, IsTree}
use Rattle.cluster_tree.specs.Step.{Step}
use Rattle.cluster_tree.specs.Stops.{Stops, Epoch, IsImage, with_pending, with_synced, stops_after}
use Rattle.memory_tree.specs.Memory.{IsSound}
use Rattle.cluster_tree.specs.declared.tree.ChangeCall.{ChangeCall}
use Rattle.cluster_tree.specs.declared.tree.ChangeCall.TheVariants as call
use Rattle.cluster_tree.proofs.TreeLemmas.{step-tree}
use Rattle.cluster_tree.proofs.Images.{image-more}

-- where all is synced
pub sound-synced : (c d : Contents) (s : Stops) → IsTree c → d ≡ c → s.now ≡ record { synced = c; pending = [] } → IsSound d s
sound-synced c d s tree same now = record {
  rooted = subst IsTree (sym same) tree;
  synced = subst IsTree (sym (ap (λ (e : Epoch). e.synced) now)) tree;
  left = ∣ subst (λ (e : Epoch). IsImage e.synced e.pending d) (sym now) same ∣₁;
}

sound-pending : (ch : ChangeCall) (c d : Contents) (s t : Stops) → IsSound c s → Step ch c d → t ≡ with_pending ch s → IsSound d t
sound-pending ch c d s t sound step is = subst (IsSound d) (sym is) (record {
  rooted = step-tree ch c d sound.rooted step;
  synced = sound.synced;
  left = ∥∥₁_map sound.left (λ image. image-more s.now.pending ch s.now.synced c d image step);
})

sound-after : (ch : ChangeCall) (c d : Contents) (s t : Stops) → IsSound c s → Step ch c d → t ≡ stops_after ch c s → IsSound d t
sound-after (call.Write path at n) c d s t sound step is = sound-pending _ c d s t sound step is
sound-after (call.Cut path size) c d s t sound step is = sound-pending _ c d s t sound step is
sound-after (call.MakeFile path) c d s t sound step is = sound-pending _ c d s t sound step is
sound-after (call.MakeFolder path) c d s t sound step is = sound-pending _ c d s t sound step is
sound-after (call.Remove path) c d s t sound step is = sound-pending _ c d s t sound step is
sound-after call.Sync c d s t sound step is = sound-synced c d t sound.rooted step (ap (λ (u : Stops). u.now) is)

-- after a changing call, or as it was
pub sound-made : {A E : Type 0} (ch : ChangeCall) (done : Result A E) (c d : Contents) (s t : Stops) → IsSound c s → Step ch c d → OnErr done (d ≡ c) → OnOk done (t ≡ stops_after ch c s) → OnErr done (t ≡ s) → IsSound d t
sound-made ch (Ok v) c d s t sound step kept pending still = sound-after ch c d s t sound step pending
sound-made ch (Err e) c d s t sound step kept pending still = subst (IsSound d) (sym still) (subst (λ x. IsSound x s) (sym kept) sound)

-- after another entry was put and synced, or as it was
pub sound-put : {A E : Type 0} (done : Result A E) (c d e : Contents) (s t : Stops) → IsSound c s → IsTree e → OnOk done (d ≡ e) → OnErr done (d ≡ c) → OnOk done (t ≡ with_synced d s) → OnErr done (t ≡ s) → IsSound d t
sound-put (Ok v) c d e s t sound tree set kept synced still = sound-synced d d t (subst IsTree (sym set) tree) refl (ap (λ (u : Stops). u.now) synced)
sound-put (Err f) c d e s t sound tree set kept synced still = subst (IsSound d) (sym still) (subst (λ x. IsSound x s) (sym kept) sound)
