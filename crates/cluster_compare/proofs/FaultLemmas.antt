-- Faults of a comparison by their causes.
use Rattle.std.proofs.Common.{◌≡◌, ◌≢◌, ◌⊎◌, inl, inr, Err, Result, refl, ap, sym, subst, ◌∙◌}
use Rattle.cluster_tree.specs.PathValue.{PathValue}
use Rattle.cluster_tree.specs.declared.file_fault.FileFault.{FileFault}
use Rattle.cluster_tree.specs.declared.file_fault.FileFault.TheVariants as file
use Rattle.clusters.specs.declared.fault.ClusterFault.{ClusterFault}
use Rattle.clusters.specs.declared.fault.ClusterFault.TheVariants as cluster
use Rattle.file_walk.specs.Faults.{IsFileRow}
use Rattle.file_walk.specs.declared.fault.WalkFault.{WalkFault}
use Rattle.file_walk.specs.declared.fault.WalkFault.TheVariants as walk
use Rattle.cluster_compare.specs.Faults.{IsChanged, IsFreeOfFile, IsReadFault}
use Rattle.cluster_compare.specs.Looks.{IsLookFault}
use Rattle.cluster_compare.specs.declared.fault.CompareFault.{CompareFault}
use Rattle.cluster_compare.specs.declared.fault.CompareFault.TheVariants as fault

pub cluster-read : (e : ClusterFault) → IsReadFault (fault.Cluster e) → e ≡ cluster.ReadFault
cluster-read e (inl h) = cc h
cluster-read e (inr (inl h)) = absurd (cc h)
cluster-read e (inr (inr h)) = absurd (cc h)

pub walk-read : (e : WalkFault) → IsReadFault (fault.Walk e) → e ≡ walk.File file.ReadFault
walk-read e (inl h) = absurd (cc h)
walk-read e (inr (inl h)) = cc h
walk-read e (inr (inr h)) = absurd (cc h)

pub file-read : (e : FileFault) → IsReadFault (fault.File e) → e ≡ file.ReadFault
file-read e (inl h) = absurd (cc h)
file-read e (inr (inl h)) = absurd (cc h)
file-read e (inr (inr h)) = cc h

pub cluster-changed : (e : ClusterFault) → IsChanged (fault.Cluster e) → (p : PathValue) × (e ≡ cluster.Changed p)
cluster-changed e (p, inl h) = (p, cc h)
cluster-changed e (p, inr (inl h)) = absurd (cc h)
cluster-changed e (p, inr (inr h)) = absurd (cc h)

pub walk-changed : (e : WalkFault) → IsChanged (fault.Walk e) → (p : PathValue) × (e ≡ walk.File (file.Changed p))
walk-changed e (p, inl h) = absurd (cc h)
walk-changed e (p, inr (inl h)) = (p, cc h)
walk-changed e (p, inr (inr h)) = absurd (cc h)

pub file-changed : (e : FileFault) → IsChanged (fault.File e) → (p : PathValue) × (e ≡ file.Changed p)
file-changed e (p, inl h) = absurd (cc h)
file-changed e (p, inr (inl h)) = absurd (cc h)
file-changed e (p, inr (inr h)) = (p, cc h)

-- what a look answers where the tree contradicted nothing is free
pub look-free : (e : FileFault) → IsLookFault e → ((p : PathValue) → e ≡ file.Changed p → ⊥) → IsFreeOfFile e
look-free file.ReadFault row h = tt
look-free file.WriteFault row h = row
look-free (file.Link path) row h = row
look-free (file.NotFolder path) row h = row
look-free (file.IsFolder path) row h = row
look-free (file.NameNotText path) row h = row
look-free (file.TooDeep path) row h = row
look-free (file.Changed path) row h = h path refl
look-free file.OutOfMemory row h = tt

pub look-row : (root : PathValue) (e : FileFault) → IsLookFault e → IsFileRow root e
look-row root file.ReadFault row = tt
look-row root file.WriteFault row = row
look-row root (file.Link path) row = row
look-row root (file.NotFolder path) row = absurd row
look-row root (file.IsFolder path) row = row
look-row root (file.NameNotText path) row = row
look-row root (file.TooDeep path) row = row
look-row root (file.Changed path) row = tt
look-row root file.OutOfMemory row = tt

-- a fault that is handed on
pub handed : {A : Type 0} (P : Result A CompareFault → Type 0) (r : Result A CompareFault) (e : CompareFault) → ((f : CompareFault) × (r ≡ Err f) × (f ≡ e)) → P (Err e) → P r
handed P r e p why = subst P (sym (p.1 ∙ ap (λ x. Err x) p.2)) why
