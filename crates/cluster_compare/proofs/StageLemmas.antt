-- What a comparison answers, point by point.
use Rattle.std.proofs.Common.{◌≡◌, ◌⊎◌, ℕ, inl, inr, List, Option, None, Some, Result, Ok, Err, option_map, refl, ap, sym, subst, ◌∙◌}
use Rattle.cluster_tree.specs.Causes.{Meets, given, unless}
use Rattle.cluster_tree.specs.Contents.{Contents}
use Rattle.cluster_tree.specs.PathValue.{PathValue}
use Rattle.clusters.specs.Faults.{IsFree as IsFreeOfCluster}
use Rattle.clusters.specs.Marks.{unfinished}
use Rattle.clusters.specs.RootControl.{control_at}
use Rattle.clusters.specs.declared.fault.ClusterFault.{ClusterFault}
use Rattle.control_file.specs.declared.control.Control.{Control}
use Rattle.file_walk.specs.Faults.{IsFree as IsFreeOfWalk}
use Rattle.file_walk.specs.Pairs.{pairs_of}
use Rattle.file_walk.specs.Walk.{walk_of}
use Rattle.file_walk.specs.declared.entry.Entry.{Entry}
use Rattle.file_walk.specs.declared.fault.WalkFault.{WalkFault}
use Rattle.cluster_compare.specs.Compared.{compared, folder_refusal, from_walks, of_cluster, of_walk, verdict}
use Rattle.cluster_compare.specs.Faults.{IsFree}
use Rattle.cluster_compare.specs.declared.compared.Compared.{Compared}
use Rattle.cluster_compare.specs.declared.fault.CompareFault.{CompareFault}
use Rattle.cluster_compare.specs.declared.fault.CompareFault.TheVariants as fault

module _ (c : Contents) (first second : PathValue) where
  abbrev from_folder : Control → Result Compared CompareFault
  from_folder control = unless (folder_refusal c second) (from_walks c control.relseg first second)

  abbrev from_control : Result Control ClusterFault → Result Compared CompareFault
  from_control read = given (of_cluster read) from_folder

  abbrev from_marks : (one other : Option ClusterFault) → Result Compared CompareFault
  from_marks one other = unless (option_map fault.Cluster one) (unless (option_map fault.Cluster other) (from_control (control_at c first)))

  staged : compared c first second ≡ from_marks (unfinished c first) (unfinished c second)
  unfolding compared
  staged = refl

  pub first-marked : (e : ClusterFault) → IsFreeOfCluster e ⊎ (unfinished c first ≡ Some e) → IsFree (fault.Cluster e) ⊎ (compared c first second ≡ Err (fault.Cluster e))
  first-marked e (inl free) = inl free
  first-marked e (inr is) = inr (staged ∙ ap (λ o. from_marks o (unfinished c second)) is)

  module _ (finished : unfinished c first ≡ None) where
    to_second : compared c first second ≡ from_marks None (unfinished c second)
    to_second = staged ∙ ap (λ o. from_marks o (unfinished c second)) finished

    pub second-marked : (e : ClusterFault) → IsFreeOfCluster e ⊎ (unfinished c second ≡ Some e) → IsFree (fault.Cluster e) ⊎ (compared c first second ≡ Err (fault.Cluster e))
    second-marked e (inl free) = inl free
    second-marked e (inr is) = inr (to_second ∙ ap (from_marks None) is)

    module _ (done : unfinished c second ≡ None) where
      to_control : compared c first second ≡ from_control (control_at c first)
      to_control = to_second ∙ ap (from_marks None) done

      pub control-refused : (e : ClusterFault) → IsFreeOfCluster e ⊎ (control_at c first ≡ Err e) → IsFree (fault.Cluster e) ⊎ (compared c first second ≡ Err (fault.Cluster e))
      control-refused e (inl free) = inl free
      control-refused e (inr is) = inr (to_control ∙ ap from_control is)

      module _ (control : Control) (read : control_at c first ≡ Ok control) where
        to_folder : compared c first second ≡ from_folder control
        to_folder = to_control ∙ ap from_control read

        pub folder-refused : (e : CompareFault) → IsFree e ⊎ (folder_refusal c second ≡ Some e) → IsFree e ⊎ (compared c first second ≡ Err e)
        folder-refused e (inl free) = inl free
        folder-refused e (inr is) = inr (to_folder ∙ ap (λ o. unless o (from_walks c control.relseg first second)) is)

        pub went-on : folder_refusal c second ≡ None → (r : Result Compared CompareFault) → Meets IsFree (from_walks c control.relseg first second) r → Meets IsFree (compared c first second) r
        went-on none r meets = subst (λ m. Meets IsFree m r) (sym (to_folder ∙ ap (λ o. unless o (from_walks c control.relseg first second)) none)) meets

-- ---- the walks

module _ (c : Contents) (first second : PathValue) where
  pub first-walk : (n : ℕ) (e : WalkFault) → IsFreeOfWalk e ⊎ (walk_of c first ≡ Err e) → IsFree (fault.Walk e) ⊎ (from_walks c n first second ≡ Err (fault.Walk e))
  first-walk n e (inl free) = inl free
  first-walk n e (inr is) = inr (ap (λ w. given (of_walk w) (λ ts. given (of_walk (walk_of c second)) (λ ss. Ok (verdict c n first second (pairs_of ts ss))))) is)

  module _ (n : ℕ) (ts : List Entry) (walk : walk_of c first ≡ Ok ts) where
    to_other : from_walks c n first second ≡ given (of_walk (walk_of c second)) (λ ss. Ok (verdict c n first second (pairs_of ts ss)))
    to_other = ap (λ w. given (of_walk w) (λ ts. given (of_walk (walk_of c second)) (λ ss. Ok (verdict c n first second (pairs_of ts ss))))) walk

    pub second-walk : (e : WalkFault) → IsFreeOfWalk e ⊎ (walk_of c second ≡ Err e) → IsFree (fault.Walk e) ⊎ (from_walks c n first second ≡ Err (fault.Walk e))
    second-walk e (inl free) = inl free
    second-walk e (inr is) = inr (to_other ∙ ap (λ w. given (of_walk w) (λ ss. Ok (verdict c n first second (pairs_of ts ss)))) is)

    pub both-walked : (ss : List Entry) → walk_of c second ≡ Ok ss → from_walks c n first second ≡ Ok (verdict c n first second (pairs_of ts ss))
    both-walked ss other = to_other ∙ ap (λ w. given (of_walk w) (λ ss. Ok (verdict c n first second (pairs_of ts ss)))) other
