-- Where a comparison shows no difference, the clusters are the same.
use Rattle.std.proofs.Common.{◌≡◌, refl, Option, None, Some, option_map, Result, Ok, Err}
use Rattle.cluster_tree.specs.Causes.{given, unless}
use Rattle.cluster_tree.specs.Contents.{Contents}
use Rattle.clusters.specs.Marks.{unfinished}
use Rattle.clusters.specs.RootControl.{control_at}
use Rattle.clusters.specs.declared.fault.ClusterFault.{ClusterFault}
use Rattle.file_walk.specs.Pairs.{pairs_of}
use Rattle.file_walk.specs.Walk.{HasParts, walk_of}
use Rattle.file_walk.specs.declared.fault.WalkFault.{WalkFault}
use Rattle.cluster_compare.specs.Compared.{compared, folder_refusal, of_cluster, of_walk, verdict}
use Rattle.cluster_compare.specs.declared.compared.Compared.{Compared}
use Rattle.cluster_compare.specs.declared.compared.Compared.TheVariants.{Same}
use Rattle.cluster_compare.specs.declared.fault.CompareFault.{CompareFault}
use Rattle.cluster_compare.specs.declared.fault.CompareFault.TheVariants as fault
use Rattle.cluster_compare.proofs.ExactLemmas.{compared-exactly}
use Rattle.commands.specs.declared.walcompare.WalcompareWords.{WalcompareWords}
use Rattle.cmd_walcompare.specs.Walcompare.{AreSame}

unless-ok : {A E : Type 0} (o : Option E) (r : Result A E) (v : A) → unless o r ≡ Ok v → r ≡ Ok v
unless-ok None r v is = is
unless-ok (Some e) r v is = absurd (cc is)

given-ok : {A B E : Type 0} (r : Result A E) (k : A → Result B E) (v : B) → given r k ≡ Ok v → (a : A) × (r ≡ Ok a) × (k a ≡ Ok v)
given-ok (Ok a) k v is = (a, refl, is)
given-ok (Err e) k v is = absurd (cc is)

cluster-ok : {A : Type 0} (r : Result A ClusterFault) (v : A) → of_cluster r ≡ Ok v → r ≡ Ok v
cluster-ok (Ok a) v is = cc is
cluster-ok (Err e) v is = absurd (cc is)

walk-ok : {A : Type 0} (r : Result A WalkFault) (v : A) → of_walk r ≡ Ok v → r ≡ Ok v
walk-ok (Ok a) v is = cc is
walk-ok (Err e) v is = absurd (cc is)

pub same-compared : (c : Contents) (words : WalcompareWords) → HasParts c words.first → HasParts c words.second → compared c words.first words.second ≡ Ok Same → AreSame c words
unfolding compared
same-compared c words parts others is =
    let first = words.first in
    let second = words.second in
    let unmarked = unless-ok (option_map fault.Cluster (unfinished c first)) _ Same is in
    let unmarked_too = unless-ok (option_map fault.Cluster (unfinished c second)) _ Same unmarked in
    let (control, at, rest) = given-ok (of_cluster (control_at c first)) _ Same unmarked_too in
    let there_is = unless-ok (folder_refusal c second) _ Same rest in
    let (found, walk, rest_2) = given-ok (of_walk (walk_of c first)) _ Same there_is in
    let (there, other, rest_3) = given-ok (of_walk (walk_of c second)) _ Same rest_2 in
    let none : verdict c control.relseg first second (pairs_of found there) ≡ Same = cc rest_3 in (
      control,
      cluster-ok (control_at c first) control at,
      (compared-exactly c control.relseg first second found there parts others (walk-ok (walk_of c first) found walk) (walk-ok (walk_of c second) there other)).0 none,
    )
