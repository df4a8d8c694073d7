-- The forms of what pg_walcompare does.
use Rattle.std.proofs.Common.{inl, inr, refl, Bool, true, false, List, Option, None, Some, option_map, Result, Ok, Err, IfErr}
use Rattle.std.specs.Prelude.{cond}
use Rattle.cluster_tree.specs.Causes.{given, unless}
use Rattle.cluster_tree.specs.Contents.{Contents, entry_at, is_folder}
use Rattle.cluster_tree.specs.PathValue.{PathValue}
use Rattle.cluster_tree.specs.declared.file_fault.FileFault.TheVariants as file
use Rattle.clusters.specs.Marks.{unfinished}
use Rattle.clusters.specs.RootControl.{control_at}
use Rattle.clusters.specs.declared.fault.ClusterFault.{ClusterFault}
use Rattle.file_walk.specs.Walk.{walk_of}
use Rattle.file_walk.specs.declared.entry.Entry.{Entry as Walked}
use Rattle.file_walk.specs.declared.fault.WalkFault.{WalkFault}
use Rattle.cluster_compare.specs.Compared.{compared, folder_refusal, of_cluster, of_walk}
use Rattle.cluster_compare.specs.declared.compared.Compared.{Compared}
use Rattle.cluster_compare.specs.declared.compared.Compared.TheVariants as compared
use Rattle.cluster_compare.specs.declared.fault.CompareFault.{CompareFault}
use Rattle.cluster_compare.specs.declared.fault.CompareFault.TheVariants as fault
use Rattle.commands.specs.declared.walcompare.WalcompareWords.{WalcompareWords}
use Rattle.run_acts.proofs.AnswerSteps.{Looks}
use Rattle.run_acts.specs.Causes.{IsOfLook}
use Rattle.run_acts.specs.declared.cause.Cause.TheVariants as cause
use Rattle.cluster_causes.proofs.CauseLemmas.{cluster_looks}
use Rattle.cluster_causes.proofs.WalkLemmas.{WalkLooks, walk_looks}
use Rattle.cmd_walcompare.specs.Walcompare.{IsWalcompare, compare_cause, compared_answer, walcompare_answer}

-- a refusal comes while the command looks
abbrev IsLook : CompareFault → Type 0
IsLook e = IsOfLook (compare_cause e)

-- if there is one
abbrev MayLook : Option CompareFault → Type 0
MayLook None = Unit {0}
MayLook (Some e) = IsLook e

abbrev Looked : {A : Type 0} → Result A CompareFault → Type 0
Looked r = IfErr r IsLook

looked-unless : {A : Type 0} (o : Option CompareFault) (r : Result A CompareFault) → MayLook o → Looked r → Looked (unless o r)
looked-unless None r looks rest = rest
looked-unless (Some e) r looks rest = looks

looked-given : {A B : Type 0} (r : Result A CompareFault) (k : A → Result B CompareFault) → Looked r → ((v : A) → Looked (k v)) → Looked (given r k)
looked-given (Ok v) k looks rest = rest v
looked-given (Err e) k looks rest = looks

marks-look : (o : Option ClusterFault) → MayLook (option_map fault.Cluster o)
marks-look None = tt
marks-look (Some e) = cluster_looks e

cluster-looks : {A : Type 0} (r : Result A ClusterFault) → Looked (of_cluster r)
cluster-looks (Ok v) = tt
cluster-looks (Err e) = cluster_looks e

walked-looks : (r : Result (List Walked) WalkFault) → WalkLooks r → Looked (of_walk r)
walked-looks (Ok v) looks = tt
walked-looks (Err e) looks = looks

folder-looks : (c : Contents) (root : PathValue) → MayLook (folder_refusal c root)
folder-looks c root = by (is_folder (entry_at c root))
  where
    by : (b : Bool) → MayLook (cond b None (Some (fault.File (file.NotFolder root))))
    by true = tt
    by false = inr (inr refl)

compared-looks : (c : Contents) (first second : PathValue) → Looked (compared c first second)
unfolding compared
compared-looks c first second =
    looked-unless (option_map fault.Cluster (unfinished c first)) _ (marks-look (unfinished c first))
    (looked-unless (option_map fault.Cluster (unfinished c second)) _ (marks-look (unfinished c second))
    (looked-given (of_cluster (control_at c first)) _ (cluster-looks (control_at c first)) (λ control.
    looked-unless (folder_refusal c second) _ (folder-looks c second)
    (looked-given (of_walk (walk_of c first)) _ (walked-looks (walk_of c first) (walk_looks c first)) (λ found.
    looked-given (of_walk (walk_of c second)) _ (walked-looks (walk_of c second) (walk_looks c second)) (λ there. tt))))))

form_of : (r : Result Compared CompareFault) → Looked r → IsWalcompare (compared_answer r)
form_of (Ok compared.Same) looks = inl refl
form_of (Ok (compared.Differs path block)) looks = inr (cause.Differs path block, inr (inr refl), refl)
form_of (Err e) looks = inr (compare_cause e, looks, refl)

pub answer-form : (c : Contents) (words : WalcompareWords) → IsWalcompare (walcompare_answer c words)
answer-form c words = form_of (compared c words.first words.second) (compared-looks c words.first words.second)

looks_of : (r : Result Compared CompareFault) → Looks ((compared_answer r).acts)
looks_of (Ok compared.Same) = tt
looks_of (Ok (compared.Differs path block)) = tt
looks_of (Err e) = tt

pub answer-looks : (c : Contents) (words : WalcompareWords) → Looks ((walcompare_answer c words).acts)
answer-looks c words = looks_of (compared c words.first words.second)
