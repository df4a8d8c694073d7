-- What pg_walcompare does. Own: "Commands of this project's own", "What a comparison of clusters shows", "The line of a cause".
use Rattle.std.specs.Prelude.{◌≡◌, ◌⊎◌, ℕ, List, [], ◌∷◌, codes, Result, Ok, Err}
use Rattle.cluster_tree.specs.Contents.{Contents}
use Rattle.control_file.specs.declared.control.Control.{Control}
use Rattle.clusters.specs.RootControl.{control_at}
use Rattle.cluster_compare.specs.Compared.{compared}
use Rattle.cluster_compare.specs.Same.{IsSameCluster}
use Rattle.cluster_compare.specs.declared.compared.Compared.{Compared}
use Rattle.cluster_compare.specs.declared.compared.Compared.TheVariants as compared
use Rattle.cluster_compare.specs.declared.fault.CompareFault.{CompareFault}
use Rattle.cluster_compare.specs.declared.fault.CompareFault.TheVariants as fault
use Rattle.commands.specs.declared.walcompare.WalcompareWords.{WalcompareWords}
use Rattle.acts.specs.Acts.{Print}
use Rattle.run_acts.specs.Answers.{Answer, refused, does}
use Rattle.run_acts.specs.Causes.{IsOfLook}
use Rattle.run_acts.specs.declared.cause.Cause.{Cause}
use Rattle.run_acts.specs.declared.cause.Cause.TheVariants as cause
use Rattle.cluster_causes.specs.Clusters.{cluster_cause}
use Rattle.cluster_causes.specs.Walks.{file_cause, walk_cause}

unfoldable pub no_difference : List ℕ
no_difference = codes "pg_walcompare: no difference\n"

-- the cause of a fault of a comparison
abbrev pub compare_cause : CompareFault → Cause
compare_cause (fault.Cluster e) = cluster_cause e
compare_cause (fault.Walk e) = walk_cause e
compare_cause (fault.File e) = file_cause e

-- the line that there is no difference, or as a refusal where the clusters differ
abbrev pub verdict_answer : Compared → Answer
verdict_answer compared.Same = does (Print no_difference ∷ [])
verdict_answer (compared.Differs path block) = refused (cause.Differs path block)

-- that, or why the clusters aren't compared
abbrev pub compared_answer : Result Compared CompareFault → Answer
compared_answer (Ok verdict) = verdict_answer verdict
compared_answer (Err e) = refused (compare_cause e)

-- what is done about two clusters
abbrev pub walcompare_answer : Contents → WalcompareWords → Answer
walcompare_answer c words = compared_answer (compared c words.first words.second)

-- over every tree: the one line on standard output, or a refusal
abbrev pub IsWalcompare : Answer → Type 0
IsWalcompare answer = (answer ≡ does (Print no_difference ∷ [])) ⊎ ((e : Cause) × IsOfLook e × (answer ≡ refused e))

-- the clusters are the same, with as many blocks in a file as the first one's control file says
abbrev pub AreSame : Contents → WalcompareWords → Type 0
AreSame c words = (control : Control) × (control_at c words.first ≡ Ok control) × IsSameCluster control.relseg c words.first c words.second
