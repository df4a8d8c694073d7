-- What pg_controldata does: PostgreSQL 16 manual, reference page of pg_controldata.
use Rattle.std.specs.Prelude.{◌≡◌, ◌⊎◌, ℕ, List, [], ◌∷◌, Result, Ok, Err}
use Rattle.cluster_tree.specs.Contents.{Contents}
use Rattle.control_file.specs.Text.{control_text_of}
use Rattle.control_file.specs.declared.control.Control.{Control}
use Rattle.clusters.specs.RootControl.{control_at}
use Rattle.clusters.specs.declared.fault.ClusterFault.{ClusterFault}
use Rattle.commands.specs.declared.controldata.ControldataWords.{ControldataWords}
use Rattle.acts.specs.Acts.{Print}
use Rattle.run_acts.specs.Answers.{Answer, refused, does}
use Rattle.run_acts.specs.Causes.{IsOfLook}
use Rattle.run_acts.specs.declared.cause.Cause.{Cause}
use Rattle.cluster_causes.specs.Clusters.{cluster_cause}

-- the text of the control file on standard output, or why it is refused
abbrev pub control_answer : Result Control ClusterFault → Answer
control_answer (Ok control) = does (Print (control_text_of control) ∷ [])
control_answer (Err fault) = refused (cluster_cause fault)

-- what is done about the cluster's control file
abbrev pub controldata_answer : Contents → ControldataWords → Answer
controldata_answer c words = control_answer (control_at c words.root)

-- over every tree: one text on standard output, or a refusal
abbrev pub IsControldata : Answer → Type 0
IsControldata answer = ((text : List ℕ) × (answer ≡ does (Print text ∷ []))) ⊎ ((e : Cause) × IsOfLook e × (answer ≡ refused e))
