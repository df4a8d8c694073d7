-- The forms of what pg_controldata does.
use Rattle.std.proofs.Common.{inl, inr, refl, Result, Ok, Err}
use Rattle.control_file.specs.Text.{control_text_of}
use Rattle.control_file.specs.declared.control.Control.{Control}
use Rattle.clusters.specs.declared.fault.ClusterFault.{ClusterFault}
use Rattle.run_acts.proofs.AnswerSteps.{Looks}
use Rattle.cluster_causes.specs.Clusters.{cluster_cause}
use Rattle.cluster_causes.proofs.CauseLemmas.{cluster_looks}
use Rattle.cmd_controldata.specs.Controldata.{IsControldata, control_answer}

pub answer-form : (r : Result Control ClusterFault) → IsControldata (control_answer r)
answer-form (Ok control) = inl (control_text_of control, refl)
answer-form (Err fault) = inr (cluster_cause fault, cluster_looks fault, refl)

pub answer-looks : (r : Result Control ClusterFault) → Looks ((control_answer r).acts)
answer-looks (Ok control) = tt
answer-looks (Err fault) = tt
