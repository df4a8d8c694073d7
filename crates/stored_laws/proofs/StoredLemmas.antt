-- What is read from the mark that stops left is the plan of the rewind that was stopped.
use Rattle.std.proofs.Common.{◌≡◌, ℕ, ◌<◌, List, length, None, Some, Ok, option_map, refl, sym, ap, ap₂, ◌∙◌, subst, arith}
use Rattle.cluster_tree.specs.Causes.{given, unless}
use Rattle.cluster_tree.specs.Contents.{Contents}
use Rattle.cluster_tree.specs.PathValue.{PathValue}
use Rattle.cluster_tree.specs.Tree.{bytes_in}
use Rattle.control_file.specs.declared.control.Control.{Control}
use Rattle.clusters.specs.Marks.{unfinished}
use Rattle.clusters.specs.RootControl.{control_at}
use Rattle.gated_marks.proofs.ByteLemmas.{whole-read}
use Rattle.rewind_writes.specs.Plan.{mark_bytes, mark_gate, mark_head}
use Rattle.plan_text.specs.Reading.{said_of}
use Rattle.plan_text.specs.Text.{Saying, plan_text}
use Rattle.plan_text.proofs.WrittenLemmas.{all_read}
use Rattle.resumed_laws.specs.Between.{IsBetween}
use Rattle.resumed_laws.specs.Sound.{with_whole_mark}
use Rattle.rewind_core.specs.Fits.{IsPlanFor}
use Rattle.rewind_core.specs.Planned.{Needing}
use Rattle.rewind_core.specs.Text.{saying, sum_at}
use Rattle.rewind_core.specs.declared.outcome.Plan.{Plan}
use Rattle.resume_core.specs.Faults.{of_cluster, told_by}
use Rattle.resume_core.specs.Marks.{mark_at}
use Rattle.resume_core.specs.Source.{source_difference}
use Rattle.resume_core.specs.Stored.{found_in, held_to, or_bad, plan_in, stored_of, with_source}
use Rattle.resume_core.specs.declared.fault.ResumeFault.TheVariants as fault
use Rattle.stored_laws.specs.Laws.{StoppedRewindsAreStored}
use Rattle.stored_laws.proofs.AimLemmas.{needed-aimed}
use Rattle.stored_laws.proofs.LeftLemmas.{mark-stays, stopped-between}
use Rattle.stored_laws.proofs.MarkLemmas.{target-marked}
use Rattle.stored_laws.proofs.SourceLemmas.{control-stays, source-finished, source-same}

-- ---- where nothing refuses

plan-read : (target source : PathValue) (text : List ℕ) (said : Saying) → said_of target source text ≡ Ok said → plan_in target source (mark_bytes text) ≡ Ok said
plan-read target source text said read =
    ap (λ t. or_bad target (said_of target source t)) (whole-read mark_head mark_gate text (omega arith)).read ∙ ap (or_bad target) read

source-held : (c : Contents) (source : PathValue) (control : Control) (said : Saying) → control_at c source ≡ Ok control → source_difference c source said ≡ None → with_source c source said ≡ Ok said
source-held c source control said read none =
    ap (λ r. given (told_by r) (λ control. held_to c source said)) read ∙ ap (λ o. unless (option_map fault.SourceDiffers o) (Ok said)) none

stored-by : (c : Contents) (target source : PathValue) (text : List ℕ) (control : Control) (said : Saying) → mark_at c target ≡ Ok (Some (mark_bytes text)) → unfinished c source ≡ None → said_of target source text ≡ Ok said
    → control_at c source ≡ Ok control → source_difference c source said ≡ None → stored_of c target source ≡ Ok (Some said)
stored-by c target source text control said marked finished read there same =
    ap₂ (λ r o. given (told_by r) (λ bytes. unless (option_map of_cluster o) (found_in c target source bytes))) marked finished
    ∙ ap (λ r. given (given r (with_source c source)) (λ plan. Ok (Some plan))) (plan-read target source text said read)
    ∙ ap (λ r. given r (λ plan. Ok (Some plan))) (source-held c source control said there same)

-- ---- of a rewind that was stopped

-- at the roots that were given
module _ (c i : Contents) (n : Needing) (plan : Plan) (for : IsPlanFor c n plan) (between : IsBetween (with_whole_mark c plan.text plan.writes) plan.writes i) (target source : PathValue) (target_is : n.aim.between.target ≡ target) (source_is : n.aim.between.source ≡ source) where
  abbrev said : Saying
  said = saying (sum_at c source) plan

  text-is : plan.text ≡ plan_text target said
  text-is = for.text ∙ ap₂ (λ t s. plan_text t (saying (sum_at c s) plan)) target_is source_is

  marked : length mark_head < length (mark_bytes plan.text) → mark_at i target ≡ Ok (Some (mark_bytes plan.text))
  marked more =
      subst (λ root. mark_at i root ≡ Ok (Some (mark_bytes plan.text))) target_is
      (target-marked c i plan.text n.aim.between n.pairs n.aim.control n.aim.label plan.writes for.sides for.writes between more)

  finished : unfinished i source ≡ None
  finished = subst (λ root. unfinished i root ≡ None) source_is (source-finished c i plan.text n.aim.between n.pairs n.aim.control n.aim.label plan.writes for.sides for.writes between)

  control-is : control_at i source ≡ control_at c source
  control-is = subst (λ root. control_at i root ≡ control_at c root) source_is (control-stays c i plan.text n.aim.between n.pairs n.aim.control n.aim.label plan.writes for.sides for.writes between)

  same : source_difference i source said ≡ None
  same =
      subst (λ root. source_difference i root said ≡ None) source_is
      (source-same c i plan.text n.aim.between n.pairs n.aim.control n.aim.label plan.writes for.sides for.writes between said (ap (sum_at c) (sym source_is)) refl)

pub stopped-stored : StoppedRewindsAreStored
stopped-stored c target source now n plan i stop =
    let for = stop.for in
    let aimed = needed-aimed c target source now n stop.needed in
    let between = stopped-between c i plan.text n.aim.between n.pairs n.aim.control n.aim.label plan.writes for.sides for.writes stop.left stop.complete in
    let more : length mark_head < length (mark_bytes plan.text) = subst (λ bytes. length mark_head < length bytes) (ap bytes_in (mark-stays c i plan.text n.aim.between n.pairs n.aim.control n.aim.label plan.writes for.sides for.writes between)) stop.complete.longer in
    stored-by i target source plan.text aimed.control (saying (sum_at c source) plan)
    (marked c i n plan for between target source aimed.target_is aimed.source_is more)
    (finished c i n plan for between target source aimed.target_is aimed.source_is)
    (ap (said_of target source) (text-is c i n plan for between target source aimed.target_is aimed.source_is) ∙ all_read target source _ stop.said)
    (control-is c i n plan for between target source aimed.target_is aimed.source_is ∙ aimed.control_is)
    (same c i n plan for between target source aimed.target_is aimed.source_is)
