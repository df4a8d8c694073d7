-- What was planned, and what it leaves. Own: "The plan of a rewind".
use Rattle.std.specs.Prelude.{◌≡◌, ◌⊎◌, ℕ, Bool, List, None, Some, Result, Ok, Err, MatchResult}
use Rattle.cluster_tree.specs.Contents.{Contents, entry_at}
use Rattle.cluster_tree.specs.PathValue.{Holds, PathValue, below}
use Rattle.cluster_tree.specs.Run.{State}
use Rattle.backup_label.specs.declared.label.Label.{Label}
use Rattle.control_file.specs.declared.control.Control.{Control}
use Rattle.file_walk.specs.declared.pair.Pair.{Pair}
use Rattle.marked_runs.specs.Runs.{Runs}
use Rattle.rewound_tree.specs.Rewound.{rewound}
use Rattle.plan_text.specs.Laws.{IsSaid}
use Rattle.plan_text.specs.Text.{plan_text}
use Rattle.rewind_writes.specs.Plan.{plan_changes}
use Rattle.rewind_writes.specs.Steps.{AllAreFit}
use Rattle.rewind_plan.specs.PlanOf.{IsPlanOf, rewinding}
use Rattle.rewind_plan.specs.Planned.{Between}
use Rattle.rewind_plan.specs.Sides.{Sides}
use Rattle.rewind_survey.specs.Faults.{IsFree}
use Rattle.rewind_survey.specs.declared.fault.RewindFault.{RewindFault}
use Rattle.rewind_survey.specs.declared.fault.RewindFault.TheVariants as fault
use Rattle.rewind_core.specs.Planned.{AtFork, Meant, Needing, Needs, OneTimeline}
use Rattle.rewind_core.specs.Text.{saying, sum_at}
use Rattle.rewind_core.specs.declared.outcome.Plan.{Plan}
use Rattle.rewind_core.specs.declared.outcome.Planned.{Planned}
use Rattle.rewind_core.specs.declared.outcome.Planned.TheVariants as planned
use Rattle.rewind_core.specs.declared.outcome.RewindDone.{RewindDone}
use Rattle.rewind_core.specs.declared.outcome.RewindDone.TheVariants as done

-- a plan of just what is needed, made for two clusters that hold it, with its text
pub record IsPlanFor (c : Contents) (n : Needing) (plan : Plan) : Type 0 where
  pub told : plan.told ≡ n.aim.told
  pub text : plan.text ≡ plan_text n.aim.between.target (saying (sum_at c n.aim.between.source) plan)
  pub writes : IsPlanOf n.aim.between n.pairs n.aim.control n.aim.label plan.writes
  pub sides : Sides c n.aim.between n.pairs

-- a plan of any pairs between these two roots
pub record IsPlanBetween (target source : PathValue) (plan : Plan) : Type 0 where
  pub between : Between
  pub pairs : List Pair
  pub control : Control
  pub label : Label
  pub target_is : between.target ≡ target
  pub source_is : between.source ≡ source
  pub writes : IsPlanOf between pairs control label plan.writes

abbrev pub IsMadeBetween : (target source : PathValue) → Planned → Type 0
IsMadeBetween target source planned.SameTimeline = Unit {0}
IsMadeBetween target source (planned.EndsAtFork at) = Unit {0}
IsMadeBetween target source (planned.Needed plan) = IsPlanBetween target source plan

-- what was planned is what is to be done
abbrev pub Fits : Contents → Meant → Planned → Type 0
Fits c OneTimeline planned.SameTimeline = Unit {0}
Fits c OneTimeline (planned.EndsAtFork at) = ⊥
Fits c OneTimeline (planned.Needed plan) = ⊥
Fits c (AtFork fork) planned.SameTimeline = ⊥
Fits c (AtFork fork) (planned.EndsAtFork at) = at ≡ fork
Fits c (AtFork fork) (planned.Needed plan) = ⊥
Fits c (Needs n) planned.SameTimeline = ⊥
Fits c (Needs n) (planned.EndsAtFork at) = ⊥
Fits c (Needs n) (planned.Needed plan) = IsPlanFor c n plan

pub record FitsMeant (c : Contents) (meant : Result Meant RewindFault) (v : Planned) : Type 0 where
  pub meaning : Meant
  pub found : meant ≡ Ok meaning
  pub fits : Fits c meaning v

-- the text of a plan, with the CRC of the source's control file, is read as just that plan
abbrev pub IsSaidIn : Contents → (target source : PathValue) → Plan → Type 0
IsSaidIn c target source plan = IsSaid target source (saying (sum_at c source) plan)

abbrev pub IsSaidPlanned : Contents → (target source : PathValue) → Planned → Type 0
IsSaidPlanned c target source planned.SameTimeline = Unit {0}
IsSaidPlanned c target source (planned.EndsAtFork at) = Unit {0}
IsSaidPlanned c target source (planned.Needed plan) = IsSaidIn c target source plan

-- the same of a rewind that is needed
abbrev pub PlansNeeded : Contents → Result Meant RewindFault → Result Plan RewindFault → Type 0
PlansNeeded c meant result = MatchResult result (λ plan. (n : Needing) × (meant ≡ Ok (Needs n)) × IsPlanFor c n plan) (λ e. IsFree e ⊎ (meant ≡ Err e))

-- the answer is the one that is meant, or a fault of the device, or want of memory
abbrev pub Plans : Contents → Result Meant RewindFault → Result Planned RewindFault → Type 0
Plans c meant result = MatchResult result (FitsMeant c meant) (λ e. IsFree e ⊎ (meant ≡ Err e))

-- the ends of a plan's ranges are numbers of 64 bits
abbrev pub IsFitPlanned : Planned → Type 0
IsFitPlanned planned.SameTimeline = Unit {0}
IsFitPlanned (planned.EndsAtFork at) = Unit {0}
IsFitPlanned (planned.Needed plan) = AllAreFit plan.writes.steps.items

-- the clusters were walked, side by side; below the target's root stands the rewound tree, path by path, and all that lies elsewhere stays
pub record IsRewound (c : Contents) (n : Needing) (c' : Contents) : Type 0 where
  pub sides : Sides c n.aim.between n.pairs
  pub inside : (parts : List (List ℕ)) → entry_at c' (below n.aim.between.target parts) ≡ rewound (rewinding c n.aim.between n.aim.control n.aim.label) parts
  pub elsewhere : (path : PathValue) → (Holds n.aim.between.target path → ⊥) → entry_at c' path ≡ entry_at c path

-- what was done is what was to be done, and then nothing was changed, or the rewound tree stands there
abbrev pub IsDone : Contents → Result Meant RewindFault → RewindDone → Contents → Type 0
IsDone c meant (done.NotNeeded None) c' = (meant ≡ Ok OneTimeline) × (c' ≡ c)
IsDone c meant (done.NotNeeded (Some fork)) c' = (meant ≡ Ok (AtFork fork)) × (c' ≡ c)
IsDone c meant (done.Rewound told) c' = (n : Needing) × (meant ≡ Ok (Needs n)) × (told ≡ n.aim.told) × IsRewound c n c'

-- why it wasn't: what is meant, or a fault of the device, or want of memory
abbrev pub IsCause : Result Meant RewindFault → RewindFault → Type 0
IsCause meant e = IsFree e ⊎ (e ≡ fault.WriteFault) ⊎ (meant ≡ Err e)

-- no changing call was made, or those of a plan of just what is needed were begun in turn
abbrev pub Went : Result Meant RewindFault → (old new : State) → Bool → Type 0
Went meant old new done = (new ≡ old) ⊎ ((n : Needing) × (plan : Plan) × (meant ≡ Ok (Needs n)) × IsPlanFor old.contents n plan
    × Runs (plan_changes old.contents plan.text plan.writes) old.calls new.calls old.contents new.contents done)
