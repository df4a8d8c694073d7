-- What a stop may leave of a rewind, and of one that is resumed.
use Rattle.std.proofs.Common.{◌≡◌, List, ◌++◌, map, inl, refl}
use Rattle.cluster_tree.specs.Change.{Change, all_changed, call_of}
use Rattle.cluster_tree.specs.Contents.{Contents}
use Rattle.cluster_tree.specs.Joined.{joined_writes}
use Rattle.cluster_tree.specs.declared.tree.ChangeCall.{ChangeCall}
use Rattle.cluster_tree.proofs.Images.{Each, KeptBy}
use Rattle.rewind_writes.specs.Plan.{body_changes, closing_changes}
use Rattle.rewind_writes.specs.Steps.{steps_changes}
use Rattle.rewind_writes.specs.declared.plan.Plan.{Plan}
use Rattle.resumed_laws.specs.Between.{IsBetween}
use Rattle.resumed_laws.specs.Resumed.{resumed_body, resumed_closing, resumed_steps}
use Rattle.resumed_laws.specs.Sound.{IsPlanSound}
use Rattle.resumed_laws.specs.Stopped.{IsStopped}
use Rattle.resumed_laws.proofs.GroupLemmas.{Known, Mays, all-known, closing-may, mays-both, resumed_closing-may, resumed_steps-may, steps-may}
use Rattle.resumed_laws.proofs.KeptLemmas.{may-kept}
use Rattle.resumed_laws.proofs.May.{May}
use Rattle.resumed_laws.proofs.MayLemmas.{each-kept, image-keeps, made-may}

module _ (found c : Contents) (plan : Plan) (sound : IsPlanSound found c plan) where
  known : Each (Known plan.steps.items plan.label plan.control) plan.steps.items
  known = all-known plan.steps.items plan.label plan.control sound.groups.label sound.groups.control sound.groups.grouped sound.groups.proper

  pub body-may : Mays plan.steps.items plan.label plan.control (body_changes found plan)
  body-may = mays-both plan.steps.items plan.label plan.control (steps_changes found plan.steps.items) (closing_changes plan.label plan.control)
      (steps-may plan.steps.items plan.label plan.control found plan.steps.items known) (closing-may plan.steps.items plan.label plan.control sound.groups.apart)

  pub resumed_body-may : (i : Contents) → Mays plan.steps.items plan.label plan.control (resumed_body i plan)
  resumed_body-may i =
      let end : Contents = all_changed i (resumed_steps i plan.steps.items) in
      mays-both plan.steps.items plan.label plan.control (resumed_steps i plan.steps.items) (resumed_closing end plan.label plan.control)
      (resumed_steps-may plan.steps.items plan.label plan.control i plan.steps.items known) (resumed_closing-may plan.steps.items plan.label plan.control end sound.groups.apart)

  -- calls that were made of such changes keep it between its start and its end
  pub made-keep : (made rest : List ChangeCall) (changes : List Change) → joined_writes (made ++ rest) ≡ joined_writes (map call_of changes) → Mays plan.steps.items plan.label plan.control changes → Each (KeptBy (IsBetween c plan)) made
  made-keep made rest changes joins may =
      each-kept (May plan.steps.items plan.label plan.control) (IsBetween c plan) made (may-kept c plan.steps.items plan.label plan.control)
      (made-may plan.steps.items plan.label plan.control made rest (map call_of changes) joins may)

  pub stops-between : (i : Contents) → IsStopped c (body_changes found plan) i → IsBetween c plan i
  stops-between i stop = image-keeps (IsBetween c plan) c i stop.made (λ p. inl refl) (made-keep stop.made stop.rest (body_changes found plan) stop.joins body-may) stop.image

  pub resumed_stops-between : (i d : Contents) → IsBetween c plan i → IsStopped i (resumed_body i plan) d → IsBetween c plan d
  resumed_stops-between i d between stop = image-keeps (IsBetween c plan) i d stop.made between (made-keep stop.made stop.rest (resumed_body i plan) stop.joins (resumed_body-may i)) stop.image
