use Rattle.std.proofs.Common.{◌≡◌, ◌||◌, true, is_some, ap, ap₂, sym, ◌∙◌}
use Rattle.file_walk.specs.Actions.{action_at}
use Rattle.file_walk.specs.declared.action.Action.TheVariants as action
use Rattle.rewind_plan.specs.Planned.{action_of}
use Rattle.rewind_plan.specs.Room.{makes}
use Rattle.rewind_plan.proofs.RoomLemmas.{removed_there}
use Rattle.rewind_plan.proofs.steps.put_removal.Goals as goal

pub place-requires : goal.place-requires
place-requires c =
    let pair = c.args.pair.now in
    let removed : action_of pair ≡ action.Remove = sym (ap₂ (action_at pair.path) c.as_ref.ensures.value c.as_ref-2.ensures.value) ∙ sym c.decide.ensures.value ∙ c.in-Remove.is in
    let there : is_some pair.target ≡ true = removed_there pair.path pair.target pair.source removed in
    record { room = c.requires.room.target (ap (λ b. b || makes (action_of pair)) there) }
