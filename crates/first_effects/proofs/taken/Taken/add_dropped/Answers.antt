use Rattle.std.proofs.Common.{◌∙◌, ap, false, sym, ◌||◌, take}
use Rattle.std.specs.List.{list_any, slice_get}
use Rattle.std.specs.Option.{option_map_or}
use Rattle.block_refs.specs.declared.names.RelName.{RelName}
use Rattle.replay_profile.specs.Names.{is_rel}
use Rattle.first_effects.specs.Taken.{is_taken}
use Rattle.first_effects.proofs.PlaceLemmas.{any_more, or_assoc}
use Rattle.first_effects.proofs.taken.Taken.add_dropped.Goals as goal

pub loop-at-preserved : goal.loop-at-preserved
loop-at-preserved c = λ name main.
    let before = is_taken name c.args.self.now in
    let some = list_any (λ (rel : RelName). is_rel rel name.rel) (take c.loop-at.at c.args.rels.now) in
    let next = option_map_or (λ (rel : RelName). is_rel rel name.rel) (slice_get c.args.rels.now c.loop-at.at) false in
    c.in_ok-add_dropped_at.ensures name main ∙ ap (λ b. b || next) (c.loop-at.invariant name main) ∙ sym (or_assoc before some next)
    ∙ ap (λ b. before || b) (sym (any_more (λ (rel : RelName). is_rel rel name.rel) c.args.rels.now c.loop-at.at))
