use Rattle.std.proofs.Common.{◌∙◌}
use Rattle.stored_replay.proofs.ShadowLemmas.{copy_is, number_admitted}
use Rattle.stored_replay.proofs.shadows.shadow_path.Goals as goal

pub below-requires : goal.below-requires
below-requires c = record {
  room = number_admitted c.args.root.now c.in_ok-folder.folder c.args.number c.deref.result.now c.ranges.number.fits c.in_ok-folder.ensures.value (c.deref.ensures ∙ c.in_ok-name.ensures.ok) c.requires.room;
}

pub returns : goal.returns
returns c = record {
  value = copy_is c.args.root.now c.in_ok-folder.folder c.args.number c.deref.result.now c.ranges.number.fits c.in_ok-folder.ensures.value (c.deref.ensures ∙ c.in_ok-name.ensures.ok) c.in_ok-path.path c.in_ok-path.ensures;
}
