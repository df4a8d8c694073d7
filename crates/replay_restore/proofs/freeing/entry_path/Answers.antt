use Rattle.std.proofs.Common.{◌∙◌, length, ap, arith}
use Rattle.cluster_tree.specs.PathValue.{below}
use Rattle.cluster_tree.proofs.PartLemmas.{part_kept, part_admitted}
use Rattle.replay_restore.proofs.freeing.entry_path.Goals as goal

pub below-requires : goal.below-requires
below-requires c = record { room = part_admitted (length c.args.folder.now.parts) c.args.name.now (omega (arith, c.len.ensures.deepest)) c.requires.part }

pub returns-clause-value : goal.returns-clause-value
returns-clause-value c = c.in_ok-path.ensures ∙ ap (below c.args.folder.now) (part_kept c.args.name.now c.requires.part)
