use Rattle.std.proofs.Common.{◌∙◌, rules, arith}
use Rattle.relation_files.proofs.PathLemmas.{base-room, number-admitted, database-is}
use Rattle.relation_files.proofs.paths.database_folder.Goals as goal

pub below-requires-2 : goal.below-requires-2
below-requires-2 c =
    record { room = number-admitted _ c.args.database c.deref.result.now (omega (arith, base-room c.args.root.now c.in_ok-base.base c.requires.room c.in_ok-base.ensures)) (search rules) (c.deref.ensures ∙ c.in_ok-number.ensures.ok) }

pub returns : goal.returns
returns c =
    record { value = database-is c.args.root.now c.in_ok-base.base c.in_ok-folder.folder c.args.database c.deref.result.now (search rules) c.in_ok-base.ensures (c.deref.ensures ∙ c.in_ok-number.ensures.ok) c.in_ok-folder.ensures }
