use Rattle.std.proofs.Common.{arith, rules, ◌∙◌}
use Rattle.clusters.proofs.RoomLemmas.{named_history, room_for_name}
use Rattle.clusters.proofs.history.history_path.Goals as goal

pub below-requires : goal.below-requires
below-requires c = record { room = room_for_name c.in_ok-folder.folder c.args.root.now c.deref.result.now c.args.tli c.in_ok-folder.ensures.is c.requires (c.deref.ensures ∙ c.in_ok-name.ensures) (omega arith) }

pub returns-clause-is : goal.returns-clause-is
returns-clause-is c = named_history c.in_ok-below.field-0 c.in_ok-folder.folder c.args.root.now c.deref.result.now c.args.tli c.in_ok-below.ensures c.in_ok-folder.ensures.is (c.deref.ensures ∙ c.in_ok-name.ensures) (omega arith)
