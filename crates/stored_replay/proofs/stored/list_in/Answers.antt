use Rattle.std.specs.Prelude.{◌-◌, drop, length, take}
use Rattle.replay_list.proofs.LawLemmas.{all_listed}
use Rattle.stored_replay.proofs.stored.list_in.Goals as goal

pub returns-in-Ok-clause-listed : goal.returns-in-Ok-clause-listed
returns-in-Ok-clause-listed c = all_listed c.args.root.now (take (length c.args.bytes.now - 18) (drop 18 c.args.bytes.now)) c.in-Ok.listed.items c.in-Ok.ensures.said
