use Rattle.std.proofs.Common.{ap}
use Rattle.replay_core.proofs.StopLemmas.{mark-found}
use Rattle.cmd_walreplay.specs.Walreplay.{checked_answer}
use Rattle.cmd_walreplay.proofs.laws.mark_laws.Goals as goal

pub returns : goal.returns
returns c = record { refused = λ custom words files marked. ap (checked_answer custom files words) (mark-found custom words.root files marked) }
