use Rattle.std.proofs.Common.{◌≡◌, [], drop, take}
use Rattle.replay_restore.specs.Loose.{first_loose}
use Rattle.replay_restore.proofs.loose.first_loose.Given as goal

abbrev pub invariant-loop-at : goal.invariant-loop-at
invariant-loop-at l = record {
  rest : first_loose l.root [] l.listed ≡ first_loose l.root (take l.at l.listed) (drop l.at l.listed);
}
