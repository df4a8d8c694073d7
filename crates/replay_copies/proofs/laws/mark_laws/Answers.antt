use Rattle.replay_copies.proofs.TellLemmas.{ended-told, laid-stands, laid-told, shut-not_begun, standing-told}
use Rattle.replay_copies.proofs.laws.mark_laws.Goals as goal

pub returns-clause-laid : goal.returns-clause-laid
returns-clause-laid c = laid-told

pub returns-clause-stands : goal.returns-clause-stands
returns-clause-stands c = laid-stands

pub returns-clause-standing : goal.returns-clause-standing
returns-clause-standing c = standing-told

pub returns-clause-ended : goal.returns-clause-ended
returns-clause-ended c = ended-told

pub returns-clause-shut : goal.returns-clause-shut
returns-clause-shut c = shut-not_begun
