use Rattle.gated_marks.proofs.EndLemmas.{end-left}
use Rattle.gated_marks.proofs.ImageLemmas.{runs-left}
use Rattle.gated_marks.proofs.UnderLemmas.{body-under, complete-under, end-told, laid-then, run-safe, under-ended, under-marked}
use Rattle.gated_marks.proofs.laws.gated_laws.Goals as goal

pub returns-clause-images : goal.returns-clause-images
returns-clause-images c = runs-left

pub returns-clause-under : goal.returns-clause-under
returns-clause-under c = body-under

pub returns-clause-ended : goal.returns-clause-ended
returns-clause-ended c = end-left

pub returns-clause-to_end : goal.returns-clause-to_end
returns-clause-to_end c = under-ended

pub returns-clause-joined : goal.returns-clause-joined
returns-clause-joined c = laid-then

pub returns-clause-safe : goal.returns-clause-safe
returns-clause-safe c = run-safe

pub returns-clause-told : goal.returns-clause-told
returns-clause-told c = end-told

pub returns-clause-complete : goal.returns-clause-complete
returns-clause-complete c = complete-under

pub returns-clause-marked : goal.returns-clause-marked
returns-clause-marked c = under-marked
