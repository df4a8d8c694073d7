use Rattle.timeline_history.proofs.FieldLemmas.{no_position}
use Rattle.plan_text.proofs.words.position.Goals as goal

pub returns-in-Err : goal.returns-in-Err
returns-in-Err c = no_position c.args.word.now c.in-Err.ensures.cases.0
