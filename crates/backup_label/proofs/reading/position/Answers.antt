use Rattle.timeline_history.proofs.FieldLemmas.{no_position}
use Rattle.backup_label.proofs.reading.position.Goals as goal

pub returns-in-Err : goal.returns-in-Err
returns-in-Err c = no_position c.args.text.now c.in-Err.ensures.cases.0
