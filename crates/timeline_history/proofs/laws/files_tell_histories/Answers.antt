use Rattle.timeline_history.proofs.FaultLemmas.{told_only, told_where, refused_only, refused_where}
use Rattle.timeline_history.proofs.laws.files_tell_histories.Goals as goal

pub returns-clause-told : goal.returns-clause-told
returns-clause-told c = λ tli bytes spans. (told_only tli bytes spans, told_where tli bytes spans)

pub returns-clause-refused : goal.returns-clause-refused
returns-clause-refused c = λ tli bytes fault. (refused_only tli bytes fault, refused_where tli bytes fault)
