use Rattle.restarted_laws.proofs.AgainLemmas.{log-ends}
use Rattle.restarted_laws.proofs.EndLemmas.{before-log}
use Rattle.restarted_laws.proofs.FileLemmas.{log-files}
use Rattle.restarted_laws.proofs.files.records_end_with_same_files.Goals as goal

pub returns : goal.returns
returns g = λ custom sound start records root other per_file w x taken alike again whole same.
    log-files custom sound root other per_file again.begins.some start records w x taken alike whole same
    (log-ends custom sound root other per_file again.begins.some start records w x taken (before-log custom sound root other per_file again.begins.some records w x alike again))
