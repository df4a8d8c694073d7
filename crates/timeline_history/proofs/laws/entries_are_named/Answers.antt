use Rattle.timeline_history.proofs.LineLemmas.{names_what_it_reads, reads_what_it_names}
use Rattle.timeline_history.proofs.laws.entries_are_named.Goals as goal

pub returns : goal.returns
returns c = λ line entry. (names_what_it_reads line entry, reads_what_it_names line entry)
