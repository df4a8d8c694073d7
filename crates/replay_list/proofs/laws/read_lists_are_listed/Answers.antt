use Rattle.replay_list.proofs.LawLemmas.{all_listed, one_text}
use Rattle.replay_list.proofs.laws.read_lists_are_listed.Goals as goal

pub returns-clause-listed : goal.returns-clause-listed
returns-clause-listed c = all_listed

pub returns-clause-text : goal.returns-clause-text
returns-clause-text c = one_text
