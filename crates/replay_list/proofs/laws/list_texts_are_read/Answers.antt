use Rattle.replay_list.proofs.LawLemmas.{all_read}
use Rattle.replay_list.proofs.laws.list_texts_are_read.Goals as goal

pub returns : goal.returns
returns c = all_read
