use Rattle.plan_text.proofs.WrittenLemmas.{all_read}
use Rattle.plan_text.proofs.laws.plan_texts_are_read.Goals as goal

pub returns : goal.returns
returns c = all_read
