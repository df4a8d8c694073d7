use Rattle.restarted_laws.proofs.UnchangedLemmas.{block-again}
use Rattle.restarted_laws.proofs.unchanged.unchanged_first_are_again.Goals as goal

pub returns : goal.returns
returns c = λ custom root other per_file records w x least both begins other_begins keeps. record {
  begins = begins;
  other_begins = other_begins;
  blocks = block-again custom root other per_file records w x least both keeps;
}
