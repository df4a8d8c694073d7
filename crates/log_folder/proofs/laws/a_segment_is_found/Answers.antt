use Rattle.log_folder.proofs.LawLemmas.{segment_found}
use Rattle.log_folder.proofs.laws.a_segment_is_found.Goals as goal

pub returns : goal.returns
returns c = segment_found
