use Rattle.replayed_bytes.proofs.SameLemmas.{files-same}
use Rattle.replayed_bytes.proofs.same.alike_have_same_files.Goals as goal

pub returns : goal.returns
returns g = λ root other per_file c d some both whole versions pages. files-same root other per_file some c d both whole versions pages
