use Rattle.file_walk.proofs.RelationLemmas.{relation_read, relation_written}
use Rattle.file_walk.proofs.laws.relation_files_lie_there.Goals as goal

pub returns : goal.returns
returns c = λ path rel segment. (relation_read path rel segment, relation_written path rel segment)
