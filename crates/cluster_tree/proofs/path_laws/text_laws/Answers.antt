use Rattle.cluster_tree.proofs.PartLemmas.{read_back, told_by_text}
use Rattle.cluster_tree.proofs.path_laws.text_laws.Goals as goal

pub returns-clause-back : goal.returns-clause-back
returns-clause-back c = read_back

pub returns-clause-told : goal.returns-clause-told
returns-clause-told c = told_by_text
