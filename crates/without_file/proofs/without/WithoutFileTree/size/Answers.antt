-- What is seen of a size.
use Rattle.without_file.proofs.SeenLemmas.{size-answer}
use Rattle.without_file.proofs.without.WithoutFileTree.size.Goals as goal

pub returns-clause-answer : goal.returns-clause-answer
returns-clause-answer g c tells = size-answer _ _ _ c.args.self.now.deep c.are_same.result c.are_same.ensures c.size-found.result c.unseen.result (c.size-found.ensures.answer tells) c.unseen.ensures
