-- What is seen of bytes.
use Rattle.without_file.proofs.SeenLemmas.{read-answer}
use Rattle.without_file.proofs.without.WithoutFileTree.read_at.Goals as goal

pub returns-clause-answer : goal.returns-clause-answer
returns-clause-answer g c tells = read-answer _ _ _ c.args.self.now.deep c.are_same.result c.are_same.ensures _ _ _ c.read_at-found.result c.unseen.result (c.read_at-found.ensures.answer tells) c.unseen.ensures
