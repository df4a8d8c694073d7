-- What is seen of a kind.
use Rattle.without_file.proofs.SeenLemmas.{kind-answer}
use Rattle.without_file.proofs.without.WithoutFileTree.kind.Goals as goal

pub returns-clause-answer : goal.returns-clause-answer
returns-clause-answer g c tells = kind-answer _ _ _ c.args.self.now.deep c.are_same.result c.are_same.ensures c.kind-found.result c.seen_kind.result (c.kind-found.ensures.answer tells) c.seen_kind.ensures
