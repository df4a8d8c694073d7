-- What is seen of a kind.
use Rattle.std.proofs.Common.{ap, subst, sym, ◌∙◌}
use Rattle.cluster_tree.specs.Causes.{Meets}
use Rattle.cluster_tree.specs.Tree.{HasFailed, kind_of}
use Rattle.areas_alone.specs.Shown.{entry-elsewhere}
use Rattle.areas_alone.proofs.ShownLemmas.{kind-here}
use Rattle.areas_alone.proofs.alone.AreasAloneTree.kind.Goals as goal

pub returns-then-lies_elsewhere-clause-answer : goal.returns-then-lies_elsewhere-clause-answer
returns-then-lies_elsewhere-clause-answer g c tells = ap kind_of (entry-elsewhere _ _ _ (sym c.lies_elsewhere.ensures ∙ c.if-lies_elsewhere.true))

pub returns-clause-answer : goal.returns-clause-answer
returns-clause-answer g c tells = subst (λ m. Meets HasFailed m c.kind.result) (sym (kind-here _ _ _ (sym c.lies_elsewhere.ensures ∙ c.if-lies_elsewhere.false))) (c.kind.ensures.answer tells)
