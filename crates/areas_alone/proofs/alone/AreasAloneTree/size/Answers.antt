-- What is seen of a size.
use Rattle.std.proofs.Common.{ap, inr, subst, sym, ◌∙◌}
use Rattle.cluster_tree.specs.Causes.{Meets}
use Rattle.cluster_tree.specs.Tree.{HasFailed, file_of, size_of}
use Rattle.areas_alone.specs.Shown.{entry-elsewhere}
use Rattle.areas_alone.proofs.ShownLemmas.{file-here}
use Rattle.areas_alone.proofs.alone.AreasAloneTree.size.Goals as goal

pub returns-then-lies_elsewhere-clause-answer : goal.returns-then-lies_elsewhere-clause-answer
returns-then-lies_elsewhere-clause-answer g c tells = inr (ap (λ o. size_of (file_of o)) (entry-elsewhere _ _ _ (sym c.lies_elsewhere.ensures ∙ c.if-lies_elsewhere.true)))

pub returns-clause-answer : goal.returns-clause-answer
returns-clause-answer g c tells = subst (λ f. Meets HasFailed (size_of f) c.size.result) (sym (file-here _ _ _ (sym c.lies_elsewhere.ensures ∙ c.if-lies_elsewhere.false))) (c.size.ensures.answer tells)
