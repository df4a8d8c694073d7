-- What is seen of bytes.
use Rattle.std.proofs.Common.{ap, inr, length, subst, sym, ◌∙◌}
use Rattle.cluster_tree.specs.Causes.{MeetsInto}
use Rattle.cluster_tree.specs.Tree.{HasFailed, file_of, range_of}
use Rattle.areas_alone.specs.Shown.{entry-elsewhere}
use Rattle.areas_alone.proofs.ShownLemmas.{file-here}
use Rattle.areas_alone.proofs.alone.AreasAloneTree.read_at.Goals as goal

pub returns-then-lies_elsewhere-clause-answer : goal.returns-then-lies_elsewhere-clause-answer
returns-then-lies_elsewhere-clause-answer g c tells = inr (ap (λ o. range_of (file_of o) c.args.at (length c.args.into.now)) (entry-elsewhere _ _ _ (sym c.lies_elsewhere.ensures ∙ c.if-lies_elsewhere.true)))

pub returns-clause-answer : goal.returns-clause-answer
returns-clause-answer g c tells = subst (λ f. MeetsInto HasFailed (range_of f c.args.at (length c.args.into.now)) c.read_at.new.into c.read_at.result) (sym (file-here _ _ _ (sym c.lies_elsewhere.ensures ∙ c.if-lies_elsewhere.false))) (c.read_at.ensures.answer tells)
