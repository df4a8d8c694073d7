use Rattle.std.proofs.Common.{◌∙◌, sym}
use Rattle.cluster_tree.proofs.TextLemmas.{texts_same, same_texts}
use Rattle.cluster_tree.proofs.path.same_parts.Goals as goal

pub returns : goal.returns
returns c = (λ yes. texts_same _ _ (sym c.eq.ensures ∙ yes), λ same. c.eq.ensures ∙ same_texts _ _ same)
