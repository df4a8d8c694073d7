use Rattle.std.proofs.Common.{◌∙◌, ap, map, string_bytes, take}
use Rattle.cluster_tree.proofs.PartLemmas.{front_parts}
use Rattle.cluster_tree.proofs.OrderLemmas.{same_path}
use Rattle.cluster_tree.proofs.path.Path.front.Goals as goal

pub invariant_of-result : goal.invariant_of-result
invariant_of-result c = front_parts _ _ c.args.parts (c.in_ok-first_parts.ensures ∙ ap (λ l. take c.args.parts (map string_bytes l)) c.deref.ensures.value) c.self.invariant

pub returns : goal.returns
returns c = same_path _ _ (ap (λ p. p.absolute) c.self.view_is) (c.in_ok-first_parts.ensures ∙ ap (λ l. take c.args.parts (map string_bytes l)) c.deref.ensures.value ∙ ap (λ p. take c.args.parts p.parts) c.self.view_is)
