use Rattle.std.proofs.Common.{◌≡◌, rules, ◌∙◌, sym, ap, map, string_bytes, true≢false}
use Rattle.cluster_tree.proofs.OrderLemmas.{same_path}
use Rattle.cluster_tree.proofs.PathLemmas.{path_eq-decided}
use Rattle.cluster_tree.proofs.path.Path.is.Goals as goal

pub returns-then-self-absolute-clause-test : goal.returns-then-self-absolute-clause-test
returns-then-self-absolute-clause-test c =
    let mark : c.self.inside.absolute ≡ c.args.absolute = search rules in
    let items = ap (map string_bytes) c.deref.ensures.value in
    path_eq-decided _ _ _
    (λ yes. sym c.self.view_is ∙ same_path _ _ mark (sym items ∙ c.same_parts.ensures.0 yes))
    (λ same. c.same_parts.ensures.1 (items ∙ ap (λ p. p.parts) (c.self.view_is ∙ same)))

pub returns-else-self-absolute-clause-test : goal.returns-else-self-absolute-clause-test
returns-else-self-absolute-clause-test c = path_eq-decided _ _ _
    (λ yes. absurd (true≢false (sym yes ∙ c.if-self-absolute.false)))
    (λ same. let mark : c.self.inside.absolute ≡ c.args.absolute = ap (λ p. p.absolute) (c.self.view_is ∙ same) in search rules)
