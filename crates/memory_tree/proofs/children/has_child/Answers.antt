use Rattle.std.proofs.Common.{◌≡◌, take, arith, ap, sym, ◌∙◌}
use Rattle.std.proofs.lemmas.Grind.{common_steps}
use Rattle.std.proofs.lemmas.List.Folds.{list_any_at}
use Rattle.std.specs.List.{list_any}
use Rattle.cluster_tree.specs.Folders.{lies_in}
use Rattle.memory_tree.proofs.NameLemmas.{keys-contents_of}
use Rattle.memory_tree.proofs.children.has_child.Goals as goal

pub returns-then-is_some : goal.returns-then-is_some
returns-then-is_some c = sym (
    keys-contents_of (lies_in c.args.folder.now) c.args.nodes.now
    ∙ list_any_at (λ placed. lies_in c.args.folder.now placed.path) c.args.nodes.now c.loop-placed.placed-index c.placed-item.result c.loop-placed-test.true
    (rw (← c.placed-item.is) (sym c.name_in.ensures.test ∙ sym c.is_some.ensures ∙ c.if-is_some.true)))

pub returns : goal.returns
returns c =
    let whole : take c.loop-placed.placed-index c.args.nodes.now ≡ c.args.nodes.now = grind (arith, common_steps) in
    sym (keys-contents_of (lies_in c.args.folder.now) c.args.nodes.now ∙ ap (list_any (λ placed. lies_in c.args.folder.now placed.path)) (sym whole) ∙ c.loop-placed.invariant)
