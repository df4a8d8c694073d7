use Rattle.std.proofs.Common.{◌≡◌, true, false, ap, sym, ◌∙◌, ◌||◌}
use Rattle.cluster_tree.specs.Apart.{is_held, overlap}
use Rattle.cluster_tree.proofs.HoldLemmas.{is_held-test}
use Rattle.tool_words.proofs.roots.overlaps.Goals as goal

pub returns-then-first_holds : goal.returns-then-first_holds
unfolding overlap
returns-then-first_holds c =
    let first = c.args.first.now in
    let second = c.args.second.now in
    let here : true ≡ is_held first second = sym c.if-first_holds.true ∙ is_held-test first second _ c.holds-first_holds.ensures in
    c.if-first_holds.true ∙ ap (λ b. b || is_held second first) here

pub returns-else-first_holds : goal.returns-else-first_holds
unfolding overlap
returns-else-first_holds c =
    let first = c.args.first.now in
    let second = c.args.second.now in
    let other : false ≡ is_held first second = sym c.if-first_holds.false ∙ is_held-test first second _ c.holds-first_holds.ensures in
    is_held-test second first _ c.holds-second_holds.ensures ∙ ap (λ b. b || is_held second first) other
