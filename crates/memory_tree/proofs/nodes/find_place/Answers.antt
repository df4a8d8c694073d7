use Rattle.std.proofs.Common.{◌≢◌, rules, arith, add-one, sym, ap, ◌∙◌, true≢false, get_or, map, string_bytes, is_some}
use Rattle.std.proofs.lemmas.List.{get_or_default}
use Rattle.std.specs.FinMap.{get-empty}
use Rattle.cluster_tree.specs.PathValue.{path_cmp, path_of}
use Rattle.memory_tree.proofs.NodeLemmas.{found_here, none_more}
use Rattle.memory_tree.proofs.nodes.find_place.Goals as goal

pub loop-i-init : goal.loop-i-init
loop-i-init c = get-empty path_cmp _

pub returns-then-is-clause-entry : goal.returns-then-is-clause-entry
returns-then-is-clause-entry c = λ d. found_here _ _ _ d c.loop-i-test.true c.loop-i.invariant (grind (arith, get_or_default))

pub loop-i-preserved : goal.loop-i-preserved
loop-i-preserved c =
    let other : (get_or c.args.nodes.now c.loop-i.i c.index-nodes-i.result).path ≢ path_of c.args.absolute (map string_bytes c.args.parts.now) =
    λ e. true≢false (sym (c.is.ensures.same.1 e) ∙ c.if-is.false) in
    rw add-one (none_more _ _ _ c.index-nodes-i.result c.loop-i-test.true c.loop-i.invariant other)

pub returns-then-is-clause-there : goal.returns-then-is-clause-there
returns-then-is-clause-there c = ap is_some (found_here _ _ _ c.index-nodes-i.result c.loop-i-test.true c.loop-i.invariant (search rules))
