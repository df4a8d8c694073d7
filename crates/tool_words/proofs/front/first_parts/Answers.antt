use Rattle.std.proofs.Common.{rules, lit<, ap, ◌∙◌, length}
use Rattle.std.specs.List.{flat_map}
use Rattle.std.proofs.lemmas.Iterator.{YieldsList-from_take}
use Rattle.std.proofs.lemmas.Iterator.Consumers.{YieldsList-at, YieldsList-end, YieldsList-from_filter}
use Rattle.std.proofs.lemmas.Iterator.Splits.{YieldsList-from_str_split}
use borrow.Author.Tests.{tests}
use Rattle.cluster_tree.specs.PathValue.{is_kept, is_rooted, kept_parts, path_of}
use Rattle.cluster_tree.specs.Paths.{checked}
use Rattle.tool_words.specs.Paths.{front_of}
use Rattle.tool_words.proofs.PieceLemmas.{front-again}
use Rattle.tool_words.proofs.FrontLemmas.{next_joins}
use Rattle.tool_words.proofs.front.first_parts.Goals as goal

pub returns : goal.returns
unfolding front_of
returns c =
    let text = c.args.text.now in
    let seen = YieldsList-end
    (YieldsList-at c.into_iter-part-iterator.ensures.into_iter_gives
    (YieldsList-from_take 64
    (YieldsList-at c.take-part-items.ensures.source
    (YieldsList-from_filter _ is_kept
    (YieldsList-at c.filter.ensures.source (YieldsList-from_str_split 47 text (lit< tt) c.split.ensures.text c.split.ensures.has_more c.split.ensures.pattern))
    c.filter.ensures.closure (λ x b q k. search (rules, tests))))
    c.take-part-items.ensures.count))
    c.loop-part.yielded _ c.loop-part.yielded_by _ _ c.in-None.is c.next.ensures.steps in
    c.loop-part.invariant ∙ ap (path_of (is_rooted text)) (ap (flat_map kept_parts) seen.0 ∙ front-again 64 text)

pub below-requires : goal.below-requires
below-requires c =
    let room = next_joins c.args.text.now c.requires
    (YieldsList-at c.into_iter-part-iterator.ensures.into_iter_gives
    (YieldsList-from_take 64
    (YieldsList-at c.take-part-items.ensures.source
    (YieldsList-from_filter _ is_kept
    (YieldsList-at c.filter.ensures.source (YieldsList-from_str_split 47 c.args.text.now (lit< tt) c.split.ensures.text c.split.ensures.has_more c.split.ensures.pattern))
    c.filter.ensures.closure (λ x b q k. search (rules, tests))))
    c.take-part-items.ensures.count))
    c.loop-part.yielded _ c.loop-part.yielded_by _ _ c.in-Some.part c.in-Some.is c.next.ensures.steps in
    record { room = ap (λ p. checked (length p.parts) c.in-Some.part.now) c.loop-part.invariant ∙ room }
