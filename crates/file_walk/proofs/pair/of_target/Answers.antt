use Rattle.std.proofs.Common.{List, [], ◌∷◌, String, Global, string_bytes, ap, sym, subst, ◌∙◌, arith}
use Rattle.std.proofs.lemmas.List.{map-append}
use Rattle.std.specs.FinMap.{empty}
use Rattle.file_walk.specs.declared.entries.Listed.{Listed}
use Rattle.file_walk.specs.declared.entry.Entry.{Entry}
use Rattle.file_walk.specs.declared.pair.Pair.{Pair}
use Rattle.file_walk.specs.Listed.{by_text, entries_in}
use Rattle.file_walk.specs.Merging.{IsMerged, PairMap, with_targets}
use Rattle.file_walk.proofs.EachLemmas.{all_given, one_listed}
use Rattle.file_walk.proofs.MergeLemmas.{no_targets, none_merged, one_target}
use Rattle.file_walk.proofs.pair.of_target.Goals as goal

pub loop-listed-init : goal.loop-listed-init
loop-listed-init c =
    subst (λ (es : List (String Global × Pair)). IsMerged (with_targets empty []) (by_text (string_bytes {Z = Global}) es)) (sym c.new-pairs.ensures.empty)
    (subst (λ (m : PairMap). IsMerged m []) (no_targets empty) none_merged)

pub add_target-requires : goal.add_target-requires
add_target-requires c = record {
  listed =
      let list = c.into_listed-listed-items in
      one_listed list.result.items c.into_iter-listed-iterator.result c.into_iter-listed-iterator.ensures.into_iter_gives.0 (omega (arith, c.into_iter-listed-iterator.ensures.into_iter_gives.1, list.result.ok.0))
      c.loop-listed.yielded c.loop-listed.listed-iterator c.loop-listed.yielded_by _ c.next.new.self c.in-Some.listed c.in-Some.is c.next.ensures.steps list.ensures.listed;
}

pub loop-listed-preserved : goal.loop-listed-preserved
loop-listed-preserved c =
    subst (λ (m : PairMap). IsMerged m (by_text (string_bytes {Z = Global}) c.add_target.new.pairs.entries))
    (one_target empty (entries_in c.loop-listed.yielded) c.in-Some.listed.entry ∙ ap (with_targets empty) (sym (map-append (λ (l : Listed). l.entry) c.loop-listed.yielded (c.in-Some.listed ∷ []))))
    (c.in_ok-add_target.ensures.added (with_targets empty (entries_in c.loop-listed.yielded)) c.loop-listed.invariant)

pub returns : goal.returns
returns c =
    let list = c.into_listed-listed-items in
    subst (λ (es : List Entry). IsMerged (with_targets empty es) (by_text (string_bytes {Z = Global}) c.loop-listed.pairs.entries))
    (all_given list.result.items c.into_iter-listed-iterator.result c.into_iter-listed-iterator.ensures.into_iter_gives.0 (omega (arith, c.into_iter-listed-iterator.ensures.into_iter_gives.1, list.result.ok.0))
    c.loop-listed.yielded c.loop-listed.listed-iterator c.loop-listed.yielded_by _ c.next.new.self c.in-None.is c.next.ensures.steps ∙ list.ensures.value)
    c.loop-listed.invariant
