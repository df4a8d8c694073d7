use Rattle.std.proofs.Common.{List, [], ◌∷◌, Global, string_bytes, ap, sym, subst, ◌∙◌, arith}
use Rattle.std.proofs.lemmas.List.{map-append}
use Rattle.file_walk.specs.declared.entries.Listed.{Listed}
use Rattle.file_walk.specs.declared.entry.Entry.{Entry}
use Rattle.file_walk.specs.Listed.{by_text, entries_in}
use Rattle.file_walk.specs.Merging.{IsMerged, PairMap, with_sources}
use Rattle.file_walk.proofs.EachLemmas.{all_given, one_listed}
use Rattle.file_walk.proofs.MergeLemmas.{no_sources, one_source}
use Rattle.file_walk.proofs.pair.with_source.Goals as goal

pub loop-listed-init : goal.loop-listed-init
loop-listed-init c = λ m merged. subst (λ (n : PairMap). IsMerged n (by_text (string_bytes {Z = Global}) c.args.pairs.now.entries)) (no_sources m) merged

pub add_source-requires : goal.add_source-requires
add_source-requires c = record {
  listed =
      let list = c.into_listed-listed-items in
      one_listed list.result.items c.into_iter-listed-iterator.result c.into_iter-listed-iterator.ensures.into_iter_gives.0 (omega (arith, c.into_iter-listed-iterator.ensures.into_iter_gives.1, list.result.ok.0))
      c.loop-listed.yielded c.loop-listed.listed-iterator c.loop-listed.yielded_by _ c.next.new.self c.in-Some.listed c.in-Some.is c.next.ensures.steps list.ensures.listed;
}

pub loop-listed-preserved : goal.loop-listed-preserved
loop-listed-preserved c = λ m merged.
    subst (λ (n : PairMap). IsMerged n (by_text (string_bytes {Z = Global}) c.add_source.new.pairs.entries))
    (one_source m (entries_in c.loop-listed.yielded) c.in-Some.listed.entry ∙ ap (with_sources m) (sym (map-append (λ (l : Listed). l.entry) c.loop-listed.yielded (c.in-Some.listed ∷ []))))
    (c.in_ok-add_source.ensures.added (with_sources m (entries_in c.loop-listed.yielded)) (c.loop-listed.invariant m merged))

pub returns : goal.returns
returns c = λ m merged.
    let list = c.into_listed-listed-items in
    subst (λ (es : List Entry). IsMerged (with_sources m es) (by_text (string_bytes {Z = Global}) c.loop-listed.pairs.entries))
    (all_given list.result.items c.into_iter-listed-iterator.result c.into_iter-listed-iterator.ensures.into_iter_gives.0 (omega (arith, c.into_iter-listed-iterator.ensures.into_iter_gives.1, list.result.ok.0))
    c.loop-listed.yielded c.loop-listed.listed-iterator c.loop-listed.yielded_by _ c.next.new.self c.in-None.is c.next.ensures.steps ∙ list.ensures.value)
    (c.loop-listed.invariant m merged)
