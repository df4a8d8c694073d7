use Rattle.std.proofs.Common.{◌≡◌, String, Global, string_bytes, map, rules, ◌∙◌}
use Rattle.std.specs.FinMap.{empty}
use Rattle.file_walk.specs.declared.pair.Pair.{Pair}
use Rattle.file_walk.specs.Merging.{with_sources, with_targets}
use Rattle.file_walk.proofs.MergeLemmas.{kept_values, merged_pairs}
use Rattle.file_walk.proofs.pair.pair_up.Goals as goal

pub returns : goal.returns
returns c = record {
  value = λ t s.
      let got : c.in_ok-collect.field-0.items ≡ map (λ (e : String Global × Pair). e.1) c.with_source.new.pairs.entries = search rules in
      got
      ∙ kept_values (string_bytes {Z = Global}) (with_sources (with_targets empty c.args.target) c.args.source) c.with_source.new.pairs.entries
      (c.in_ok-with_source.ensures (with_targets empty c.args.target) c.in_ok-pairs.ensures)
      ∙ merged_pairs c.args.target c.args.source t s;
}
