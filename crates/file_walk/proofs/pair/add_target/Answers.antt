use Rattle.std.proofs.Common.{ℕ, List, Global, string_bytes, refl, ap, sym, subst, ◌∙◌}
use Rattle.std.specs.BTreeMap.{insert_entry}
use Rattle.std.specs.FinMap.{insert}
use Rattle.std.specs.String.{string_cmp}
use Rattle.file_walk.specs.Listed.{by_text}
use Rattle.file_walk.specs.Merging.{IsMerged, of_target}
use Rattle.file_walk.proofs.MergeLemmas.{put_merged}
use Rattle.file_walk.proofs.QueueLemmas.{text_cmp, put_by_text}
use Rattle.file_walk.proofs.pair.add_target.Goals as goal

pub returns : goal.returns
returns c =
    let entry = c.args.listed.entry in
    let old = by_text (string_bytes {Z = Global}) c.args.pairs.now.entries in
    record {
      added = λ m merged.
          subst (IsMerged (insert m entry.path (of_target entry)))
          (sym (ap (by_text (string_bytes {Z = Global})) c.in_ok-insert.ensures.entries
          ∙ put_by_text (string_bytes {Z = Global}) string_cmp (λ s t. refl) c.args.pairs.now.entries c.args.listed.text (of_target entry)
          ∙ ap (λ (t : List ℕ). insert_entry text_cmp old t (of_target entry)) c.requires.listed.told))
          (put_merged m old entry.path (of_target entry) merged c.requires.listed.relative);
    }
