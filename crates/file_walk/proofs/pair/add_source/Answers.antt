use Rattle.std.proofs.Common.{◌≡◌, ℕ, List, Option, Some, String, Global, string_bytes, refl, ap, sym, subst, ◌∙◌}
use Rattle.std.specs.BTreeMap.{insert_entry}
use Rattle.std.specs.FinMap.{insert, get}
use Rattle.std.specs.Map.{lookup}
use Rattle.std.specs.Ordering.{is_eq}
use Rattle.std.specs.String.{string_cmp}
use Rattle.cluster_tree.specs.PathValue.{path_text}
use Rattle.file_walk.specs.declared.entry.EntryKind.{EntryKind}
use Rattle.file_walk.specs.Listed.{by_text}
use Rattle.file_walk.specs.Merging.{IsMerged, of_source, pair_of, target_in}
use Rattle.file_walk.proofs.MergeLemmas.{look_merged, put_merged}
use Rattle.file_walk.proofs.QueueLemmas.{text_cmp, put_by_text}
use Rattle.file_walk.proofs.pair.add_source.Goals as goal
use Rattle.file_walk.proofs.pair.add_source.Goals.{in-Some, in-None}

pub returns : goal.returns
returns c =
    let entry = c.args.listed.entry in
    let old = by_text (string_bytes {Z = Global}) c.args.pairs.now.entries in
    let text : c.as_str.result.now ≡ path_text entry.path = c.as_str.ensures.value ∙ c.requires.listed.told in
    let had : c.match-get.target ≡ target_in (lookup (λ (s : String Global). is_eq (text_cmp c.as_str.result.now (string_bytes s))) c.args.pairs.now.entries) =
    elim c.match-get.branch [ in-Some w ↦ w.target-is ∙ ap target_in w.in-Some.ensures.value | in-None w ↦ w.target-is ∙ ap target_in w.in-None.ensures.value ] in
    record {
      added = λ m merged.
          let target : c.match-get.target ≡ target_in (get m entry.path) =
          had ∙ ap (λ (t : List ℕ). target_in (lookup (λ (s : String Global). is_eq (text_cmp t (string_bytes s))) c.args.pairs.now.entries)) text
          ∙ ap target_in (look_merged (string_bytes {Z = Global}) m c.args.pairs.now.entries entry.path merged c.requires.listed.relative) in
          subst (IsMerged (insert m entry.path (of_source (get m entry.path) entry)))
          (sym (ap (by_text (string_bytes {Z = Global})) c.in_ok-insert.ensures.entries
          ∙ put_by_text (string_bytes {Z = Global}) string_cmp (λ s t. refl) c.args.pairs.now.entries c.args.listed.text (pair_of entry.path c.match-get.target (Some entry.kind))
          ∙ ap (λ (t : List ℕ). insert_entry text_cmp old t (pair_of entry.path c.match-get.target (Some entry.kind))) c.requires.listed.told
          ∙ ap (λ (t : Option EntryKind). insert_entry text_cmp old (path_text entry.path) (pair_of entry.path t (Some entry.kind))) target))
          (put_merged m old entry.path (of_source (get m entry.path) entry) merged c.requires.listed.relative);
    }
