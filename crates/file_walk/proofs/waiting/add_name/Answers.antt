use Rattle.std.proofs.Common.{List, ℕ, Global, string_bytes, refl, ap, ap₂, ◌∙◌}
use Rattle.std.specs.BTreeMap.{insert_entry}
use Rattle.std.specs.Cmp.Lexicographic.{slice_cmp}
use Rattle.std.specs.Ordering.{nat_cmp}
use Rattle.std.specs.String.{string_cmp}
use Rattle.file_walk.specs.declared.waiting.Waiting.{Waiting}
use Rattle.file_walk.specs.Listed.{by_text}
use Rattle.file_walk.proofs.QueueLemmas.{put_by_text}
use Rattle.file_walk.proofs.waiting.add_name.Goals as goal

pub returns-clause-added : goal.returns-clause-added
returns-clause-added c =
    ap (by_text (string_bytes {Z = Global})) c.in_ok-insert.ensures.entries
    ∙ put_by_text (string_bytes {Z = Global}) string_cmp (λ s t. refl) c.args.queue.now.entries c.in_ok-text.text c.in_ok-waiting.waiting
    ∙ ap₂ (λ (t : List ℕ) (w : Waiting). insert_entry (slice_cmp nat_cmp) (by_text (string_bytes {Z = Global}) c.args.queue.now.entries) t w) c.in_ok-text.ensures c.in_ok-waiting.ensures
