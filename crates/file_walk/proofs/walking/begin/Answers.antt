use Rattle.std.proofs.Common.{List, [], String, Global, string_bytes, ap, sym, subst, ◌∙◌}
use Rattle.file_walk.specs.declared.waiting.Waiting.{Waiting}
use Rattle.file_walk.specs.Listed.{by_text}
use Rattle.file_walk.specs.Waiting.{AllSound, put_names}
use Rattle.file_walk.proofs.SoundLemmas.{names_sound, root_place, root_proper}
use Rattle.file_walk.proofs.StartLemmas.{begun_with}
use Rattle.file_walk.proofs.walking.begin.Goals as goal

pub add_names-requires-clause-place : goal.add_names-requires-clause-place
add_names-requires-clause-place g c = root_place c.in_ok-place.place c.in_ok-place.ensures.own

pub add_names-requires-clause-proper : goal.add_names-requires-clause-proper
add_names-requires-clause-proper g c = c.in_ok-names.ensures.parts

pub returns-clause-begun : goal.returns-clause-begun
returns-clause-begun g c = λ told.
    begun_with (g.F.Tree.contents c.args.tree.now) c.args.root.now c.in_ok-place.place c.in_ok-place.ensures.own c.in_ok-place.ensures.full
    c.in_ok-names.names (c.in_ok-names.ensures.names told) c.in_ok-names.ensures.parts
    (by_text (string_bytes {Z = Global}) c.add_names.new.queue.entries)
    (c.in_ok-add_names.ensures.added ∙ ap (λ (es : List (String Global × Waiting)). put_names c.in_ok-place.place (by_text (string_bytes {Z = Global}) es) c.in_ok-names.names) c.new-queue.ensures.empty)

pub returns-clause-sound : goal.returns-clause-sound
returns-clause-sound g c =
    subst AllSound (sym (c.in_ok-add_names.ensures.added ∙ ap (λ (es : List (String Global × Waiting)). put_names c.in_ok-place.place (by_text (string_bytes {Z = Global}) es) c.in_ok-names.names) c.new-queue.ensures.empty))
    (names_sound c.in_ok-place.place (root_place c.in_ok-place.place c.in_ok-place.ensures.own) (root_proper c.in_ok-place.place c.in_ok-place.ensures.own) c.in_ok-names.names c.in_ok-names.ensures.parts [] tt)
