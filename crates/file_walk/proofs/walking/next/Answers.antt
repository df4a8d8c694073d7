use Rattle.std.proofs.Common.{ℕ, List, Global, string_bytes, Ok, Err, Some, ap, sym, subst}
use Rattle.std.proofs.lemmas.Result.{err_from_is_err_and}
use Rattle.file_walk.specs.declared.waiting.Waiting.{Waiting}
use Rattle.file_walk.specs.Listed.{by_text}
use Rattle.file_walk.specs.Stepping.{FitsNext, IsFirstThere}
use Rattle.file_walk.specs.Waiting.{AllSound}
use Rattle.file_walk.proofs.ListedLemmas.{listed_of}
use Rattle.file_walk.proofs.SoundLemmas.{place_proper, place_sound}
use Rattle.file_walk.proofs.walking.next.Goals as goal

pub step-requires-clause-sound : goal.step-requires-clause-sound
step-requires-clause-sound g c = place_sound (string_bytes c.in-Some.text) c.in-Some.waiting (subst AllSound (ap (by_text (string_bytes {Z = Global})) c.in-Some.ensures.removal) c.requires.sound).0

pub step-requires-clause-proper : goal.step-requires-clause-proper
step-requires-clause-proper g c = place_proper (string_bytes c.in-Some.text) c.in-Some.waiting (subst AllSound (ap (by_text (string_bytes {Z = Global})) c.in-Some.ensures.removal) c.requires.sound).0

pub step-requires-clause-there : goal.step-requires-clause-there
step-requires-clause-there g c = λ told. subst (IsFirstThere (g.F.Tree.contents c.args.tree.now)) (ap (by_text (string_bytes {Z = Global})) c.in-Some.ensures.removal) (c.requires.there told)

pub returns-in_err-entry-clause-stepped : goal.returns-in_err-entry-clause-stepped
returns-in_err-entry-clause-stepped g c = λ told.
    let failed = err_from_is_err_and c.from_residual.result c.from_residual.ensures.1 in
    rw (failed.1, failed.2)
    (subst (λ (q : List (List ℕ × Waiting)). FitsNext (g.F.Tree.contents c.args.tree.now) q (by_text (string_bytes {Z = Global}) c.step.new.queue.entries) (Err c.in_err-entry.field-0.0))
    (sym (ap (by_text (string_bytes {Z = Global})) c.in-Some.ensures.removal)) (c.in_err-entry.ensures.stepped told))

pub returns-in_err-entry-clause-row : goal.returns-in_err-entry-clause-row
returns-in_err-entry-clause-row g c = λ path.
    let failed = err_from_is_err_and c.from_residual.result c.from_residual.ensures.1 in
    rw (failed.1, failed.2) (c.in_err-entry.ensures.row path)

pub returns-clause-stepped : goal.returns-clause-stepped
returns-clause-stepped g c = λ told.
    subst (λ (q : List (List ℕ × Waiting)). FitsNext (g.F.Tree.contents c.args.tree.now) q (by_text (string_bytes {Z = Global}) c.step.new.queue.entries) (Ok (Some (record { text = c.in-Some.text; entry = c.in_ok-entry.entry }))))
    (sym (ap (by_text (string_bytes {Z = Global})) c.in-Some.ensures.removal)) (c.in_ok-entry.ensures.stepped told)

pub returns-clause-listed : goal.returns-clause-listed
returns-clause-listed g c =
    listed_of (record { text = c.in-Some.text; entry = c.in_ok-entry.entry }) c.in-Some.waiting
    (subst AllSound (ap (by_text (string_bytes {Z = Global})) c.in-Some.ensures.removal) c.requires.sound).0 c.in_ok-entry.ensures.told

pub returns-clause-sound : goal.returns-clause-sound
returns-clause-sound g c = c.in_ok-entry.ensures.sound (subst AllSound (ap (by_text (string_bytes {Z = Global})) c.in-Some.ensures.removal) c.requires.sound).1
