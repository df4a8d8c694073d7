use Rattle.std.proofs.Common.{string_bytes, Global, rules, sym, subst}
use Rattle.file_walk.specs.Listed.{by_text}
use Rattle.file_walk.specs.Waiting.{AllSound}
use Rattle.file_walk.proofs.SoundLemmas.{names_sound}
use Rattle.file_walk.proofs.walking.look.Goals as goal

pub returns-in-Ok-Folder-clause-sound : goal.returns-in-Ok-Folder-clause-sound
returns-in-Ok-Folder-clause-sound g c = λ sound.
    subst AllSound (sym c.in_ok-add_names-in-Ok-Folder.ensures.added)
    (names_sound c.args.place c.requires.sound c.requires.proper c.in-Ok-Folder.names (search rules) (by_text (string_bytes {Z = Global}) c.args.queue.now.entries) sound)
