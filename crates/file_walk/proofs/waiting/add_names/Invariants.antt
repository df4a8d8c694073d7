use Rattle.std.proofs.Common.{◌≡◌, take, string_bytes}
use Rattle.file_walk.specs.Listed.{by_text}
use Rattle.file_walk.specs.Waiting.{put_names}
use Rattle.file_walk.proofs.waiting.add_names.Given as goal

abbrev pub invariant-loop-at : goal.invariant-loop-at
invariant-loop-at l = by_text string_bytes l.queue.entries ≡ put_names l.folder (by_text string_bytes l.initial.queue.entries) (take l.at l.names)
