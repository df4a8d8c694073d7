use Rattle.std.proofs.Common.{◌∙◌}
use Rattle.timeline_history.proofs.ReadingLemmas.{last_is}
use Rattle.timeline_history.proofs.reading.last_entry.Goals as goal

pub returns : goal.returns
returns c = c.copied.ensures ∙ c.last.ensures.value ∙ last_is c.args.entries.now
