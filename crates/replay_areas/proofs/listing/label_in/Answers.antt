use Rattle.replay_areas.proofs.BelowLemmas.{label_held}
use Rattle.replay_areas.proofs.listing.label_in.Goals as goal

pub returns-in-Ok-clause-held : goal.returns-in-Ok-clause-held
returns-in-Ok-clause-held g c = label_held c.args.root.now c.in_ok-path.path c.in-Ok.size c.listed_by.result c.in_ok-path.ensures c.listed_by.ensures.value c.listed_by.ensures.size
