use Rattle.std.proofs.Common.{option_map, rules}
use Rattle.archive_names.specs.Cleanup.{goes}
use Rattle.archive_names.proofs.NameLemmas.{added_on}
use Rattle.archive_names.proofs.cleanup.removed.Goals as goal

pub loop-at-preserved : goal.loop-at-preserved
loop-at-preserved c =
    added_on (goes (option_map (λ s. s.now) c.args.extension) c.args.first.now) c.args.names.now c.loop-at.at c.in-Some.name.now c.loop-at.gone c.add.new.gone (search rules) c.loop-at.invariant (search rules)
