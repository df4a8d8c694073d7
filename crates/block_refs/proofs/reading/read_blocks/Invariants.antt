use Rattle.std.proofs.Common.{◌-◌, length}
use Rattle.block_refs.proofs.ReadLemmas.{Reading}
use Rattle.block_refs.proofs.reading.read_blocks.Given as goal

abbrev pub decreases-fragments : goal.decreases-fragments
decreases-fragments l = length l.body - l.seen.at

abbrev pub invariant-fragments : goal.invariant-fragments
invariant-fragments l = Reading l.body l.seen l.blocks.items
