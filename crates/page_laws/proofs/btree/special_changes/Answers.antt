use Rattle.page_laws.proofs.BtreeChanges.{links, flags_change, cycles, both_change}
use Rattle.page_laws.proofs.btree.special_changes.Goals as goal

pub returns-clause-links : goal.returns-clause-links
returns-clause-links c = links

pub returns-clause-flags : goal.returns-clause-flags
returns-clause-flags c = flags_change

pub returns-clause-cycle : goal.returns-clause-cycle
returns-clause-cycle c = cycles

pub returns-clause-both : goal.returns-clause-both
returns-clause-both c = both_change
