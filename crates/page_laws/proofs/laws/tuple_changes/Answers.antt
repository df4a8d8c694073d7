use Rattle.page_laws.proofs.TupleChanges.{low_change, tail_change, address_change, infomask2_change, infomask_change, both_changes}
use Rattle.page_laws.proofs.laws.tuple_changes.Goals as goal

pub returns-clause-low : goal.returns-clause-low
returns-clause-low c = low_change

pub returns-clause-tail : goal.returns-clause-tail
returns-clause-tail c = tail_change

pub returns-clause-address : goal.returns-clause-address
returns-clause-address c = address_change

pub returns-clause-infomask2 : goal.returns-clause-infomask2
returns-clause-infomask2 c = infomask2_change

pub returns-clause-infomask : goal.returns-clause-infomask
returns-clause-infomask c = infomask_change

pub returns-clause-both : goal.returns-clause-both
returns-clause-both c = both_changes
