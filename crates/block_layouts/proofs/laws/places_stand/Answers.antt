use Rattle.block_layouts.proofs.ListLemmas.{interval_at-index, interval_count-is, place_at-index, place_count-is, redirect_at-index, redirect_count-is}
use Rattle.block_layouts.proofs.laws.places_stand.Goals as goal

pub returns-clause-places : goal.returns-clause-places
returns-clause-places c = place_at-index

pub returns-clause-redirects : goal.returns-clause-redirects
returns-clause-redirects c = redirect_at-index

pub returns-clause-place_count : goal.returns-clause-place_count
returns-clause-place_count c = place_count-is

pub returns-clause-redirect_count : goal.returns-clause-redirect_count
returns-clause-redirect_count c = redirect_count-is

pub returns-clause-intervals : goal.returns-clause-intervals
returns-clause-intervals c = interval_at-index

pub returns-clause-interval_count : goal.returns-clause-interval_count
returns-clause-interval_count c = interval_count-is
