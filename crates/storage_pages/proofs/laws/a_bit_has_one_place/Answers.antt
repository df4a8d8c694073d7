use Rattle.storage_pages.proofs.MapLaws.{one_place, within_page}
use Rattle.storage_pages.proofs.laws.a_bit_has_one_place.Goals as goal

pub returns-clause-one : goal.returns-clause-one
returns-clause-one c = one_place

pub returns-clause-within : goal.returns-clause-within
returns-clause-within c = within_page
