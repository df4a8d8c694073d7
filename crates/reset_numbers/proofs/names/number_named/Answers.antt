use Rattle.reset_numbers.proofs.NameLemmas.{long_digits}
use Rattle.reset_numbers.proofs.names.number_named.Goals as goal

pub digits_number-requires : goal.digits_number-requires
digits_number-requires c = long_digits c.args.name.now c.requires
