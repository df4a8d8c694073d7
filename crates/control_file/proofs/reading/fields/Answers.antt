use Rattle.std.proofs.Common.{rules, w64, FitsSigned}
use Rattle.std.proofs.lemmas.Int.{to_z-of_z}
use Rattle.control_file.specs.Reading.{fields_at}
use Rattle.control_file.proofs.reading.fields.Goals as goal

pub returns : goal.returns
unfolding fields_at
returns c =
    let fits : FitsSigned w64 c.i64_at.result = search rules in
    rw (to_z-of_z w64 c.i64_at.result fits) cc
