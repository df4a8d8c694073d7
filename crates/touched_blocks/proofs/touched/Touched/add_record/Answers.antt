use Rattle.touched_blocks.specs.Touched.{names_of, names_or_none}
use Rattle.touched_blocks.proofs.SetLemmas.{first_none, on_err}
use Rattle.touched_blocks.proofs.touched.Touched.add_record.Goals as goal

pub returns-in_err-fields-clause-partly : goal.returns-in_err-fields-clause-partly
returns-in_err-fields-clause-partly c =
    on_err c.from_residual.result _ (first_none (names_or_none (names_of c.args.rec.now c.args.parts.now)) c.args.self.now)
