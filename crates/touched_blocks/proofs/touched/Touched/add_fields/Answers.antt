use Rattle.std.proofs.Common.{sym, subst}
use Rattle.std.proofs.lemmas.Result.{on_err_weaker}
use Rattle.touched_blocks.specs.FieldNames.{names_of_fields}
use Rattle.touched_blocks.specs.Set.{AddsFirst}
use Rattle.touched_blocks.proofs.SetLemmas.{first_none}
use Rattle.touched_blocks.proofs.touched.Touched.add_fields.Goals as goal

pub returns-in-One-clause-first : goal.returns-in-One-clause-first
returns-in-One-clause-first c = on_err_weaker c.add.result
    (λ e. subst (λ u. AddsFirst (names_of_fields c.args.fields.now) c.args.self.now u) (sym e) (first_none (names_of_fields c.args.fields.now) c.args.self.now))
    c.add.ensures.kept
