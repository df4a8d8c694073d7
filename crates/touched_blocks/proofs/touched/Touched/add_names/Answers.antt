use Rattle.std.proofs.lemmas.Result.{on_err_weaker, on_ok_weaker}
use Rattle.touched_blocks.specs.FieldNames.{names_of_fields}
use Rattle.touched_blocks.specs.Touched.{named_by_references}
use Rattle.touched_blocks.proofs.SetLemmas.{adds_then, then_first}
use Rattle.touched_blocks.proofs.touched.Touched.add_names.Goals as goal

pub returns-clause-added : goal.returns-clause-added
returns-clause-added c = on_ok_weaker c.add_fields.result
    (λ two. adds_then (named_by_references c.args.parts.now.blocks) (names_of_fields c.args.fields.now) c.args.self.now c.add_references.new.self c.add_fields.new.self
    c.in_ok-add_references.ensures.added two)
    c.add_fields.ensures.added

pub returns-clause-first : goal.returns-clause-first
returns-clause-first c = on_err_weaker c.add_fields.result
    (λ two. then_first (named_by_references c.args.parts.now.blocks) (names_of_fields c.args.fields.now) c.args.self.now c.add_references.new.self c.add_fields.new.self
    c.in_ok-add_references.ensures.added two)
    c.add_fields.ensures.first
