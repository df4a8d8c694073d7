use Rattle.std.proofs.Common.{◌∙◌, ap}
use Rattle.heap_tuples.specs.Inplace.{values_fit}
use Rattle.heap_tuples.proofs.EditLemmas.{part_is}
use Rattle.heap_tuples.proofs.inplace.fit_at.Goals as goal

pub returns : goal.returns
returns c =
    let at = c.tuple_span-at.result in
    c.values_fit.ensures ∙ ap (values_fit c.args.values.now) (part_is c.args.page.now c.args.place at.start at.end c.tuple_span-at.ensures.start c.tuple_span-at.ensures.end)
