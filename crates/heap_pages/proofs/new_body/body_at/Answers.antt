use Rattle.std.proofs.Common.{subst}
use Rattle.block_layouts.specs.Update.{update_seen}
use Rattle.heap_tuples.proofs.EditLemmas.{part_is}
use Rattle.heap_pages.specs.NewBody.{IsBody}
use Rattle.heap_pages.specs.Update.{parts_fit, joined}
use Rattle.heap_pages.proofs.new_body.body_at.Goals as goal

pub returns : goal.returns
returns c =
    let at = c.tuple_span-at.result in let tuple = update_seen c.args.tuple.now in
    subst (λ old. IsBody (parts_fit c.args.parts tuple old) (joined c.args.parts tuple old) c.body_of.new.into c.body_of.result)
    (part_is c.args.page.now c.args.place at.start at.end c.tuple_span-at.ensures.start c.tuple_span-at.ensures.end) c.body_of.ensures
