use Rattle.rewind_writes.specs.declared.step.Step.TheVariants.{Whole}
use Rattle.resumed_writes.proofs.AgainLemmas.{found-not, source-broken, source-whole, takes-read}
use Rattle.resumed_writes.proofs.stepping.copy_whole.Goals as goal

pub returns-in-Ok-true-clause-takes : goal.returns-in-Ok-true-clause-takes
returns-in-Ok-true-clause-takes g c = takes-read g.F.Tree (Whole c.args.from c.args.to c.args.size) _ _ _ _ c.in-Ok-true.ensures.frame c.open_and_copy.ensures.takes

pub returns-in-Ok-false-clause-takes : goal.returns-in-Ok-false-clause-takes
returns-in-Ok-false-clause-takes g c = source-whole g.F.Tree c.args.from c.args.to c.args.size _ _ _ (λ told. found-not c.in-Ok-false.field-0 c.in-Ok-false.field-0-test (c.in-Ok-false.ensures.answer told))

pub returns-in-Err-clause-takes : goal.returns-in-Err-clause-takes
returns-in-Err-clause-takes g c = source-broken g.F.Tree (Whole c.args.from c.args.to c.args.size) c.args.from _ _ c.in-Err.fault _ c.at_source.ensures c.in-Err.ensures.only c.in-Err.ensures.frame
