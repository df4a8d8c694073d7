use Rattle.std.proofs.Common.{arith, ◌∙◌, rules}
use Rattle.std.proofs.lemmas.List.{take-replicate}
use Rattle.marked_runs.proofs.ZeroLemmas.{zeros-begun, zeros-on, zeros-broken}
use Rattle.marked_runs.proofs.zeros.fill_zeros.Goals as goal

pub loop-done-init : goal.loop-done-init
loop-done-init g c = record {
  within = omega arith;
  far = zeros-begun g.F.Tree c.args.path.now c.args.at c.args.size c.args.tree.now;
  came = search rules;
}

pub loop-done-preserved : goal.loop-done-preserved
loop-done-preserved g c = record {
  within = omega (arith, c.min-piece.ensures);
  far = zeros-on g.F.Tree c.args.path.now c.args.at c.args.size c.loop-done.done c.min-piece.result c.first.result.now c.args.tree.now c.loop-done.tree c.overwrite.new.tree _ _ (omega (arith, c.min-piece.ensures, c.loop-done-test.true)) (omega (arith, c.min-piece.ensures, c.loop-done-test.true)) (c.first.ensures ∙ take-replicate c.min-piece.result 65536 0 (omega (arith, c.min-piece.ensures))) c.loop-done.invariant.far c.in-Ok.ensures.carries;
  came = search rules;
}

pub returns-in-Err-clause-carries : goal.returns-in-Err-clause-carries
returns-in-Err-clause-carries g c =
    zeros-broken g.F.Tree c.args.path.now c.args.at c.args.size c.loop-done.done c.min-piece.result c.first.result.now c.args.tree.now c.loop-done.tree c.overwrite.new.tree tt c.in-Err.e (omega (arith, c.min-piece.ensures, c.loop-done-test.true)) (omega (arith, c.min-piece.ensures, c.loop-done-test.true)) (c.first.ensures ∙ take-replicate c.min-piece.result 65536 0 (omega (arith, c.min-piece.ensures))) c.loop-done.invariant.far c.in-Err.ensures.carries
