use Rattle.std.proofs.Common.{◌≡◌, ◌⊎◌, ◌<◌, None, Some, arith, drop, length, rules, subst}
use Rattle.std.proofs.lemmas.List.{drop_all}
use Rattle.std.proofs.lemmas.Result.{err_from_is_err_and}
use Rattle.cluster_tree.specs.Causes.{Passes}
use Rattle.stored_replay.specs.Faults.{IsFree}
use Rattle.stored_replay.specs.Shadows.{lost_of}
use Rattle.stored_replay.proofs.ShadowLemmas.{breaks, counted_more, differs, ends, goes-on, handed, rest_is}
use Rattle.stored_replay.proofs.shadows.check_copies.Goals as goal

pub returns-in_err-check_listed-clause-answer : goal.returns-in_err-check_listed-clause-answer
returns-in_err-check_listed-clause-answer g c told =
    let within : c.loop-one.one-index < length c.args.listed.now = omega (arith, c.loop-one-test.true, c.loop-one.auto.one-index-end) in
    handed (Passes IsFree _) c.from_residual.result c.in_err-check_listed.field-0.0 (err_from_is_err_and c.from_residual.result c.from_residual.ensures.1)
    (breaks (g.F.Tree.contents c.args.tree.now) c.args.root.now c.args.listed.now (drop c.loop-one.one-index c.args.listed.now) c.loop-one.files (c.loop-one.invariant.passed told) c.one-item.result _ c.in_err-check_listed.field-0.0
    (rest_is c.args.listed.now c.loop-one.one-index c.one-item.result within c.one-item.is)
    (subst (λ x. IsFree c.in_err-check_listed.field-0.0 ⊎ (differs (lost_of x c.args.root.now c.loop-one.files c.one-item.result) ≡ Some c.in_err-check_listed.field-0.0)) c.loop-one.invariant.reads.same (c.in_err-check_listed.ensures.answer told)))

pub loop-one-preserved : goal.loop-one-preserved
loop-one-preserved g c =
    let within : c.loop-one.one-index < length c.args.listed.now = omega (arith, c.loop-one-test.true, c.loop-one.auto.one-index-end) in
    record {
      passed = λ told. goes-on (g.F.Tree.contents c.args.tree.now) c.args.root.now c.args.listed.now (drop c.loop-one.one-index c.args.listed.now) c.loop-one.files (c.loop-one.invariant.passed told) c.one-item.result _ c.files_behind-files.result
          (rest_is c.args.listed.now c.loop-one.one-index c.one-item.result within c.one-item.is) c.files_behind-files.ensures.value
          (subst (λ x. differs (lost_of x c.args.root.now c.loop-one.files c.one-item.result) ≡ None) c.loop-one.invariant.reads.same (c.in_ok-check_listed.ensures.answer told));
      files = omega (arith, c.loop-one.invariant.files, c.files_behind-files.ensures.value, counted_more c.loop-one.files c.one-item.result);
      reads = search rules;
    }

pub returns-clause-answer : goal.returns-clause-answer
returns-clause-answer g c told = ends (g.F.Tree.contents c.args.tree.now) c.args.root.now c.args.listed.now (drop c.loop-one.one-index c.args.listed.now) c.loop-one.files (c.loop-one.invariant.passed told) (drop_all c.loop-one.one-index c.args.listed.now c.loop-one-test.false)
