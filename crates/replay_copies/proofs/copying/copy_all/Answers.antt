use Rattle.std.proofs.Common.{◌<◌, ◌^◌, drop, length, ap, inl, refl, arith, rules, Ok}
use Rattle.std.proofs.lemmas.List.{drop_all}
use Rattle.std.proofs.lemmas.Result.{err_from_is_err_and}
use Rattle.file_edits.proofs.AnswerLemmas.{handed-on}
use Rattle.file_edits.proofs.OwnLemmas.{came-on}
use Rattle.piece_copies.proofs.AnswerLemmas.{done-is, why-free}
use Rattle.stored_replay.proofs.ShadowLemmas.{counted_more, rest_is}
use Rattle.replay_copies.specs.Copying.{with_copy}
use Rattle.replay_copies.proofs.CopyLemmas.{behind-all, behind-found, behind-on}
use Rattle.replay_copies.proofs.copying.copy_all.Goals as goal

pub returns-in_err-copy_one-clause-exact : goal.returns-in_err-copy_one-clause-exact
returns-in_err-copy_one-clause-exact g c = λ told opened found.
    let within : c.loop-one.one-index < length c.args.listed.now = omega (arith, c.loop-one-test.true, c.loop-one.auto.one-index-end) in
    let small : c.loop-one.files < 2 ^ 64 = search rules in
    let behind = c.loop-one.invariant.behind told opened found in
    let rest = rest_is c.args.listed.now c.loop-one.one-index c.one-item.result within c.one-item.is in
    handed-on _ _ c.from_residual.result _ (err_from_is_err_and c.from_residual.result c.from_residual.ensures.1)
    (inl (why-free (with_copy c.args.root.now c.loop-one.files c.one-item.result (g.F.Tree.contents c.loop-one.tree)) _ _ refl (c.in_err-copy_one.ensures.exact told behind.opened
    (behind-found c.args.root.now c.args.listed.now (drop c.loop-one.one-index c.args.listed.now) c.loop-one.files (g.F.Tree.contents c.args.tree.now) (g.F.Tree.contents c.loop-one.tree) behind small c.one-item.result _ rest))))

pub loop-one-preserved : goal.loop-one-preserved
loop-one-preserved g c =
    let within : c.loop-one.one-index < length c.args.listed.now = omega (arith, c.loop-one-test.true, c.loop-one.auto.one-index-end) in
    let small : c.loop-one.files < 2 ^ 64 = search rules in
    let rest = rest_is c.args.listed.now c.loop-one.one-index c.one-item.result within c.one-item.is in
    record {
      behind = λ told opened found.
          let behind = c.loop-one.invariant.behind told opened found in
          let one_found = behind-found c.args.root.now c.args.listed.now (drop c.loop-one.one-index c.args.listed.now) c.loop-one.files (g.F.Tree.contents c.args.tree.now) (g.F.Tree.contents c.loop-one.tree) behind small c.one-item.result _ rest in
          behind-on c.args.root.now c.args.listed.now (drop c.loop-one.one-index c.args.listed.now) c.loop-one.files (g.F.Tree.contents c.args.tree.now) (g.F.Tree.contents c.loop-one.tree) behind small c.one-item.result _ rest (g.F.Tree.contents c.copy_one.new.tree) c.files_behind-files.result
          (done-is (with_copy c.args.root.now c.loop-one.files c.one-item.result (g.F.Tree.contents c.loop-one.tree)) (g.F.Tree.contents c.copy_one.new.tree) (c.in_ok-copy_one.ensures.exact told behind.opened one_found))
          c.files_behind-files.ensures.value;
      files = omega (arith, c.loop-one.invariant.files, c.files_behind-files.ensures.value, counted_more c.loop-one.files c.one-item.result);
      came = came-on g.F.Tree _ _ _ c.loop-one.invariant.came c.copy_one.ensures.frame;
      own = λ told first on. c.copy_one.ensures.own told first (c.loop-one.invariant.own told first on);
    }

pub returns-clause-exact : goal.returns-clause-exact
returns-clause-exact g c = λ told opened found.
    ap (λ x. Ok x) (behind-all c.args.root.now c.args.listed.now (drop c.loop-one.one-index c.args.listed.now) c.loop-one.files (g.F.Tree.contents c.args.tree.now) (g.F.Tree.contents c.loop-one.tree) (c.loop-one.invariant.behind told opened found) (drop_all c.loop-one.one-index c.args.listed.now c.loop-one-test.false))
