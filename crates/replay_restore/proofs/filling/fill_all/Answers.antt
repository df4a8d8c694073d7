use Rattle.std.proofs.Common.{◌<◌, drop, length, ap, inl, refl, arith, rules, Ok}
use Rattle.std.proofs.lemmas.List.{drop_all}
use Rattle.std.proofs.lemmas.Result.{err_from_is_err_and}
use Rattle.cluster_tree.specs.PathOrder.{path_eq}
use Rattle.file_edits.proofs.AnswerLemmas.{handed-on}
use Rattle.file_edits.proofs.OwnLemmas.{came-on, own-on, own-wider}
use Rattle.file_edits.proofs.SparingLemmas.{spared-on}
use Rattle.replay_list.specs.Lines.{path_at}
use Rattle.stored_replay.proofs.ShadowLemmas.{counted_more, rest_is}
use Rattle.replay_restore.specs.Filled.{has_path, is_spared, with_one}
use Rattle.piece_copies.proofs.AnswerLemmas.{done-is, why-free}
use Rattle.replay_restore.proofs.FillLemmas.{all-at, any-at, any-past, behind-all, behind-can, behind-none, behind-on}
use Rattle.replay_restore.proofs.filling.fill_all.Goals as goal

pub returns-in_err-fill_one-clause-exact : goal.returns-in_err-fill_one-clause-exact
returns-in_err-fill_one-clause-exact g c told can =
    let within : c.loop-one.one-index < length c.args.listed.now = omega (arith, c.loop-one-test.true, c.loop-one.auto.one-index-end) in
    let behind = c.loop-one.invariant.behind told can in
    let rest = rest_is c.args.listed.now c.loop-one.one-index c.one-item.result within c.one-item.is in
    handed-on _ _ c.from_residual.result _ (err_from_is_err_and c.from_residual.result c.from_residual.ensures.1)
    (inl (why-free _ _ _ refl (c.in_err-fill_one.ensures.exact told (behind-can c.args.root.now c.args.listed.now _ c.loop-one.files _ _ behind c.one-item.result _ rest))))

pub returns-in_err-fill_one-clause-own : goal.returns-in_err-fill_one-clause-own
returns-in_err-fill_one-clause-own g c told =
    let within : c.loop-one.one-index < length c.args.listed.now = omega (arith, c.loop-one-test.true, c.loop-one.auto.one-index-end) in
    let rest = rest_is c.args.listed.now c.loop-one.one-index c.one-item.result within c.one-item.is in
    own-on g.F.Tree.calls _ _ _ _ (c.loop-one.invariant.own told)
    (own-wider g.F.Tree.calls (λ q. path_eq q (path_at c.one-item.result)) (has_path c.args.listed.now) _ _ (λ q is. c.loop-one.invariant.paths q (any-at (λ one. path_eq q (path_at one)) c.one-item.result _ _ rest is)) (c.fill_one.ensures.own told))

pub returns-in_err-fill_one-clause-spares : goal.returns-in_err-fill_one-clause-spares
returns-in_err-fill_one-clause-spares g c told can piece all =
    let within : c.loop-one.one-index < length c.args.listed.now = omega (arith, c.loop-one-test.true, c.loop-one.auto.one-index-end) in
    let behind = c.loop-one.invariant.behind told can in
    let rest = rest_is c.args.listed.now c.loop-one.one-index c.one-item.result within c.one-item.is in
    spared-on g.F.Tree piece _ _ _ (c.loop-one.invariant.spares told can piece all)
    (c.fill_one.ensures.spares told (behind-can c.args.root.now c.args.listed.now _ c.loop-one.files _ _ behind c.one-item.result _ rest) piece
    (all-at (is_spared piece) c.one-item.result _ _ rest (c.loop-one.invariant.rest piece all)).0)

pub loop-one-init : goal.loop-one-init
loop-one-init g c = record {
  behind = λ told can. behind-none c.args.root.now c.args.listed.now (g.F.Tree.contents c.args.tree.now) can;
  files = omega arith;
  came = search rules;
  own = λ told first on. on;
  paths = λ q is. is;
  rest = λ piece is. is;
  spares = λ told can piece all bytes first s. s;
}

pub loop-one-preserved : goal.loop-one-preserved
loop-one-preserved g c =
    let within : c.loop-one.one-index < length c.args.listed.now = omega (arith, c.loop-one-test.true, c.loop-one.auto.one-index-end) in
    let rest = rest_is c.args.listed.now c.loop-one.one-index c.one-item.result within c.one-item.is in
    record {
      behind = λ told can.
          let behind = c.loop-one.invariant.behind told can in
          let one_can = behind-can c.args.root.now c.args.listed.now _ c.loop-one.files _ _ behind c.one-item.result _ rest in
          behind-on c.args.root.now c.args.listed.now _ c.loop-one.files (g.F.Tree.contents c.args.tree.now) (g.F.Tree.contents c.loop-one.tree) behind c.one-item.result _ rest (g.F.Tree.contents c.fill_one.new.tree) c.files_behind-files.result
          (done-is (with_one c.args.root.now c.loop-one.files c.one-item.result (g.F.Tree.contents c.loop-one.tree)) (g.F.Tree.contents c.fill_one.new.tree) (c.in_ok-fill_one.ensures.exact told one_can))
          c.files_behind-files.ensures.value;
      files = omega (arith, c.loop-one.invariant.files, c.files_behind-files.ensures.value, counted_more c.loop-one.files c.one-item.result);
      came = came-on g.F.Tree _ _ _ c.loop-one.invariant.came c.fill_one.ensures.frame;
      own = λ told.
          own-on g.F.Tree.calls _ _ _ _ (c.loop-one.invariant.own told)
          (own-wider g.F.Tree.calls (λ q. path_eq q (path_at c.one-item.result)) (has_path c.args.listed.now) _ _ (λ q is. c.loop-one.invariant.paths q (any-at (λ one. path_eq q (path_at one)) c.one-item.result _ _ rest is)) (c.fill_one.ensures.own told));
      paths = λ q is. c.loop-one.invariant.paths q (any-past (λ one. path_eq q (path_at one)) c.one-item.result _ _ rest is);
      rest = λ piece all. (all-at (is_spared piece) c.one-item.result _ _ rest (c.loop-one.invariant.rest piece all)).1;
      spares = λ told can piece all.
          let behind = c.loop-one.invariant.behind told can in
          spared-on g.F.Tree piece _ _ _ (c.loop-one.invariant.spares told can piece all)
          (c.fill_one.ensures.spares told (behind-can c.args.root.now c.args.listed.now _ c.loop-one.files _ _ behind c.one-item.result _ rest) piece
          (all-at (is_spared piece) c.one-item.result _ _ rest (c.loop-one.invariant.rest piece all)).0);
    }

pub returns-clause-exact : goal.returns-clause-exact
returns-clause-exact g c told can =
    ap (λ x. Ok x) (behind-all c.args.root.now c.args.listed.now (drop c.loop-one.one-index c.args.listed.now) c.loop-one.files (g.F.Tree.contents c.args.tree.now) (g.F.Tree.contents c.loop-one.tree) (c.loop-one.invariant.behind told can) (drop_all c.loop-one.one-index c.args.listed.now c.loop-one-test.false))
