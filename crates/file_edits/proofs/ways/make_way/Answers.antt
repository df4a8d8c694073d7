use Rattle.std.proofs.Common.{◌≡◌, ◌+◌, ◌-◌, ◌<◌, ◌≤◌, length, ap, sym, ◌∙◌, inl, inr, ⊎_elim, arith}
use Rattle.std.proofs.lemmas.Result.{err_from_is_err_and}
use Rattle.cluster_tree.specs.PathValue.{front}
use Rattle.cluster_tree.specs.PathOrder.{path_eq}
use Rattle.cluster_tree.specs.Contents.{Contents, entry_at}
use Rattle.file_edits.specs.Asking.{root_refusal}
use Rattle.file_edits.specs.Edits.{folders_made}
use Rattle.file_edits.proofs.AnswerLemmas.{does-unchanged}
use Rattle.file_edits.proofs.OwnLemmas.{own-read, own-on, own-wider, came-read, came-on}
use Rattle.file_edits.proofs.WayLemmas.{way-root, way-begun, way-more, way-refused, way-end, way-front, way-unchanged, root-above, made-above}
use Rattle.file_edits.proofs.SparingLemmas.{spared-on, spared-read}
use Rattle.file_edits.proofs.ways.make_way.Goals as goal

pub returns-in_err-check_root-clause-exact : goal.returns-in_err-check_root-clause-exact
returns-in_err-check_root-clause-exact g c told =
    let p = err_from_is_err_and c.from_residual.result c.from_residual.ensures.1 in
    rw (p.1, p.2) (⊎_elim (λ free. inl free) (λ is. inr (way-root c.args.root.now c.args.path.now (g.F.Tree.contents c.args.tree.now) _ is)) (c.in_err-check_root.ensures.exact told))

pub loop-parts-init : goal.loop-parts-init
loop-parts-init g c =
    let old = g.F.Tree.contents c.args.tree.now in
    let new = g.F.Tree.contents c.check_root.new.tree in
    let len : c.len-parts.result ≡ length c.args.root.now.parts = c.len-parts.ensures.value in
    let same : new ≡ old = c.check_root.ensures.frame.same in
    record {
      frame = came-read g.F.Tree _ _ c.check_root.ensures.frame;
      own = λ told. own-read g.F.Tree _ _ _ c.check_root.ensures.frame;
      spares = λ told piece. spared-read g.F.Tree piece _ _ c.check_root.ensures.frame;
      meant = λ told.
          ap (λ (m : _). folders_made (length c.args.path.now.parts - (m + 1)) (m + 1) c.args.path.now new) len
          ∙ ap (λ (x : Contents). folders_made (length c.args.path.now.parts - (length c.args.root.now.parts + 1)) (length c.args.root.now.parts + 1) c.args.path.now x) same
          ∙ sym (way-begun c.args.root.now c.args.path.now old (c.in_ok-check_root.ensures.exact told));
      above = λ told.
          root-above c.args.root.now c.args.path.now new c.len-parts.result c.requires.held
          (ap (λ (x : Contents). root_refusal c.args.root.now (entry_at x c.args.root.now)) same ∙ c.in_ok-check_root.ensures.exact told) len;
    }

pub returns-in_err-make_front-clause-exact : goal.returns-in_err-make_front-clause-exact
returns-in_err-make_front-clause-exact g c told =
    let p = err_from_is_err_and c.from_residual-in_err-make_front.result c.from_residual-in_err-make_front.ensures.1 in
    rw (p.1, p.2) (⊎_elim (λ free. inl free)
    (λ is. inr (sym (c.loop-parts.invariant.meant told) ∙ way-refused c.loop-parts.parts (length c.args.path.now.parts) c.args.path.now (g.F.Tree.contents c.loop-parts.tree) _ (omega arith) is))
    (c.in_err-make_front.ensures.exact told (c.loop-parts.invariant.above told)))

pub returns-in_err-make_front-clause-own : goal.returns-in_err-make_front-clause-own
returns-in_err-make_front-clause-own g c told =
    let low : length c.args.root.now.parts + 1 ≤ c.loop-parts.parts = omega arith in
    let high : c.loop-parts.parts < length c.args.path.now.parts = omega arith in
    own-on g.F.Tree.calls _ _ _ _ (c.loop-parts.invariant.own told)
    (own-wider g.F.Tree.calls (λ q. path_eq q (front c.loop-parts.parts c.args.path.now)) _ _ _ (λ q is. way-front c.args.root.now c.args.path.now c.loop-parts.parts q low high is) (c.make_front.ensures.own told))

pub returns-in_err-make_front-clause-changed : goal.returns-in_err-make_front-clause-changed
returns-in_err-make_front-clause-changed g c told p =
    does-unchanged _ _ c.from_residual-in_err-make_front.result (returns-in_err-make_front-clause-exact g c told) (way-unchanged c.args.root.now c.args.path.now (g.F.Tree.contents c.args.tree.now)) p

pub loop-parts-preserved : goal.loop-parts-preserved
loop-parts-preserved g c =
    let n = c.loop-parts.parts in
    let path = c.args.path.now in
    let low : length c.args.root.now.parts + 1 ≤ c.loop-parts.parts = omega arith in
    let high : c.loop-parts.parts < length c.args.path.now.parts = omega arith in
    record {
      frame = came-on g.F.Tree _ _ _ c.loop-parts.invariant.frame c.make_front.ensures.frame;
      own = λ told.
          own-on g.F.Tree.calls _ _ _ _ (c.loop-parts.invariant.own told)
          (own-wider g.F.Tree.calls (λ q. path_eq q (front c.loop-parts.parts c.args.path.now)) _ _ _ (λ q is. way-front c.args.root.now c.args.path.now c.loop-parts.parts q low high is) (c.make_front.ensures.own told));
      spares = λ told piece. spared-on g.F.Tree piece _ _ _ (c.loop-parts.invariant.spares told piece) (c.make_front.ensures.spares told piece);
      meant = λ told.
          sym (way-more n (length path.parts) path (g.F.Tree.contents c.loop-parts.tree) (g.F.Tree.contents c.make_front.new.tree) high (c.in_ok-make_front.ensures.exact told (c.loop-parts.invariant.above told)))
          ∙ c.loop-parts.invariant.meant told;
      above = λ told. made-above n path (g.F.Tree.contents c.loop-parts.tree) (g.F.Tree.contents c.make_front.new.tree) (c.in_ok-make_front.ensures.exact told (c.loop-parts.invariant.above told));
    }

pub returns-clause-exact : goal.returns-clause-exact
returns-clause-exact g c told = sym (c.loop-parts.invariant.meant told) ∙ way-end c.loop-parts.parts (length c.args.path.now.parts) c.args.path.now (g.F.Tree.contents c.loop-parts.tree) (omega arith)

pub returns-in_err-make_front-clause-spares : goal.returns-in_err-make_front-clause-spares
returns-in_err-make_front-clause-spares g c told piece = spared-on g.F.Tree piece _ _ _ (c.loop-parts.invariant.spares told piece) (c.make_front.ensures.spares told piece)
