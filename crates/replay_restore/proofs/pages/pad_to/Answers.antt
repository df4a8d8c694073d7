use Rattle.std.proofs.Common.{take, replicate, ap, sym, ◌∙◌, Ok, arith}
use Rattle.std.proofs.lemmas.List.{take-replicate}
use Rattle.file_edits.proofs.OwnLemmas.{came-on}
use Rattle.file_edits.proofs.EditLemmas.{padded-step, unpadded}
use Rattle.file_edits.proofs.SparingLemmas.{later-spares, spared-on}
use Rattle.replay_restore.proofs.pages.pad_to.Goals as goal

pub returns-in_err-write-clause-own : goal.returns-in_err-write-clause-own
returns-in_err-write-clause-own g c told first on = c.write.ensures.own told first (c.loop-size.invariant.own told first on)

pub loop-size-preserved : goal.loop-size-preserved
loop-size-preserved g c =
    let zs = take-replicate c.min-count.result 8192 0 (omega arith) in
    record {
      frame = came-on g.F.Tree _ _ _ c.loop-size.invariant.frame c.write.ensures.frame;
      own = λ told first on. c.write.ensures.own told first (c.loop-size.invariant.own told first on);
      least = omega (arith, c.loop-size.invariant.least);
      spares = λ told piece is.
          spared-on g.F.Tree piece _ _ _ (c.loop-size.invariant.spares told piece is)
          (c.write.ensures.spares told piece (later-spares piece c.args.path.now c.args.from c.loop-size.size _ c.loop-size.invariant.least is));
      sized = λ told is. (padded-step c.args.path.now (g.F.Tree.contents c.loop-size.tree) (g.F.Tree.contents c.write.new.tree) c.loop-size.size c.min-count.result c.args.to (take c.min-count.result (replicate 8192 0)) (c.loop-size.invariant.sized told is) zs (omega arith) (c.in_ok-write.ensures.exact told)).0;
      meant = λ told is. (padded-step c.args.path.now (g.F.Tree.contents c.loop-size.tree) (g.F.Tree.contents c.write.new.tree) c.loop-size.size c.min-count.result c.args.to (take c.min-count.result (replicate 8192 0)) (c.loop-size.invariant.sized told is) zs (omega arith) (c.in_ok-write.ensures.exact told)).1 ∙ c.loop-size.invariant.meant told is;
    }

pub returns-clause-exact : goal.returns-clause-exact
returns-clause-exact g c told sized =
    ap (λ d. Ok d) (sym (c.loop-size.invariant.meant told sized) ∙ unpadded c.args.path.now (g.F.Tree.contents c.loop-size.tree) c.loop-size.size c.args.to (c.loop-size.invariant.sized told sized) (omega arith))

pub returns-in_err-write-clause-spares : goal.returns-in_err-write-clause-spares
returns-in_err-write-clause-spares g c told piece is =
    spared-on g.F.Tree piece _ _ _ (c.loop-size.invariant.spares told piece is)
    (c.write.ensures.spares told piece (later-spares piece c.args.path.now c.args.from c.loop-size.size _ c.loop-size.invariant.least is))
