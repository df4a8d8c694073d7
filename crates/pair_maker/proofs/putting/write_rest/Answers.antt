use Rattle.std.proofs.Common.{◌++◌, ◌∙◌, ap, arith, drop, length, rules, sym}
use Rattle.pair_maker.proofs.PutLemmas.{none-left, piece-is, piece_length, reaches-all, reaches-broken, reaches-on}
use Rattle.pair_maker.proofs.putting.write_rest.Goals as goal

pub loop-done-init : goal.loop-done-init
loop-done-init g c = record { within = c.requires; reaches = λ end r h. h; came = search rules }

pub loop-done-preserved : goal.loop-done-preserved
loop-done-preserved g c =
    let bytes = c.args.bytes.now in
    let from = c.loop-done.done in
    let next = c.piece_end-next.result in
    let long = piece_length bytes from next (omega (arith, c.piece_end-next.ensures.further)) (omega (arith, c.piece_end-next.ensures.within)) in
    let whole = ap length c.part.ensures in
    record {
      within = omega (arith, c.piece_end-next.ensures.within);
      reaches = reaches-on g.F.Tree c.args.path.now c.args.from from next (drop c.args.from bytes) (drop from bytes) c.part.result.now (drop next bytes) c.args.tree.now c.loop-done.tree c.overwrite.new.tree tt
          (piece-is bytes from next (omega (arith, c.piece_end-next.ensures.further)) ∙ ap (λ x. x ++ drop next bytes) (sym c.part.ensures))
          (omega (arith, whole, long, c.piece_end-next.ensures.further)) (omega (arith, whole, long, c.piece_end-next.ensures.further)) c.loop-done.invariant.reaches c.in-Ok.ensures.carries;
      came = search rules;
    }

pub returns-in-Err-clause-carries : goal.returns-in-Err-clause-carries
returns-in-Err-clause-carries g c =
    let bytes = c.args.bytes.now in
    let from = c.loop-done.done in
    let next = c.piece_end-next.result in
    let long = piece_length bytes from next (omega (arith, c.piece_end-next.ensures.further)) (omega (arith, c.piece_end-next.ensures.within)) in
    let whole = ap length c.part.ensures in
    reaches-broken g.F.Tree c.args.path.now c.args.from from (drop c.args.from bytes) (drop from bytes) c.part.result.now (drop next bytes) c.args.tree.now c.loop-done.tree c.overwrite.new.tree c.in-Err.e
    (piece-is bytes from next (omega (arith, c.piece_end-next.ensures.further)) ∙ ap (λ x. x ++ drop next bytes) (sym c.part.ensures))
    (omega (arith, whole, long, c.piece_end-next.ensures.further)) c.loop-done.invariant.reaches c.in-Err.ensures.carries

pub returns-clause-carries : goal.returns-clause-carries
returns-clause-carries g c = reaches-all g.F.Tree c.args.path.now c.args.from c.loop-done.done (drop c.args.from c.args.bytes.now) (drop c.loop-done.done c.args.bytes.now) c.args.tree.now c.loop-done.tree (none-left c.args.bytes.now c.loop-done.done (omega (arith, c.loop-done-test.false))) c.loop-done.invariant.reaches
