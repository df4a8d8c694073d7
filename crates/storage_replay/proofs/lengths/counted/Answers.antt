use Rattle.std.proofs.Common.{◌≡◌, ◌*◌, ◌+◌, Ok, ap, ap₂, ◌∙◌, sym, rules, arith}
use Rattle.std.proofs.lemmas.Result.{err_from_is_err_and}
use Rattle.storage_replay.specs.Lengths.{file_size}
use Rattle.file_edits.proofs.AnswerLemmas.{handed}
use Rattle.storage_replay.proofs.LengthLemmas.{counted-refused, counted-short, counted-full, counted-end}
use Rattle.storage_replay.proofs.lengths.counted.Goals as goal

pub returns-in_err-size-clause-exact : goal.returns-in_err-size-clause-exact
returns-in_err-size-clause-exact g c told =
    handed _ c.from_residual.result _ (err_from_is_err_and c.from_residual.result c.from_residual.ensures.1)
    (counted-refused (file_size c.args.at.now.root c.args.rel c.args.fork) (g.F.Tree.contents c.args.tree.now) (g.F.Tree.contents c.loop-file.tree) c.args.at.now.per_file c.args.files c.loop-file.file
    c.loop-file.invariant.frame.same (omega arith) (c.loop-file.invariant.meant told) _ (c.in_err-size.ensures.exact told))

pub returns-then-there-at-clause-exact : goal.returns-then-there-at-clause-exact
returns-then-there-at-clause-exact g c told =
    let whole : c.loop-file.file * c.args.at.now.per_file + c.blocks_of-there.result ≡ c.loop-file.file * c.from-full.result + c.from.result = ap₂ (λ a b. c.loop-file.file * a + b) (sym c.from-full.ensures) (sym c.from.ensures) in
    counted-short (file_size c.args.at.now.root c.args.rel c.args.fork) (g.F.Tree.contents c.args.tree.now) (g.F.Tree.contents c.loop-file.tree) c.args.at.now.per_file c.args.files c.loop-file.file
    c.loop-file.invariant.frame.same (omega arith) (c.loop-file.invariant.meant told) c.in_ok-size.size c.blocks_of-there.result (c.in_ok-size.ensures.exact told) c.blocks_of-there.ensures (search rules)
    ∙ ap (λ n. Ok n) whole

pub loop-file-preserved : goal.loop-file-preserved
loop-file-preserved g c = record {
  frame = search rules;
  meant = λ told.
      counted-full (file_size c.args.at.now.root c.args.rel c.args.fork) (g.F.Tree.contents c.args.tree.now) (g.F.Tree.contents c.loop-file.tree) c.args.at.now.per_file c.args.files c.loop-file.file
      c.loop-file.invariant.frame.same (omega arith) (c.loop-file.invariant.meant told) c.in_ok-size.size c.blocks_of-there.result (c.in_ok-size.ensures.exact told) c.blocks_of-there.ensures (search rules);
}

pub returns-clause-exact : goal.returns-clause-exact
returns-clause-exact g c told =
    counted-end (file_size c.args.at.now.root c.args.rel c.args.fork) (g.F.Tree.contents c.args.tree.now) (g.F.Tree.contents c.args.tree.now) c.args.at.now.per_file c.args.files c.loop-file.file
    (omega arith) (search rules) (c.loop-file.invariant.meant told)
    ∙ ap (λ n. Ok (c.args.files * n)) (sym c.from-full.ensures)
