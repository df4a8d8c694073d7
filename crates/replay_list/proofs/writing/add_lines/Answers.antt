use Rattle.std.proofs.Common.{◌+◌, ◌<◌, length, ap, sym, ◌∙◌, take, subst, arith}
use Rattle.replay_list.specs.Lines.{files_after, files_behind}
use Rattle.replay_list.specs.Text.{IsHeld}
use Rattle.replay_list.proofs.FrontLemmas.{counted_more}
use Rattle.replay_list.proofs.WriteLemmas.{after_more, held_more, lines_added, taken_more}
use Rattle.replay_list.proofs.writing.add_lines.Goals as goal

pub loop-one-preserved : goal.loop-one-preserved
loop-one-preserved c =
    let root = c.args.root.now in
    let at = c.loop-one.one-index in
    let listed = c.args.listed.now in
    let done = take at listed in
    let one = c.one-item.result in
    let within : at < length listed = omega (arith, c.loop-one-test.true, c.loop-one.auto.one-index-end) in
    let more = taken_more listed at one within c.one-item.is in
    let count = c.files_behind-files.ensures.value in
    record {
      lines = lines_added root _ _ _ done (take (at + 1) listed) one c.loop-one.files more c.loop-one.invariant.lines c.loop-one.invariant.count c.in_ok-add_listed.ensures.line;
      count = count ∙ ap (λ n. files_behind n one) c.loop-one.invariant.count ∙ sym (ap (files_after 0) more ∙ after_more 0 done one);
      files = omega (arith, c.loop-one.invariant.files, count, counted_more c.loop-one.files one);
      held = subst (IsHeld root) (sym more) (held_more root done one c.loop-one.invariant.held c.in_ok-add_listed.ensures.text c.in_ok-add_listed.ensures.size);
    }
