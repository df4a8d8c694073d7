use Rattle.std.proofs.Common.{◌<◌, false, true, length, sym, ◌∙◌, arith, rules}
use Rattle.replay_restore.proofs.LooseLemmas.{all_done, line_is}
use Rattle.replay_restore.proofs.loose.first_loose.Goals as goal

pub returns-then-not-branch : goal.returns-then-not-branch
returns-then-not-branch c =
    let within : c.loop-at.at < length c.args.listed.now = omega (arith, c.loop-at-test.true, c.loop-at.auto.at-end) in
    record { value = sym (c.loop-at.invariant.rest ∙ line_is c.args.root.now c.args.listed.now c.loop-at.at c.index-listed-at.result false within c.index-listed-at.is (search rules)) }

pub loop-at-preserved : goal.loop-at-preserved
loop-at-preserved c =
    let within : c.loop-at.at < length c.args.listed.now = omega (arith, c.loop-at-test.true, c.loop-at.auto.at-end) in
    record { rest = c.loop-at.invariant.rest ∙ line_is c.args.root.now c.args.listed.now c.loop-at.at c.index-listed-at.result true within c.index-listed-at.is (search rules) }

pub returns : goal.returns
returns c = record { value = sym (c.loop-at.invariant.rest ∙ all_done c.args.root.now c.args.listed.now c.loop-at.at c.loop-at-test.false) }
