use Rattle.std.proofs.Common.{◌≡◌, ◌+◌, ◌-◌, ◌/◌, ◌^◌, ◌≤◌, true, false, sym, subst, ◌∙◌, arith}
use Rattle.touched_blocks.specs.Set.{has_in}
use Rattle.rewound_tree.specs.Mixed.{is_wanted}
use Rattle.rewind_plan.specs.Blocks.{AllEnd, is_copied}
use Rattle.rewind_plan.proofs.BytesLemmas.{runs_end}
use Rattle.rewind_plan.proofs.CodeLemmas.{runs-kept, runs-put}
use Rattle.rewind_plan.proofs.runs.copied_runs.Goals as goal

pub put_block-requires-clause-ends : goal.put_block-requires-clause-ends
put_block-requires-clause-ends c =
    let p = is_copied (is_wanted (has_in c.args.touched.now) c.args.file.per_file c.args.file.rel c.args.file.number) c.args.old in
    let l : c.loop-block.block + (c.args.new / 8192 - c.loop-block.block) ≤ 2 ^ 51 = omega (arith, c.loop-block.auto.block, c.ranges.new.fits) in
    subst (AllEnd (2 ^ 51)) (sym c.loop-block.invariant) (runs_end p c.loop-block.block (c.args.new / 8192 - c.loop-block.block) (2 ^ 51) l)

pub loop-block-preserved-in-Continue-1 : goal.loop-block-preserved-in-Continue-1
loop-block-preserved-in-Continue-1 c =
    let p = is_copied (is_wanted (has_in c.args.touched.now) c.args.file.per_file c.args.file.rel c.args.file.number) c.args.old in
    let wanted : p (c.loop-block.block - 1) ≡ true = sym c.is_copied.ensures ∙ c.if-is_copied.true in
    runs-put p (c.args.new / 8192) c.loop-block.block c.loop-block.runs.items c.put_block.new.runs.items c.loop-block-test.true c.loop-block.auto.block wanted c.loop-block.invariant c.in_ok-put_block.ensures

pub loop-block-preserved : goal.loop-block-preserved
loop-block-preserved c =
    let p = is_copied (is_wanted (has_in c.args.touched.now) c.args.file.per_file c.args.file.rel c.args.file.number) c.args.old in
    let unwanted : p (c.loop-block.block - 1) ≡ false = sym c.is_copied.ensures ∙ c.if-is_copied.false in
    runs-kept p (c.args.new / 8192) c.loop-block.block c.loop-block.runs.items c.loop-block-test.true c.loop-block.auto.block unwanted c.loop-block.invariant

pub returns-clause-ends : goal.returns-clause-ends
returns-clause-ends c =
    let p = is_copied (is_wanted (has_in c.args.touched.now) c.args.file.per_file c.args.file.rel c.args.file.number) c.args.old in
    let l : c.loop-block.block + (c.args.new / 8192 - c.loop-block.block) ≤ 2 ^ 51 - 1 = omega (arith, c.loop-block.auto.block, c.ranges.new.fits) in
    subst (AllEnd (2 ^ 51 - 1)) (sym c.loop-block.invariant) (runs_end p c.loop-block.block (c.args.new / 8192 - c.loop-block.block) (2 ^ 51 - 1) l)
