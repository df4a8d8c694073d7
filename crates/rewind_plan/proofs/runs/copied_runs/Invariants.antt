use Rattle.std.proofs.Common.{◌≡◌, ◌/◌, ◌-◌}
use Rattle.touched_blocks.specs.Set.{has_in}
use Rattle.rewound_tree.specs.Mixed.{is_wanted}
use Rattle.rewind_plan.specs.Blocks.{is_copied, runs_of}
use Rattle.rewind_plan.proofs.runs.copied_runs.Given as goal

abbrev pub invariant-loop-block : goal.invariant-loop-block
invariant-loop-block l = l.runs.items ≡ runs_of (is_copied (is_wanted (has_in l.touched) l.file.per_file l.file.rel l.file.number) l.old) l.block (l.new / 8192 - l.block)
