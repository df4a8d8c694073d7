-- The text that a rewind's mark holds: its plan. Own: "A mark that holds its plan".
use Rattle.std.specs.Prelude.{ℕ}
use Rattle.layout.specs.Readers.{u32_at}
use Rattle.cluster_tree.specs.Contents.{Contents}
use Rattle.cluster_tree.specs.PathValue.{PathValue, below}
use Rattle.cluster_tree.specs.Tree.{bytes_at}
use Rattle.plan_text.specs.Text.{Saying}
use Rattle.rewind_plan.specs.Sides.{control_parts}
use Rattle.rewind_core.specs.declared.outcome.Plan.{Plan}

-- the CRC in the control file of a root
abbrev pub sum_at : Contents → PathValue → ℕ
sum_at c root = u32_at 288 (bytes_at c (below root control_parts))

-- what the text of a plan says, with the CRC of the source's control file
abbrev pub saying : (sum : ℕ) → Plan → Saying
saying sum plan = record {
  source = sum;
  told = plan.told;
  steps = plan.writes.steps.items;
  label = plan.writes.label.bytes.items;
  control = plan.writes.control.bytes.items;
}
