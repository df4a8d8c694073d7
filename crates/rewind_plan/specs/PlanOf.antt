-- The plan of a rewind, made ready for two clusters. Own: "The plan of a rewind".
use Rattle.std.specs.Prelude.{◌≡◌, List, length}
use Rattle.cluster_tree.specs.Contents.{Contents, entry_at}
use Rattle.cluster_tree.specs.PathValue.{below}
use Rattle.control_file.specs.Writing.{control_bytes}
use Rattle.control_file.specs.declared.control.Control.{Control}
use Rattle.backup_label.specs.Text.{label_text}
use Rattle.backup_label.specs.declared.label.Label.{Label}
use Rattle.file_walk.specs.declared.pair.Pair.{Pair}
use Rattle.rewound_tree.specs.Rewound.{Rewinding}
use Rattle.rewind_writes.specs.declared.plan.Plan.{Plan}
use Rattle.rewind_plan.specs.Planned.{Between, steps_of}
use Rattle.rewind_plan.specs.Sides.{control_parts, label_parts, mark_parts}

-- it has the steps of the pairs, and writes this label and this control file
pub record IsPlanOf (w : Between) (pairs : List Pair) (control : Control) (label : Label) (plan : Plan) : Type 0 where
  pub mark : plan.mark ≡ below w.target mark_parts
  pub steps : plan.steps.items ≡ steps_of w pairs
  pub label_at : plan.label.path ≡ below w.target label_parts
  pub label_says : plan.label.bytes.items ≡ label_text label
  pub control_at : plan.control.path ≡ below w.target control_parts
  pub control_says : plan.control.bytes.items ≡ control_bytes control
  pub control_long : length (control_bytes control) ≡ 8192

-- what a rewind between two roots is by
abbrev pub rewinding : Contents → Between → Control → Label → Rewinding
rewinding c w control label = record {
  target = λ parts. entry_at c (below w.target parts);
  source = λ parts. entry_at c (below w.source parts);
  touched = w.wanted;
  relseg = w.per_file;
  control = control;
  label = label;
}
