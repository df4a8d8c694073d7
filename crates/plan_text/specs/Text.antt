-- The plan of a rewind as text, which its mark holds. Own: "The plan of a rewind as text".
use Rattle.std.specs.Prelude.{ℕ, List, [], ◌∷◌, ◌++◌, codes, decimal}
use Rattle.std.specs.List.{flat_map}
use Rattle.hex.specs.Hex.{encode_lower}
use Rattle.cluster_tree.specs.PathValue.{PathValue}
use Rattle.wal_base.specs.Hex.{hex8}
use Rattle.wal_base.specs.Lsn.{lsn_text}
use Rattle.rewind_survey.specs.declared.outcome.Told.{Told}
use Rattle.rewind_writes.specs.declared.step.Step.{Step}
use Rattle.plan_text.specs.declared.stored.StoredPlan.{StoredPlan}
use Rattle.mark_lines.specs.Words.{line}
use Rattle.plan_text.specs.Steps.{step_words}

-- what a text says: the sum of the source's control file, from where is rewound, the steps, and the bytes of the label and the control file
pub record Saying : Type 0 where
  pub source : ℕ
  pub told : Told
  pub steps : List Step
  pub label : List ℕ
  pub control : List ℕ

-- what a plan that is stored says
abbrev pub said_by : StoredPlan → Saying
said_by stored = record {
  source = stored.source;
  told = stored.told;
  steps = stored.plan.steps.items;
  label = stored.plan.label.bytes.items;
  control = stored.plan.control.bytes.items;
}

-- the first line
abbrev pub source_line : ℕ → List ℕ
source_line sum = line (codes "source" ∷ hex8 sum ∷ [])

-- the second line, and its words
abbrev pub told_words : Told → List (List ℕ)
told_words told = codes "told" ∷ decimal told.fork.tli ∷ lsn_text told.fork.at.0 ∷ lsn_text told.checkpoint.0 ∷ decimal told.tli ∷ []

abbrev pub told_line : Told → List ℕ
told_line told = line (told_words told)

-- the line of some bytes
abbrev pub bytes_line : List ℕ → List ℕ → List ℕ
bytes_line word bytes = line (word ∷ encode_lower bytes ∷ [])

-- the lines of steps
abbrev pub step_lines : PathValue → List Step → List ℕ
step_lines root steps = flat_map (λ step. line (step_words root step)) steps

-- its lines, paths below the target's root
unfoldable pub plan_text : PathValue → Saying → List ℕ
plan_text root said =
    source_line said.source ++ (told_line said.told ++ (step_lines root said.steps
    ++ (bytes_line (codes "label") said.label ++ (bytes_line (codes "control") said.control ++ line (codes "end" ∷ [])))))
