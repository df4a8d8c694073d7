-- The changes of a rewind that was planned. Own: "The plan of a rewind", "A mark that holds its plan".
use Rattle.std.specs.Prelude.{◌⊎◌, ◌≡◌, ℕ, List, [], ◌∷◌, ◌++◌, codes}
use Rattle.cluster_tree.specs.Contents.{Contents}
use Rattle.cluster_tree.specs.Change.{Change, MakesFile, Writes, all_changed}
use Rattle.gated_marks.specs.Changes.{begun_gated, gated}
use Rattle.gated_marks.specs.Gates.{whole_mark}
use Rattle.gated_marks.specs.Left.{IsIncomplete, IsUnder}
use Rattle.rewind_writes.specs.Steps.{FindAll, steps_changes}
use Rattle.rewind_writes.specs.declared.plan.FileBytes.{FileBytes}
use Rattle.rewind_writes.specs.declared.plan.Plan.{Plan}

-- the label is made, and the control file written over, behind all else
abbrev pub closing_changes : (label control : FileBytes) → List Change
closing_changes label control = MakesFile label.path ∷ Writes label.path 0 label.bytes.items ∷ Writes control.path 0 control.bytes.items ∷ []

-- what is changed under the mark
abbrev pub body_changes : Contents → Plan → List Change
body_changes c plan = steps_changes c plan.steps.items ++ closing_changes plan.label plan.control

-- the head of a rewind's mark: what wrote it and in which version, and a gate that is shut
abbrev pub mark_head : List ℕ
mark_head = codes "pg_rewind 2\n-\n"

-- the place of the gate's byte
abbrev pub mark_gate : ℕ
mark_gate = 12

-- what the whole mark holds: the head with its gate open, and the plan's text behind it
abbrev pub mark_bytes : (text : List ℕ) → List ℕ
mark_bytes text = whole_mark mark_head mark_gate text

-- the mark is laid before all else, with the plan's text, by the contents that were found before
abbrev pub mark_laid : Contents → (text : List ℕ) → Plan → List Change
mark_laid c text plan = begun_gated c plan.mark mark_head mark_gate text

-- all changes, by the contents that were found before them
abbrev pub plan_changes : Contents → (text : List ℕ) → Plan → List Change
plan_changes c text plan = gated c plan.mark mark_head mark_gate text (body_changes c plan)

-- what the steps read is there, and no change of the plan is on it
abbrev pub IsFound : Contents → (text : List ℕ) → Plan → Type 0
IsFound c text plan = FindAll c (plan_changes c text plan) plan.steps.items

-- under the mark: it holds just this text, and all else is an image of the changes under it
abbrev pub IsUnderPlan : Contents → (text : List ℕ) → Plan → Contents → Type 0
IsUnderPlan c text plan i = IsUnder c plan.mark (mark_bytes text) (body_changes c plan) i

-- What a stop may leave of a plan that began on these contents, synced and without a complete mark: these contents, these with an
-- incomplete mark, what is under the mark, or all that was to be.
abbrev pub IsResumable : Contents → (text : List ℕ) → Plan → Contents → Type 0
IsResumable c text plan i =
    (i ≡ c) ⊎ (IsIncomplete c plan.mark mark_head mark_gate i ⊎ (IsUnderPlan c text plan i ⊎ (i ≡ all_changed c (plan_changes c text plan))))
