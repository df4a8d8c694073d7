-- The changes of a rewind that is done again from what a stop left: PostgreSQL 16, src/bin/pg_rewind/file_ops.c, by the plan of
-- the run that broke off. Own: "A rewind that is resumed".
use Rattle.std.specs.Prelude.{cond, List, [], ◌∷◌, ◌++◌}
use Rattle.cluster_tree.specs.Contents.{Contents, entry_at, is_folder}
use Rattle.cluster_tree.specs.Change.{Change, Cuts, MakesFolder, Removes, Syncs, Writes, all_changed}
use Rattle.cluster_tree.specs.Marks.{is_there}
use Rattle.marked_runs.specs.Runs.{ended, writes_at}
use Rattle.rewind_writes.specs.Steps.{opened, part_of}
use Rattle.rewind_writes.specs.declared.plan.FileBytes.{FileBytes}
use Rattle.rewind_writes.specs.declared.plan.Plan.{Plan}
use Rattle.rewind_writes.specs.declared.step.Step.{Step}
use Rattle.rewind_writes.specs.declared.step.Step.TheVariants.{Folder, Whole, Cut, Range, Remove}

-- A step done again, by what stands just before it: a folder that is there isn't made again, a file that is copied whole is emptied
-- where it is there and else made, what is gone isn't removed again, and every cut and every range is done again.
abbrev pub resumed_of : Contents → Step → List Change
resumed_of c (Folder path) = cond (is_folder (entry_at c path)) [] (MakesFolder path ∷ [])
resumed_of c (Whole from to size) = opened c to ∷ writes_at to 0 (part_of c from 0 size)
resumed_of c (Cut path size) = Cuts path size ∷ []
resumed_of c (Range from to at size) = writes_at to at (part_of c from at size)
resumed_of c (Remove path) = cond (is_there c path) (Removes path ∷ []) []

-- the steps in their turn
abbrev pub resumed_steps : Contents → List Step → List Change
resumed_steps c [] = []
resumed_steps c (step ∷ steps) = resumed_of c step ++ resumed_steps (all_changed c (resumed_of c step)) steps

-- the label is emptied or made as a whole file is, and the control file is written
abbrev pub resumed_closing : Contents → (label control : FileBytes) → List Change
resumed_closing c label control = opened c label.path ∷ Writes label.path 0 label.bytes.items ∷ Writes control.path 0 control.bytes.items ∷ []

-- what is changed again under the mark
abbrev pub resumed_body : Contents → Plan → List Change
resumed_body c plan = resumed_steps c plan.steps.items ++ resumed_closing (all_changed c (resumed_steps c plan.steps.items)) plan.label plan.control

-- all changes of the resume: what the stop left is synced first, and the mark that stands is ended
abbrev pub resumed_changes : Contents → Plan → List Change
resumed_changes c plan = Syncs ∷ resumed_body c plan ++ ended plan.mark
