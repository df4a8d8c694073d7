-- Whether a source is the one that a plan was made for. Own: "A rewind that is resumed".
use Rattle.std.specs.Prelude.{ℕ, ◌+◌, ◌==◌, Bool, false, nat_le, if◌then◌else◌, List, [], ◌∷◌, length, Option, None, Some, option_map}
use Rattle.cluster_tree.specs.Causes.{first_of}
use Rattle.cluster_tree.specs.Contents.{Contents, entry_at}
use Rattle.cluster_tree.specs.PathValue.{PathValue, below}
use Rattle.cluster_tree.specs.Tree.{file_of}
use Rattle.clusters.specs.WholeFile.{all_of}
use Rattle.rewind_plan.specs.Sides.{control_parts}
use Rattle.rewind_writes.specs.declared.step.Step.{Step}
use Rattle.rewind_writes.specs.declared.step.Step.TheVariants.{Folder, Whole, Cut, Range, Remove}
use Rattle.plan_text.specs.Text.{Saying}
use Rattle.rewind_core.specs.Text.{sum_at}

-- the size of a file, if one stands there
abbrev pub size_at : Contents → PathValue → Option ℕ
size_at c path = option_map length (all_of (file_of (entry_at c path)))

-- just so many bytes
abbrev pub is_just : ℕ → Option ℕ → Bool
is_just size None = false
is_just size (Some found) = found == size

-- so many bytes at least
abbrev pub is_least : ℕ → Option ℕ → Bool
is_least end None = false
is_least end (Some found) = nat_le end found

-- the file that a step reads, unless that is so
abbrev pub unless_so : Bool → PathValue → Option PathValue
unless_so so path = if so then None else Some path

-- .. where it isn't as the step says
abbrev pub lost_by : Contents → Step → Option PathValue
lost_by c (Folder path) = None
lost_by c (Whole from to size) = unless_so (is_just size (size_at c from)) from
lost_by c (Cut path size) = None
lost_by c (Range from to at size) = unless_so (is_least (at + size) (size_at c from)) from
lost_by c (Remove path) = None

-- the first of two
abbrev pub or_later : Option PathValue → Option PathValue → Option PathValue
or_later (Some path) later = Some path
or_later None later = later

-- .. of the steps in turn
unfoldable pub first_lost : Contents → List Step → Option PathValue
first_lost c [] = None
first_lost c (step ∷ steps) = or_later (lost_by c step) (first_lost c steps)

-- the control file, where its CRC is another
abbrev pub other_sum : Contents → PathValue → ℕ → Option PathValue
other_sum c source sum = unless_so (sum_at c source == sum) (below source control_parts)

-- the first file of the source that isn't the one of the plan
abbrev pub source_difference : Contents → PathValue → Saying → Option PathValue
source_difference c source said = first_of (other_sum c source said.source ∷ first_lost c said.steps ∷ [])
