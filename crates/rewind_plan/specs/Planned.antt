-- The steps of a rewind, in their order: PostgreSQL 16, src/bin/pg_rewind/filemap.c, decide_file_actions, and pg_rewind.c,
-- perform_rewind. Own: "The plan of a rewind".
use Rattle.std.specs.Prelude.{ℕ, Bool, List, [], ◌∷◌, ◌++◌, Option, None, Some}
use Rattle.cluster_tree.specs.PathValue.{PathValue, below}
use Rattle.block_refs.specs.declared.names.RelName.{RelName}
use Rattle.file_walk.specs.Actions.{action_at}
use Rattle.file_walk.specs.Relations.{relation_of}
use Rattle.file_walk.specs.declared.action.Action.{Action}
use Rattle.file_walk.specs.declared.action.Action.TheVariants as action
use Rattle.file_walk.specs.declared.entry.EntryKind.{EntryKind}
use Rattle.file_walk.specs.declared.entry.EntryKind.TheVariants as kind
use Rattle.file_walk.specs.declared.pair.Pair.{Pair}
use Rattle.rewind_writes.specs.declared.step.Step.{Step}
use Rattle.rewind_writes.specs.declared.step.Step.TheVariants.{Folder, Whole, Remove}
use Rattle.rewound_tree.specs.Mixed.{is_wanted}
use Rattle.rewind_plan.specs.Blocks.{block_steps}

-- the roots of both clusters, how many blocks a file has at most, and which blocks of relations are wanted
pub record Between : Type 0 where
  pub target : PathValue
  pub source : PathValue
  pub per_file : ℕ
  pub wanted : RelName → ℕ → Bool

-- the place of a pair on either side
abbrev pub in_target : Between → Pair → PathValue
in_target w pair = below w.target pair.path.parts

abbrev pub in_source : Between → Pair → PathValue
in_source w pair = below w.source pair.path.parts

-- the blocks of a segment that are wanted
abbrev pub wants : Between → RelName → (segment block : ℕ) → Bool
wants w = is_wanted w.wanted w.per_file

-- a whole file
abbrev pub whole_step : Between → Pair → Option EntryKind → List Step
whole_step w pair None = []
whole_step w pair (Some (kind.File size)) = Whole (in_source w pair) (in_target w pair) size ∷ []
whole_step w pair (Some kind.Folder) = []

-- the blocks of a main fork's file that both have
abbrev pub both_files : Between → Pair → RelName × ℕ → (target source : Option EntryKind) → List Step
both_files w pair at (Some (kind.File old)) (Some (kind.File new)) = block_steps (in_source w pair) (in_target w pair) (wants w at.0 at.1) old new
both_files w pair at (Some (kind.File old)) (Some kind.Folder) = []
both_files w pair at (Some (kind.File old)) None = []
both_files w pair at (Some kind.Folder) source = []
both_files w pair at None source = []

abbrev pub touched_steps : Between → Pair → Option (RelName × ℕ) → List Step
touched_steps w pair None = []
touched_steps w pair (Some at) = both_files w pair at pair.target pair.source

-- what each action does, in its turn
abbrev pub folder_step : Between → Pair → Action → List Step
folder_step w pair action.Nothing = []
folder_step w pair action.MakeFolder = Folder (in_target w pair) ∷ []
folder_step w pair action.Copy = []
folder_step w pair action.Tail = []
folder_step w pair action.Cut = []
folder_step w pair action.Remove = []
folder_step w pair action.KindsDiffer = []

abbrev pub file_steps : Between → Pair → Action → List Step
file_steps w pair action.Nothing = touched_steps w pair (relation_of pair.path)
file_steps w pair action.MakeFolder = []
file_steps w pair action.Copy = whole_step w pair pair.source
file_steps w pair action.Tail = touched_steps w pair (relation_of pair.path)
file_steps w pair action.Cut = touched_steps w pair (relation_of pair.path)
file_steps w pair action.Remove = []
file_steps w pair action.KindsDiffer = []

abbrev pub removal_step : Between → Pair → Action → List Step
removal_step w pair action.Nothing = []
removal_step w pair action.MakeFolder = []
removal_step w pair action.Copy = []
removal_step w pair action.Tail = []
removal_step w pair action.Cut = []
removal_step w pair action.Remove = Remove (in_target w pair) ∷ []
removal_step w pair action.KindsDiffer = []

abbrev pub action_of : Pair → Action
action_of pair = action_at pair.path pair.target pair.source

-- folders that are made, ascending, then files, ascending, and then what goes, descending
abbrev pub folder_steps : Between → List Pair → List Step
folder_steps w [] = []
folder_steps w (pair ∷ pairs) = folder_step w pair (action_of pair) ++ folder_steps w pairs

abbrev pub all_file_steps : Between → List Pair → List Step
all_file_steps w [] = []
all_file_steps w (pair ∷ pairs) = file_steps w pair (action_of pair) ++ all_file_steps w pairs

abbrev pub removal_steps : Between → List Pair → List Step
removal_steps w [] = []
removal_steps w (pair ∷ pairs) = removal_steps w pairs ++ removal_step w pair (action_of pair)

abbrev pub steps_of : Between → List Pair → List Step
steps_of w pairs = folder_steps w pairs ++ (all_file_steps w pairs ++ removal_steps w pairs)
