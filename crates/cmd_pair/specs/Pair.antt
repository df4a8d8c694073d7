-- What pair does. Own: "A pair from a number", "Commands of this project's own".
use Rattle.std.specs.Prelude.{◌≡◌, ◌⊎◌, ℕ, List, [], ◌∷◌, codes, decimal, filter, is_some, length, map, Option, None, Some, if◌then◌else◌}
use Rattle.std.specs.List.{concat, range_with_len}
use Rattle.cluster_tree.specs.Causes.{first_of}
use Rattle.cluster_tree.specs.Contents.{Contents, entry_at, is_folder}
use Rattle.cluster_tree.specs.PathValue.{PathValue}
use Rattle.touched_blocks.specs.Touched.{touches}
use Rattle.pair_maker.specs.Inserts.{insert_blocks, pair_relation}
use Rattle.pair_maker.specs.declared.side.Side.TheVariants.{Target, Source}
use Rattle.pair_laws.specs.Life.{side_records}
use Rattle.pair_laws.specs.Stands.{copy_of, source_of, target_of}
use Rattle.commands.specs.declared.pair.PairWords.{PairWords}
use Rattle.acts.specs.Acts.{Act, Print, Within}
use Rattle.run_acts.specs.Answers.{Answer, does, refused}
use Rattle.run_acts.specs.Causes.{IsOfLook}
use Rattle.run_acts.specs.declared.cause.Cause.{Cause}
use Rattle.run_acts.specs.declared.cause.Cause.TheVariants as cause
use Rattle.run_acts.specs.declared.cause.PathCause.TheVariants as paths

-- something stands at a path
abbrev pub occupied : Contents → PathValue → Option Cause
occupied c path = if is_some (entry_at c path) then Some (cause.Paths (paths.Occupied path)) else None

-- where the clusters of a pair are to stand, in order
abbrev pub places : PathValue → List PathValue
places root = target_of root ∷ source_of root ∷ copy_of root ∷ []

-- the root is no folder
abbrev pub folder_refusal : Contents → PathValue → Option Cause
folder_refusal c root = if is_folder (entry_at c root) then None else Some (cause.Paths (paths.NotFolder root))

-- why no pair is made in a folder: it is none, or something stands at one of the three paths
unfoldable pub room_refusal : Contents → PathValue → Option Cause
room_refusal c root = first_of (folder_refusal c root ∷ map (occupied c) (places root))

-- how many of the relation's blocks the target's log touches
abbrev pub touched_count : (seed blocks : ℕ) → ℕ
touched_count seed blocks = length (filter (touches (side_records Target seed blocks) pair_relation) (range_with_len 0 blocks))

-- a line of these numbers, which says that both replays ended alike
unfoldable pub line_of : (seed blocks target source touched : ℕ) → List ℕ
line_of seed blocks target source touched =
    concat (codes "pair: seed " ∷ decimal seed ∷ codes ", blocks " ∷ decimal blocks ∷ codes ", target inserts " ∷ decimal target ∷ codes ", source inserts " ∷ decimal source
    ∷ codes ", touched " ∷ decimal touched ∷ codes ", no difference\n" ∷ [])

-- that on a pair: how many inserts each cluster has, and how many blocks the target's log touches
abbrev pub pair_line : (seed blocks : ℕ) → List ℕ
pair_line seed blocks = line_of seed blocks (length (insert_blocks Target seed blocks)) (length (insert_blocks Source seed blocks)) (touched_count seed blocks)

-- changes of the three clusters alone, and then the line
abbrev pub pair_acts : PairWords → List Act
pair_acts words = Within (places words.root) None ∷ Print (pair_line words.seed words.blocks) ∷ []

abbrev pub room_answer : PairWords → Option Cause → Answer
room_answer words None = does (pair_acts words)
room_answer words (Some e) = refused e

-- what is done in a folder; each refusal comes before the first change
abbrev pub pair_answer : Contents → PairWords → Answer
pair_answer c words = room_answer words (room_refusal c words.root)

-- over every tree: that, or a refusal while it looks
abbrev pub IsPair : PairWords → Answer → Type 0
IsPair words answer = (answer ≡ does (pair_acts words)) ⊎ ((e : Cause) × IsOfLook e × (answer ≡ refused e))
