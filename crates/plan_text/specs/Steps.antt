-- The steps of a plan as lines. Own: "The plan of a rewind as text".
use Rattle.std.specs.Prelude.{ℕ, ◌+◌, ◌^◌, List, [], ◌∷◌, bytes_eq, codes, decimal, length, max, nat_lt, Option, None, option_and_then, option_map, if◌then◌else◌}
use Rattle.cluster_tree.specs.PathValue.{PathValue, below}
use Rattle.rewind_writes.specs.declared.step.Step.{Step}
use Rattle.rewind_writes.specs.declared.step.Step.TheVariants.{Folder, Whole, Cut, Range, Remove}
use Rattle.mark_lines.specs.Words.{size_in}
use Rattle.mark_lines.specs.Paths.{path_word}
use Rattle.plan_text.specs.Paths.{step_parts_in}

-- the words of a step, paths below the target's root
abbrev pub step_words : PathValue → Step → List (List ℕ)
step_words root (Folder path) = codes "folder" ∷ path_word root path ∷ []
step_words root (Whole from to size) = codes "whole" ∷ path_word root to ∷ decimal size ∷ []
step_words root (Cut path size) = codes "cut" ∷ path_word root path ∷ decimal size ∷ []
step_words root (Range from to at size) = codes "range" ∷ path_word root to ∷ decimal at ∷ decimal size ∷ []
step_words root (Remove path) = codes "remove" ∷ path_word root path ∷ []

-- how many parts the longer root has
abbrev pub depth : (target source : PathValue) → ℕ
depth target source = max (length target.parts) (length source.parts)

-- the parts of a path that has room below both roots
abbrev pub parts_both : (target source : PathValue) → List ℕ → Option (List (List ℕ))
parts_both target source word = step_parts_in (depth target source) word

-- a folder that is made, and what goes
abbrev pub folder_in : (target source : PathValue) → List ℕ → Option Step
folder_in target source word = option_map (λ parts. Folder (below target parts)) (parts_both target source word)

abbrev pub removed_in : PathValue → List ℕ → Option Step
removed_in target word = option_map (λ parts. Remove (below target parts)) (step_parts_in (length target.parts) word)

-- a file that is copied whole, and one that is cut
abbrev pub whole_in : (target source : PathValue) → List ℕ → ℕ → Option Step
whole_in target source word size = option_map (λ parts. Whole (below source parts) (below target parts) size) (parts_both target source word)

abbrev pub cut_in : (target source : PathValue) → List ℕ → ℕ → Option Step
cut_in target source word size = option_map (λ parts. Cut (below target parts) size) (parts_both target source word)

-- bytes that are copied; they end at a number of 64 bits
abbrev pub range_in : (target source : PathValue) → List ℕ → (at size : ℕ) → Option Step
range_in target source word at size =
    if nat_lt (at + size) (2 ^ 64)
    then option_map (λ parts. Range (below source parts) (below target parts) at size) (parts_both target source word)
    else None

-- by a word and a path
abbrev pub pathed : (target source : PathValue) → (verb path : List ℕ) → Option Step
pathed target source verb path =
    if bytes_eq verb (codes "folder") then folder_in target source path
    else if bytes_eq verb (codes "remove") then removed_in target path
    else None

-- .. and a size
abbrev pub of_size : (target source : PathValue) → (verb path : List ℕ) → ℕ → Option Step
of_size target source verb path size =
    if bytes_eq verb (codes "whole") then whole_in target source path size
    else if bytes_eq verb (codes "cut") then cut_in target source path size
    else None

abbrev pub sized : (target source : PathValue) → (verb path size : List ℕ) → Option Step
sized target source verb path size = option_and_then (of_size target source verb path) (size_in size)

-- .. and where bytes begin, and how many they are
abbrev pub ranged : (target source : PathValue) → (verb path at size : List ℕ) → Option Step
ranged target source verb path at size =
    if bytes_eq verb (codes "range")
    then option_and_then (λ n. option_and_then (range_in target source path n) (size_in size)) (size_in at)
    else None

-- the step that words say
abbrev pub step_of : (target source : PathValue) → List (List ℕ) → Option Step
step_of target source (verb ∷ path ∷ []) = pathed target source verb path
step_of target source (verb ∷ path ∷ size ∷ []) = sized target source verb path size
step_of target source (verb ∷ path ∷ at ∷ size ∷ []) = ranged target source verb path at size
step_of target source words = None

-- folders are made before files are written, and what goes is removed behind these
abbrev pub turn : Step → ℕ
turn (Folder path) = 0
turn (Whole from to size) = 1
turn (Cut path size) = 1
turn (Range from to at size) = 1
turn (Remove path) = 2
