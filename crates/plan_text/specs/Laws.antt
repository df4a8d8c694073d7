-- What was written is read again. Own: "The plan of a rewind as text".
use Rattle.std.specs.Prelude.{◌≡◌, ℕ, ◌+◌, ◌<◌, ◌≤◌, ◌^◌, Bool, true, false, List, [], ◌∷◌, length, Ok}
use Rattle.std.specs.List.{join_with_byte, list_all}
use Rattle.std.specs.Str.{is_utf8}
use Rattle.hex.specs.Hex.{IsBytes}
use Rattle.cluster_tree.specs.PathValue.{PathValue, Holds, below, is_part}
use Rattle.rewind_survey.specs.declared.outcome.Told.{Told}
use Rattle.rewind_writes.specs.declared.step.Step.{Step}
use Rattle.rewind_writes.specs.declared.step.Step.TheVariants.{Folder, Whole, Cut, Range, Remove}
use Rattle.mark_lines.specs.Paths.{parts_below, way_of}
use Rattle.plan_text.specs.Paths.{is_kept_out}
use Rattle.plan_text.specs.Steps.{depth, turn}
use Rattle.plan_text.specs.Text.{Saying, plan_text}
use Rattle.plan_text.specs.Reading.{said_of}

-- parts that make a way: proper ones, with room below a root of so many parts, which joined aren't kept out
pub record IsWay (room : ℕ) (parts : List (List ℕ)) : Type 0 where
  pub proper : list_all is_part parts ≡ true
  pub some : 0 < length parts
  pub fits : length parts + room ≤ 64
  pub own : is_kept_out (join_with_byte 47 parts) ≡ false

-- a path below a root, at such parts
pub record IsBelow (room : ℕ) (root path : PathValue) : Type 0 where
  pub held : Holds root path
  pub way : IsWay room (parts_below root path)

-- a file of the source, and the file below the target that it is copied to
pub record IsCopied (target source from to : PathValue) : Type 0 where
  pub placed : IsBelow (depth target source) target to
  pub same : from ≡ below source (parts_below target to)

-- a step between the roots, with numbers of 64 bits
abbrev pub IsBetween : (target source : PathValue) → Step → Type 0
IsBetween target source (Folder path) = IsBelow (depth target source) target path
IsBetween target source (Whole from to size) = IsCopied target source from to × (size < 2 ^ 64)
IsBetween target source (Cut path size) = IsBelow (depth target source) target path × (size < 2 ^ 64)
IsBetween target source (Range from to at size) = IsCopied target source from to × (at + size < 2 ^ 64)
IsBetween target source (Remove path) = IsBelow (length target.parts) target path

-- .. and so it is of each step
abbrev pub AllAreBetween : (target source : PathValue) → List Step → Type 0
AllAreBetween target source [] = Unit {0}
AllAreBetween target source (step ∷ steps) = IsBetween target source step × AllAreBetween target source steps

-- what a step changes
abbrev pub changed_by : Step → PathValue
changed_by (Folder path) = path
changed_by (Whole from to size) = to
changed_by (Cut path size) = path
changed_by (Range from to at size) = to
changed_by (Remove path) = path

-- the way to what a step changes is in UTF-8, as each path is that a program made
abbrev pub is_text : PathValue → Step → Bool
is_text root step = is_utf8 (way_of root (changed_by step))

-- .. and so is that of each step
abbrev pub are_texts : PathValue → List Step → Bool
are_texts root steps = list_all (is_text root) steps

-- sizes of 64 bits
abbrev pub IsSized : Step → Type 0
IsSized (Folder path) = Unit {0}
IsSized (Whole from to size) = size < 2 ^ 64
IsSized (Cut path size) = size < 2 ^ 64
IsSized (Range from to at size) = Unit {0}
IsSized (Remove path) = Unit {0}

-- .. and so they are of each step
abbrev pub AllAreSized : List Step → Type 0
AllAreSized [] = Unit {0}
AllAreSized (step ∷ steps) = IsSized step × AllAreSized steps

-- turns that don't fall
abbrev pub InTurn : ℕ → List Step → Type 0
InTurn least [] = Unit {0}
InTurn least (step ∷ steps) = (least ≤ turn step) × InTurn (turn step) steps

-- timelines of 32 bits and positions of 64
pub record IsTold (told : Told) : Type 0 where
  pub tli : told.fork.tli < 2 ^ 32
  pub at : told.fork.at.0 < 2 ^ 64
  pub checkpoint : told.checkpoint.0 < 2 ^ 64
  pub theirs : told.tli < 2 ^ 32

-- what a plan says that a program holds: numbers of their widths, ways in UTF-8, and bytes
pub record IsHeld (target : PathValue) (said : Saying) : Type 0 where
  pub sum : said.source < 2 ^ 32
  pub told : IsTold said.told
  pub sizes : AllAreSized said.steps
  pub texts : are_texts target said.steps ≡ true
  pub label : IsBytes said.label
  pub control : IsBytes said.control

-- what a plan between two roots says
pub record IsSaid (target source : PathValue) (said : Saying) : Type 0 where
  pub sum : said.source < 2 ^ 32
  pub told : IsTold said.told
  pub steps : AllAreBetween target source said.steps
  pub turns : InTurn 0 said.steps
  pub texts : are_texts target said.steps ≡ true
  pub label : IsBytes said.label
  pub control : IsBytes said.control
  pub size : length said.control ≡ 8192

-- its text is read as just that
abbrev pub PlanTextsAreRead : Type 0
PlanTextsAreRead = (target source : PathValue) (said : Saying) → IsSaid target source said → said_of target source (plan_text target said) ≡ Ok said

-- what a text says is a plan between the roots
abbrev pub ReadPlansAreSaid : Type 0
ReadPlansAreSaid = (target source : PathValue) (text : List ℕ) (said : Saying) → said_of target source text ≡ Ok said → IsSaid target source said

-- and the text is that of the plan
abbrev pub PlansHaveOneText : Type 0
PlansHaveOneText = (target source : PathValue) (text : List ℕ) (said : Saying) → said_of target source text ≡ Ok said → text ≡ plan_text target said
