-- What a rewind is on its way: path by path as before, or changed by what is done there. Own: "A rewind that is resumed".
use Rattle.std.specs.Prelude.{◌≡◌, ◌⊎◌, ℕ, ◌<◌, Bool, true, false, ◌||◌, nat_lt, List, length, get_or, Option, None, Some}
use Rattle.std.specs.FinMap.{get}
use Rattle.cluster_tree.specs.PathValue.{PathValue}
use Rattle.cluster_tree.specs.Contents.{Contents, Entry, FileEntry, FolderEntry, LinkEntry, entry_at, is_file}
use Rattle.rewind_writes.specs.declared.plan.FileBytes.{FileBytes}
use Rattle.rewind_writes.specs.declared.plan.Plan.{Plan}
use Rattle.rewind_writes.specs.declared.step.Step.{Step}
use Rattle.resumed_laws.specs.Groups.{Group, Untouched, Made, Copied, Mixed, Gone, Labelled, Controlled, group_at, group_in, is_gone, is_written, stays}

-- The bytes of a file on its way: what no cut drops is there; what no range is on is as it was, and none is new.
pub record AreMixed (left put : ℕ → Bool) (old new : List ℕ) : Type 0 where
  pub there : (k : ℕ) → k < length old → left k ≡ true → k < length new
  pub kept : (k : ℕ) → k < length old → left k ≡ true → put k ≡ false → get_or new k 0 ≡ get_or old k 0
  pub none_new : (k : ℕ) → k < length new → put k ≡ false → k < length old

-- a file before and now
pub record IsMixed (left put : ℕ → Bool) (before now : Option Entry) : Type 0 where
  pub old : List ℕ
  pub new : List ℕ
  pub was : before ≡ Some (FileEntry old)
  pub is : now ≡ Some (FileEntry new)
  pub bytes : AreMixed left put old new

-- nothing, or a file
abbrev pub may_be_file : Option Entry → Bool
may_be_file None = true
may_be_file (Some (FolderEntry _)) = false
may_be_file (Some (FileEntry _)) = true
may_be_file (Some LinkEntry) = false

-- What may stand at a path where it isn't as before: the folder that is made; a file of any bytes; the file cut or with ranges;
-- nothing; at the label's path nothing or a file, also where something else goes; the control file written in part.
abbrev pub IsOnWay : List Step → (control : FileBytes) → PathValue → Group → (before now : Option Entry) → Type 0
IsOnWay steps control path Untouched before now = ⊥
IsOnWay steps control path Made before now = (before ≡ None) × (now ≡ Some (FolderEntry false))
IsOnWay steps control path Copied before now = (may_be_file before ≡ true) × (is_file now ≡ true)
IsOnWay steps control path Mixed before now = IsMixed (stays steps path) (is_written steps path) before now
IsOnWay steps control path Gone before now = now ≡ None
IsOnWay steps control path Labelled before now = (may_be_file before || is_gone (group_at path steps) ≡ true) × (may_be_file now ≡ true)
IsOnWay steps control path Controlled before now = IsMixed (λ k. true) (λ k. nat_lt k (length control.bytes.items)) before now

-- each path is as before, or on its way
abbrev pub AllOnWay : Contents → List Step → (label control : FileBytes) → Contents → Type 0
AllOnWay c steps label control i = (path : PathValue) →
    (get i path ≡ get c path) ⊎ IsOnWay steps control path (group_in steps label control path) (entry_at c path) (entry_at i path)

-- so it is of a plan, between its start and its end
abbrev pub IsBetween : Contents → Plan → Contents → Type 0
IsBetween c plan i = AllOnWay c plan.steps.items plan.label plan.control i
