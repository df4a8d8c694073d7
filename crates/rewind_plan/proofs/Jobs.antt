-- Changes path by path, and what stands at each path when they are done in turn. Own: "Jobs".
use Rattle.std.specs.Prelude.{◌≡◌, ◌==◌, Bool, true, false, cond, List, [], ◌∷◌, ◌++◌, length, fold, Option, None, Some}
use Rattle.std.specs.List.{list_all}
use Rattle.cluster_tree.specs.PathValue.{PathValue}
use Rattle.cluster_tree.specs.PathOrder.{path_eq}
use Rattle.cluster_tree.specs.Contents.{Entry, FolderEntry, FileEntry, LinkEntry, parent}
use Rattle.cluster_tree.specs.Change.{Change, Writes, Cuts, MakesFile, MakesFolder, Removes, Syncs, entry_after}
use Rattle.cluster_tree.specs.Folders.{lies_in}
use Rattle.cluster_tree.specs.Tree.{file_of, refusal_in, refusal_past}

-- all changes of one path, one after another
pub record Job : Type 0 where
  pub path : PathValue
  pub changes : List Change

-- what stands at each path
abbrev pub Standing : Type 0
Standing = PathValue → Option Entry

-- the same but at one path
abbrev pub put_at : Standing → PathValue → Option Entry → Standing
put_at stands path entry q = cond (path_eq q path) entry (stands q)

-- what a path's changes make of what stands there
abbrev pub made_of : Option Entry → List Change → Option Entry
made_of = fold entry_after

abbrev pub after_job : Standing → Job → Standing
after_job stands job = put_at stands job.path (made_of (stands job.path) job.changes)

abbrev pub after_jobs : Standing → List Job → Standing
after_jobs stands [] = stands
after_jobs stands (job ∷ jobs) = after_jobs (after_job stands job) jobs

abbrev pub changes_in : List Job → List Change
changes_in [] = []
changes_in (job ∷ jobs) = job.changes ++ changes_in jobs

-- on this path, or on none
abbrev pub is_own : PathValue → Change → Bool
is_own path (Writes p at bytes) = path_eq path p
is_own path (Cuts p size) = path_eq path p
is_own path (MakesFile p) = path_eq path p
is_own path (MakesFolder p) = path_eq path p
is_own path (Removes p) = path_eq path p
is_own path Syncs = true

-- a file, or a folder without a bad name
abbrev pub is_plain : Option Entry → Bool
is_plain None = false
is_plain (Some (FolderEntry bad)) = cond bad false true
is_plain (Some (FileEntry bytes)) = true
is_plain (Some LinkEntry) = false

-- Nothing is refused of a change, by what stands at its path, in the folder above, and right below. What nothing lies in is removed alone.
abbrev pub Fits : Standing → PathValue → Option Entry → Change → Type 0
Fits stands path o (Writes p at bytes) = refusal_past (file_of o) at ≡ None
Fits stands path o (Cuts p size) = refusal_past (file_of o) size ≡ None
Fits stands path o (MakesFile p) = (o ≡ None) × (refusal_in (stands (parent path)) ≡ None)
Fits stands path o (MakesFolder p) = (o ≡ None) × (refusal_in (stands (parent path)) ≡ None)
Fits stands path o (Removes p) = (is_plain o ≡ true) × ((q : PathValue) → lies_in path q ≡ true → stands q ≡ None)
Fits stands path o Syncs = Unit {0}

abbrev pub AllFit : Standing → PathValue → Option Entry → List Change → Type 0
AllFit stands path o [] = Unit {0}
AllFit stands path o (change ∷ changes) = Fits stands path o change × AllFit stands path (entry_after o change) changes

-- the changes of a job are on its path, below a root, and none is refused
pub record JobFits (stands : Standing) (job : Job) : Type 0 where
  pub deep : length job.path.parts == 0 ≡ false
  pub own : list_all (is_own job.path) job.changes ≡ true
  pub fits : AllFit stands job.path (stands job.path) job.changes

-- so it is of each in its turn
abbrev pub JobsFit : Standing → List Job → Type 0
JobsFit stands [] = Unit {0}
JobsFit stands (job ∷ jobs) = JobFits stands job × JobsFit (after_job stands job) jobs
