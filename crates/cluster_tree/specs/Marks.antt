-- The mark files that stand at a root while a run isn't finished. Own: "Mark files".
use Rattle.std.specs.Prelude.{ℕ, ◌==◌, Bool, cond, [], ◌∷◌, Option, None, Some, is_some, codes}
use Rattle.cluster_tree.specs.PathValue.{PathValue, below}
use Rattle.cluster_tree.specs.Contents.{Contents, entry_at}

-- their paths
pub record MarkPaths : Type 0 where
  pub rewind : PathValue
  pub replay : PathValue
  pub reset : PathValue

-- those below a root
abbrev pub marks_of : PathValue → MarkPaths
marks_of root = record {
  rewind = below root (codes "pg_rewind.unfinished" ∷ []);
  replay = below root (codes "pg_walreplay.unfinished" ∷ []);
  reset = below root (codes "pg_resetwal.unfinished" ∷ []);
}

-- whether anything stands at a path, a folder or a link too
abbrev pub is_there : Contents → PathValue → Bool
is_there c path = is_some (entry_at c path)

-- the number of the first mark that is there
abbrev pub first_mark : Contents → MarkPaths → Option ℕ
first_mark c marks = cond (is_there c marks.rewind) (Some 0) (cond (is_there c marks.replay) (Some 1) (cond (is_there c marks.reset) (Some 2) None))

-- the path of the mark of a number
abbrev pub mark_at : MarkPaths → ℕ → Option PathValue
mark_at marks number = cond (number == 0) (Some marks.rewind) (cond (number == 1) (Some marks.replay) (cond (number == 2) (Some marks.reset) None))
