-- The changes of a reset that was made ready. Own: "A reset of the log".
use Rattle.std.specs.Prelude.{ℕ, ◌-◌, List, [], ◌∷◌, ◌++◌, codes, length, map, replicate}
use Rattle.cluster_tree.specs.Change.{Change, MakesFile, Removes, Writes}
use Rattle.control_file.specs.Writing.{control_bytes}
use Rattle.marked_runs.specs.Runs.{marked}
use Rattle.wal_records.specs.Writer.{in_pages}
use Rattle.reset_plan.specs.declared.plan.Body.{Body}
use Rattle.reset_plan.specs.declared.plan.Files.{Files}
use Rattle.reset_plan.specs.declared.plan.Plan.{Plan}

-- bytes, and zeros up to a size
abbrev pub padded : List ℕ → ℕ → List ℕ
padded page size = page ++ replicate (size - length page) 0

abbrev pub files_changes : Files → List Change
files_changes files = map Removes files.gone.items ++ MakesFile files.path ∷ Writes files.path 0 (padded (in_pages files.page.bytes) files.size) ∷ []

abbrev pub body_changes : Body → List Change
body_changes body = Writes body.path 0 (control_bytes body.control) ∷ files_changes body.files

abbrev pub plan_changes : Plan → List Change
plan_changes plan = marked plan.mark (codes "pg_resetwal 1\n") (body_changes plan.body)
