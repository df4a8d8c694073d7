-- The changes of a resume, by what the plan in the mark says, and how far they come: PostgreSQL 16, src/bin/pg_rewind/file_ops.c. Own: "A rewind that is resumed".
use Rattle.std.specs.Prelude.{List, [], ◌∷◌, ◌++◌, Option, None, Some}
use Rattle.cluster_tree.specs.Change.{Change, Syncs, Writes, all_changed, call_of, changed_by, refusal_of}
use Rattle.cluster_tree.specs.Contents.{Contents}
use Rattle.cluster_tree.specs.Laws.{changed_path}
use Rattle.cluster_tree.specs.PathValue.{PathValue, below}
use Rattle.cluster_tree.specs.declared.tree.TreeFault.{TreeFault}
use Rattle.marked_runs.specs.Runs.{ended}
use Rattle.rewind_writes.specs.Steps.{opened}
use Rattle.rewind_plan.specs.Sides.{control_parts, label_parts, mark_parts}
use Rattle.plan_text.specs.Text.{Saying}
use Rattle.resumed_laws.specs.Resumed.{resumed_steps}

-- the label is emptied or made, and the control file is written
abbrev pub closing_again : Contents → PathValue → Saying → List Change
closing_again c target said =
    opened c (below target label_parts) ∷ Writes (below target label_parts) 0 said.label ∷ Writes (below target control_parts) 0 said.control ∷ []

-- the steps in their turn, each by what stands just before it, and then these
abbrev pub body_again : Contents → PathValue → Saying → List Change
body_again c target said = resumed_steps c said.steps ++ closing_again (all_changed c (resumed_steps c said.steps)) target said

-- what a stop left is synced first, and the mark is ended last
abbrev pub changes_again : Contents → PathValue → Saying → List Change
changes_again c target said = Syncs ∷ body_again c target said ++ ended (below target mark_parts)

-- Changes that are tried in turn: those before the first one that is refused, and the path that it is on.
pub record Trial : Type 0 where
  pub before : List Change
  pub differs : Option PathValue

abbrev pub tried_by : Change → Option TreeFault → Trial → Trial
tried_by change None rest = record { before = change ∷ rest.before; differs = rest.differs }
tried_by change (Some refusal) rest = record { before = []; differs = changed_path (call_of change) }

unfoldable pub tried : Contents → List Change → Trial
tried c [] = record { before = []; differs = None }
tried c (change ∷ changes) = tried_by change (refusal_of c change) (tried (changed_by c change) changes)
