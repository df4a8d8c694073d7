-- What of a plan makes it one that can be resumed. Own: "A rewind that is resumed".
use Rattle.std.specs.Prelude.{◌≡◌, ◌≢◌, ℕ, true, List, None}
use Rattle.cluster_tree.specs.PathValue.{PathValue}
use Rattle.cluster_tree.specs.Contents.{Contents, parent}
use Rattle.cluster_tree.specs.Change.{first_refusal}
use Rattle.gated_marks.specs.Left.{with_mark}
use Rattle.rewind_writes.specs.Plan.{body_changes, mark_bytes}
use Rattle.rewind_writes.specs.Steps.{FindAll}
use Rattle.rewind_writes.specs.Taken.{AllAreAsFound}
use Rattle.rewind_writes.specs.declared.plan.Plan.{Plan}
use Rattle.resumed_laws.specs.Groups.{Gone, Untouched, AllAreProper, AreGrouped, group_at, group_in, is_free, is_made}

-- On each path there is one group, where the label comes an entry may go before, and the control file has none; and what is made
-- lies in no folder that goes.
pub record IsInGroups (plan : Plan) : Type 0 where
  pub proper : AllAreProper plan.steps.items
  pub grouped : AreGrouped plan.steps.items
  pub label : is_free (group_at plan.label.path plan.steps.items) ≡ true
  pub control : group_at plan.control.path plan.steps.items ≡ Untouched
  pub apart : plan.label.path ≢ plan.control.path
  pub rooms : (path : PathValue) → is_made (group_in plan.steps.items plan.label plan.control path) ≡ true → group_at (parent path) plan.steps.items ≢ Gone

-- By what was found before all changes, of contents in which the mark stands: nothing refuses the changes under it in turn, and what
-- the steps read is there, as it was found, and none of these changes is on it.
pub record IsPlanSound (found c : Contents) (plan : Plan) : Type 0 where
  pub groups : IsInGroups plan
  pub unrefused : first_refusal c (body_changes found plan) ≡ None
  pub reads : FindAll found (body_changes found plan) plan.steps.items
  pub as_found : AllAreAsFound found c plan.steps.items

-- these contents with the whole mark of a rewind, which holds this text
abbrev pub with_whole_mark : Contents → (text : List ℕ) → Plan → Contents
with_whole_mark c text plan = with_mark c plan.mark (mark_bytes text)
