-- What a stop may leave of changes under a mark. Own: "What a stop may leave", "Changes under a mark".
use Rattle.std.specs.Prelude.{◌≡◌, ◌⊎◌, IsTrue, true, Result, MatchResult}
use Rattle.std.specs.FinMap.{remove}
use Rattle.cluster_tree.specs.Change.{Change, call_of}
use Rattle.cluster_tree.specs.Contents.{Contents}
use Rattle.cluster_tree.specs.Frame.{moment_of}
use Rattle.cluster_tree.specs.Marks.{is_there}
use Rattle.cluster_tree.specs.PathValue.{PathValue}
use Rattle.cluster_tree.specs.Run.{Moment, Occurs}
use Rattle.cluster_tree.specs.Stops.{MayBeLeft}
use Rattle.cluster_tree.specs.declared.tree.Tree.{Ghosts}
use Rattle.marked_runs.specs.declared.faults.StepFault.{StepFault}

-- the mark stands, a folder or a link too
abbrev pub IsMarked : PathValue → Contents → Type 0
IsMarked mark c = is_there c mark ≡ true

-- it stands in the contents, and in all that a stop may leave
pub record StandsMarked (mark : PathValue) (moment : Moment) : Type 0 where
  pub now : IsMarked mark moment.state.contents
  pub left : (c : Contents) → MayBeLeft moment.stops c → IsMarked mark c

-- these contents are synced: a stop leaves nothing else
pub record StandsSynced (synced : Contents) (moment : Moment) : Type 0 where
  pub now : moment.state.contents ≡ synced
  pub left : (c : Contents) → MayBeLeft moment.stops c → c ≡ synced

-- the contents of a moment, or what a stop may have left then
abbrev pub IsUntouched : Moment → Contents → Type 0
IsUntouched moment c = (c ≡ moment.state.contents) ⊎ MayBeLeft moment.stops c

-- from a moment on while a mark is made: as then, or marked
abbrev pub IsBegun : PathValue → Moment → Contents → Type 0
IsBegun mark first c = IsUntouched first c ⊎ IsMarked mark c

-- from synced contents on while it is removed: with it, or without
abbrev pub IsGone : PathValue → Contents → Contents → Type 0
IsGone mark old c = (c ≡ old) ⊎ (c ≡ remove old mark)

-- from a mark that stands on to its end: marked, or all that was to be
abbrev pub IsEnded : PathValue → Contents → Contents → Type 0
IsEnded mark done c = IsMarked mark c ⊎ (c ≡ done)

-- of all of a run under a mark: untouched, marked or finished
abbrev pub IsSafe : PathValue → Moment → Contents → Contents → Type 0
IsSafe mark first finished c = IsUntouched first c ⊎ (IsMarked mark c ⊎ (c ≡ finished))

-- a step of one change: its call happened, or where the step broke off perhaps not
abbrev pub Took : {F : Type 0} → Ghosts F → Change → F → F → Result (Unit {0}) StepFault → Type 0
Took tree change old new result = IsTrue tree.tells → MatchResult result
    (λ _. Occurs (call_of change) (moment_of tree old) (moment_of tree new))
    (λ _. (moment_of tree new ≡ moment_of tree old) ⊎ Occurs (call_of change) (moment_of tree old) (moment_of tree new))
