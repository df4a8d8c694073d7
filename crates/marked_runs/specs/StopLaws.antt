-- What a stop may leave of a run under a mark, for callers. Own: "What a stop may leave", "Changes under a mark".
use Rattle.std.specs.Prelude.{◌≡◌, Bool, false, List}
use Rattle.std.specs.List.{list_any}
use Rattle.cluster_tree.specs.Change.{Change, is_on}
use Rattle.cluster_tree.specs.Contents.{Contents}
use Rattle.cluster_tree.specs.PathValue.{PathValue}
use Rattle.cluster_tree.specs.Run.{Moment, Course}
use Rattle.cluster_tree.specs.Stops.{LeavesOnly}
use Rattle.marked_runs.specs.Moments.{IsBegun, IsEnded, IsMarked, IsSafe, StandsMarked}
use Rattle.marked_runs.specs.Runs.{Runs}

-- a mark that stands in all that a stop may leave does so after changes off it, however far they ran
abbrev pub MarkStays : Type 0
MarkStays = (mark : PathValue) (changes : List Change) (a b : Moment) (done : Bool) → StandsMarked mark a → Course a b → Runs changes a.state.calls b.state.calls a.state.contents b.state.contents done → list_any (is_on mark) changes ≡ false → StandsMarked mark b

-- and a stop at any moment of them leaves it
abbrev pub MarkIsLeft : Type 0
MarkIsLeft = (mark : PathValue) (changes : List Change) (a b : Moment) (done : Bool) → StandsMarked mark a → Course a b → Runs changes a.state.calls b.state.calls a.state.contents b.state.contents done → list_any (is_on mark) changes ≡ false → LeavesOnly (IsMarked mark) a.stops b.stops

-- so of a run in three parts a stop at any moment leaves what is untouched, marked or finished
abbrev pub RunIsSafe : Type 0
RunIsSafe = (mark : PathValue) (a b c d : Moment) (finished : Contents) → Course a b → Course b c → Course c d
    → LeavesOnly (IsBegun mark a) a.stops b.stops → LeavesOnly (IsMarked mark) b.stops c.stops → LeavesOnly (IsEnded mark finished) c.stops d.stops
    → LeavesOnly (IsSafe mark a finished) a.stops d.stops
