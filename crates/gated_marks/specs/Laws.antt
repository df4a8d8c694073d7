-- What follows of such a mark, for callers. Own: "What a stop may leave", "A mark that holds its plan".
use Rattle.std.specs.Prelude.{◌≡◌, ◌⊎◌, ℕ, ◌<◌, Bool, true, false, List, [], ◌∷◌, ◌++◌, drop, length, map, None, slice_index}
use Rattle.std.specs.List.{list_any}
use Rattle.layout.specs.Splice.{splice}
use Rattle.cluster_tree.specs.Change.{Change, all_changed, call_of, first_refusal, is_on}
use Rattle.cluster_tree.specs.Contents.{Contents, entry_at, is_file}
use Rattle.cluster_tree.specs.PathValue.{PathValue}
use Rattle.cluster_tree.specs.Run.{Course, Moment}
use Rattle.cluster_tree.specs.Step.{TornBytes}
use Rattle.cluster_tree.specs.Stops.{LeavesOnly}
use Rattle.cluster_tree.specs.Tree.{bytes_at, make_refusal}
use Rattle.marked_runs.specs.Moments.{IsUntouched, StandsSynced}
use Rattle.marked_runs.specs.Runs.{Runs, ended}
use Rattle.gated_marks.specs.Changes.{begun_gated, gated}
use Rattle.gated_marks.specs.Gates.{IsComplete, IsReady, IsTold, whole_mark}
use Rattle.gated_marks.specs.Left.{IsBut, IsEndLeft, IsGatedToEnd, IsIncomplete, IsLeftOf, IsMarkLaid, IsUnder, IsUnderToEnd, stood_at, with_mark}

-- ---- the mark

-- a whole mark with a text reads as complete, and the text is read from it
pub record IsReadBack (head : List ℕ) (gate : ℕ) (text : List ℕ) : Type 0 where
  pub complete : 0 < length text → IsComplete head gate (whole_mark head gate text)
  pub read : drop (length head) (whole_mark head gate text) ≡ text

abbrev pub WholeIsRead : Type 0
WholeIsRead = (head : List ℕ) (gate : ℕ) (text : List ℕ) → gate < length head → IsReadBack head gate text

-- its changes leave it whole, and all else as it was
abbrev pub BegunIsWhole : Type 0
BegunIsWhole = (c : Contents) (mark : PathValue) (head : List ℕ) (gate : ℕ) (text : List ℕ) → gate < length head → all_changed c (begun_gated c mark head gate text) ≡ with_mark c mark (whole_mark head gate text)

-- none of them is refused where a file stands at the mark, or one can be made there
abbrev pub BegunIsUnrefused : Type 0
BegunIsUnrefused = (c : Contents) (mark : PathValue) (head : List ℕ) (gate : ℕ) (text : List ℕ) → gate < length head → (is_file (entry_at c mark) ≡ true) ⊎ (make_refusal c mark ≡ None) → first_refusal c (begun_gated c mark head gate text) ≡ None

-- while it is laid over what lets no other text be read, it isn't complete or holds this text
abbrev pub BegunIsTold : Type 0
BegunIsTold = (first : Moment) (mark : PathValue) (head : List ℕ) (gate : ℕ) (text : List ℕ) (c : Contents) → ((u : Contents) → IsUntouched first u → IsReady (stood_at first mark) head gate (bytes_at u mark))
    → IsMarkLaid first mark head gate text c → IsUntouched first c ⊎ IsBut first mark (λ old new. IsTold head gate text new) c

-- so begun on synced contents whose mark isn't complete: a stop leaves these, these with an incomplete mark, or these with the whole one
abbrev pub SyncedIsTold : Type 0
SyncedIsTold = (first : Moment) (mark : PathValue) (head : List ℕ) (gate : ℕ) (text : List ℕ) (c d : Contents) → StandsSynced c first → (IsComplete head gate (bytes_at c mark) → ⊥)
    → IsMarkLaid first mark head gate text d → (d ≡ c) ⊎ (IsIncomplete c mark head gate d ⊎ (d ≡ with_mark c mark (whole_mark head gate text)))

-- a gate that is written in part is some byte, and all else of the mark stays
abbrev pub TornByteIsByte : Type 0
TornByteIsByte = (at : ℕ) (old new : List ℕ) → at < length old → TornBytes at 1 old new → new ≡ splice old at (slice_index new at ∷ [])

-- ---- changes under it

-- however far changes ran, a stop leaves an image of their calls
abbrev pub RunIsImage : Type 0
RunIsImage = (changes : List Change) (a b : Moment) (done : Bool) → Course a b → Runs changes a.state.calls b.state.calls a.state.contents b.state.contents done → LeavesOnly (IsLeftOf a (map call_of changes)) a.stops b.stops

-- where a mark stands synced that they are off, the contents and all that a stop may leave are under it
abbrev pub BodyIsUnder : Type 0
BodyIsUnder = (old : Contents) (mark : PathValue) (bytes : List ℕ) (body : List Change) (a b : Moment) (done : Bool) → StandsSynced (with_mark old mark bytes) a → Course a b
    → Runs body a.state.calls b.state.calls a.state.contents b.state.contents done → list_any (is_on mark) body ≡ false → IsUnder old mark bytes body b.state.contents × LeavesOnly (IsUnder old mark bytes body) a.stops b.stops

-- what is under a mark is contents with that mark
abbrev pub UnderIsMarked : Type 0
UnderIsMarked = (old : Contents) (mark : PathValue) (bytes : List ℕ) (body : List Change) (c : Contents) → IsUnder old mark bytes body c → with_mark c mark bytes ≡ c

-- the end of a mark leaves what a stop could have left before it, or the contents without the mark
abbrev pub EndIsLeft : Type 0
EndIsLeft = (mark : PathValue) (a b : Moment) (done : Bool) → Course a b → Runs (ended mark) a.state.calls b.state.calls a.state.contents b.state.contents done → LeavesOnly (IsEndLeft a mark) a.stops b.stops

-- so from a whole mark on, through changes off it, to its end
abbrev pub UnderIsEnded : Type 0
UnderIsEnded = (old : Contents) (mark : PathValue) (bytes : List ℕ) (body : List Change) (a b c : Moment) (done : Bool) → StandsSynced (with_mark old mark bytes) a → Course a b → Course b c
    → Runs body a.state.calls b.state.calls a.state.contents b.state.contents true → list_any (is_on mark) body ≡ false → Runs (ended mark) b.state.calls c.state.calls b.state.contents c.state.contents done
    → LeavesOnly (IsUnderToEnd old mark bytes body (all_changed (with_mark old mark bytes) (body ++ ended mark))) a.stops c.stops

-- ---- a run in parts

-- a mark that is laid, and what comes under it
abbrev pub LaidThenUnder : Type 0
LaidThenUnder = (mark : PathValue) (head : List ℕ) (gate : ℕ) (text : List ℕ) (body : List Change) (finished : Contents) (a b c : Moment) → Course a b → Course b c → LeavesOnly (IsMarkLaid a mark head gate text) a.stops b.stops
    → LeavesOnly (IsUnderToEnd a.state.contents mark (whole_mark head gate text) body finished) b.stops c.stops → LeavesOnly (IsGatedToEnd a mark head gate text body finished) a.stops c.stops

-- so of the run whole: a stop leaves what it could have left while the mark is laid, what is under it, or all that was to be
abbrev pub RunIsSafe : Type 0
RunIsSafe = (mark : PathValue) (head : List ℕ) (gate : ℕ) (text : List ℕ) (body : List Change) (a b c d : Moment) (done : Bool) → gate < length head → Course a b → Course b c → Course c d
    → LeavesOnly (IsMarkLaid a mark head gate text) a.stops b.stops → StandsSynced (with_mark a.state.contents mark (whole_mark head gate text)) b
    → Runs body b.state.calls c.state.calls b.state.contents c.state.contents true → list_any (is_on mark) body ≡ false → Runs (ended mark) c.state.calls d.state.calls c.state.contents d.state.contents done
    → LeavesOnly (IsGatedToEnd a mark head gate text body (all_changed a.state.contents (gated a.state.contents mark head gate text body))) a.stops d.stops

-- ---- from synced contents whose mark isn't complete

-- so of a run a stop leaves these contents; these but for the mark, which isn't complete; what is under the mark; or all that was to be
abbrev pub GatedIsTold : Type 0
GatedIsTold = (first : Moment) (mark : PathValue) (head : List ℕ) (gate : ℕ) (text : List ℕ) (body : List Change) (finished c d : Contents) → StandsSynced c first → (IsComplete head gate (bytes_at c mark) → ⊥)
    → IsGatedToEnd first mark head gate text body finished d → (d ≡ c) ⊎ (IsIncomplete c mark head gate d ⊎ IsUnderToEnd c mark (whole_mark head gate text) body finished d)

-- and where the mark reads as complete, it holds this text, and all else is an image of the changes under it
abbrev pub CompleteIsUnder : Type 0
CompleteIsUnder = (first : Moment) (mark : PathValue) (head : List ℕ) (gate : ℕ) (text : List ℕ) (body : List Change) (c d : Contents) → StandsSynced c first → (IsComplete head gate (bytes_at c mark) → ⊥)
    → IsGatedToEnd first mark head gate text body (all_changed c (gated c mark head gate text body)) d → IsComplete head gate (bytes_at d mark) → IsUnder c mark (whole_mark head gate text) body d
