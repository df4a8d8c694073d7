-- What a stop may leave while such a mark is laid, and under it. Own: "What a stop may leave", "A mark that holds its plan".
use Rattle.std.specs.Prelude.{◌≡◌, ◌⊎◌, ℕ, ◌≤◌, Bool, true, false, List, length, take, drop, map, Some}
use Rattle.std.specs.FinMap.{insert, remove}
use Rattle.cluster_tree.specs.Change.{Change, call_of}
use Rattle.cluster_tree.specs.Contents.{Contents, FileEntry, entry_at, is_file}
use Rattle.cluster_tree.specs.PathValue.{PathValue}
use Rattle.cluster_tree.specs.Run.{Moment}
use Rattle.cluster_tree.specs.Step.{MayTear}
use Rattle.cluster_tree.specs.Stops.{IsImage}
use Rattle.cluster_tree.specs.Tree.{bytes_at}
use Rattle.cluster_tree.specs.declared.tree.ChangeCall.{ChangeCall}
use Rattle.marked_runs.specs.Moments.{IsUntouched}
use Rattle.gated_marks.specs.Gates.{IsComplete, IsShut, whole_mark}

-- an image of these calls, from what a stop could have left at the first moment
abbrev pub IsLeftOf : Moment → List ChangeCall → Contents → Type 0
IsLeftOf first calls c = (before : Contents) × IsUntouched first before × IsImage before calls c

-- the same of a write
abbrev pub IsLeftTorn : Moment → PathValue → (at n : ℕ) → Contents → Type 0
IsLeftTorn first path at n c = (before : Contents) × IsUntouched first before × MayTear path at n before c

-- what a stop could have left at the first moment, but for a file at the mark whose bytes are so by those that could have stood there
pub record IsBut (first : Moment) (mark : PathValue) (IsSo : (old new : List ℕ) → Type 0) (c : Contents) : Type 0 where
  pub before : Contents
  pub untouched : IsUntouched first before
  pub bytes : List ℕ
  pub is : c ≡ insert before mark (FileEntry bytes)
  pub so : IsSo (bytes_at before mark) bytes

-- a mark that is emptied: a file that stood there is cut to a first part; where none stood, and one could still be left, its bytes behind a head stay
abbrev pub IsEmptying : (stood : Bool) (size : ℕ) (old new : List ℕ) → Type 0
IsEmptying true size old new = take (length new) old ≡ new
IsEmptying false size old new = drop size new ≡ drop size old

-- its head is laid: it is emptied, or has no more than a head
abbrev pub IsHead : (stood : Bool) (size : ℕ) (old new : List ℕ) → Type 0
IsHead stood size old new = IsEmptying stood size old new ⊎ (length new ≤ size)

-- it is laid whole: it is emptied, or shut, or whole
abbrev pub IsMark : (stood : Bool) (head : List ℕ) (gate : ℕ) (text old new : List ℕ) → Type 0
IsMark stood head gate text old new = IsEmptying stood (length head) old new ⊎ (IsShut head gate new ⊎ (new ≡ whole_mark head gate text))

-- whether a file stood at the mark at the first moment
abbrev pub stood_at : Moment → PathValue → Bool
stood_at first mark = is_file (entry_at first.state.contents mark)

-- from the first moment on while a head is laid: as then, but for the mark
abbrev pub IsHeadLaid : Moment → PathValue → (size : ℕ) → Contents → Type 0
IsHeadLaid first mark size c = IsUntouched first c ⊎ IsBut first mark (IsHead (stood_at first mark) size) c

-- and while all of the mark is
abbrev pub IsMarkLaid : Moment → PathValue → (head : List ℕ) (gate : ℕ) (text : List ℕ) → Contents → Type 0
IsMarkLaid first mark head gate text c = IsUntouched first c ⊎ IsBut first mark (IsMark (stood_at first mark) head gate text) c

-- contents with a file of these bytes at the mark
abbrev pub with_mark : Contents → PathValue → (bytes : List ℕ) → Contents
with_mark c mark bytes = insert c mark (FileEntry bytes)

-- these contents but for the mark, which isn't complete
abbrev pub IsIncomplete : Contents → PathValue → (head : List ℕ) (gate : ℕ) → Contents → Type 0
IsIncomplete old mark head gate c = (bytes : List ℕ) × (c ≡ with_mark old mark bytes) × (IsComplete head gate bytes → ⊥)

-- under the mark: it holds these bytes, and all else is an image of the changes under it, from these contents
pub record IsUnder (old : Contents) (mark : PathValue) (bytes : List ℕ) (body : List Change) (c : Contents) : Type 0 where
  pub holds : entry_at c mark ≡ Some (FileEntry bytes)
  pub image : IsImage (with_mark old mark bytes) (map call_of body) c

-- the first moment's contents with the mark whole, and of the changes under it an image
abbrev pub IsUnderMark : Moment → PathValue → (head : List ℕ) (gate : ℕ) (text : List ℕ) → List Change → Contents → Type 0
IsUnderMark first mark head gate text body c = IsUnder first.state.contents mark (whole_mark head gate text) body c

-- of a run under such a mark: while the mark is laid, or under it
abbrev pub IsGated : Moment → PathValue → (head : List ℕ) (gate : ℕ) (text : List ℕ) → List Change → Contents → Type 0
IsGated first mark head gate text body c = IsMarkLaid first mark head gate text c ⊎ IsUnderMark first mark head gate text body c

-- of its end: what a stop could have left before it, or the contents without the mark
abbrev pub IsEndLeft : Moment → PathValue → Contents → Type 0
IsEndLeft first mark c = IsUntouched first c ⊎ (c ≡ remove first.state.contents mark)

-- from a whole mark on to its end: under it, or all that was to be
abbrev pub IsUnderToEnd : Contents → PathValue → (bytes : List ℕ) → List Change → (finished : Contents) → Contents → Type 0
IsUnderToEnd old mark bytes body finished c = IsUnder old mark bytes body c ⊎ (c ≡ finished)

-- of all of a run under such a mark: while the mark is laid, under it, or all that was to be
abbrev pub IsGatedToEnd : Moment → PathValue → (head : List ℕ) (gate : ℕ) (text : List ℕ) → List Change → (finished : Contents) → Contents → Type 0
IsGatedToEnd first mark head gate text body finished c = IsGated first mark head gate text body c ⊎ (c ≡ finished)
