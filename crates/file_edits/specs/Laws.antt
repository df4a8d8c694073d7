-- What follows from the definitions, for callers. Own: "Edits of files say where they go", "Alike trees".
use Rattle.std.specs.Prelude.{◌≡◌, ◌≢◌, ◌⊎◌, ℕ, ◌<◌, Bool, true, false, List, [], length, take, None, Some, Ok}
use Rattle.cluster_tree.specs.Apart.{is_held}
use Rattle.cluster_tree.specs.PathValue.{PathValue, Holds, below}
use Rattle.cluster_tree.specs.Contents.{Contents, FileEntry, FolderEntry, IsTree, entry_at, is_folder, parent}
use Rattle.cluster_tree.specs.Run.{Moment, State, Course, Run}
use Rattle.cluster_tree.specs.Stops.{MayBeLeft, LeavesOnly}
use Rattle.cluster_tree.specs.Tree.{bytes_at}
use Rattle.cluster_tree.specs.declared.tree.ChangeCall.{ChangeCall}
use Rattle.file_edits.specs.Alike.{Alike, AlikeAnswers, AsDeep, SameAnswers}
use Rattle.file_edits.specs.Asking.{file_asked, folder_asked, size_asked, names_asked, read_asked}
use Rattle.file_edits.specs.Clearing.{tree_removed}
use Rattle.file_edits.specs.Edits.{file_cut, file_edited, file_removed, on_way, way_made}
use Rattle.file_edits.specs.Own.{GoesBy, GoesOn}
use Rattle.file_edits.specs.Sparing.{Piece, Shows, spares}

-- an edited file is what the edit makes of its bytes
abbrev pub EditedStands : Type 0
EditedStands = (root path : PathValue) (edit : List ℕ → List ℕ) (c d : Contents) → Holds root path → length root.parts < length path.parts → file_edited root path edit c ≡ Ok d → entry_at d path ≡ Some (FileEntry (edit (bytes_at c path)))

-- every other path holds what it held, but for folders on the way that weren't there
abbrev pub EditedElsewhere : Type 0
EditedElsewhere = (root path : PathValue) (edit : List ℕ → List ℕ) (c d : Contents) (q : PathValue) → file_edited root path edit c ≡ Ok d → q ≢ path → (entry_at d q ≡ entry_at c q) ⊎ ((on_way root path q ≡ true) × (entry_at c q ≡ None) × (entry_at d q ≡ Some (FolderEntry false)))

-- where the folders on the way were made, a path below the root holds what it held, in a folder
abbrev pub WayStands : Type 0
WayStands = (root path : PathValue) (c d : Contents) → Holds root path → length root.parts < length path.parts → way_made root path c ≡ Ok d → (entry_at d path ≡ entry_at c path) × (is_folder (entry_at d (parent path)) ≡ true)

-- and every other path what it held, but for folders on the way that weren't there
abbrev pub WayElsewhere : Type 0
WayElsewhere = (root path : PathValue) (c d : Contents) (q : PathValue) → way_made root path c ≡ Ok d → (entry_at d q ≡ entry_at c q) ⊎ ((on_way root path q ≡ true) × (entry_at c q ≡ None) × (entry_at d q ≡ Some (FolderEntry false)))

-- a file that was cut has its first bytes
abbrev pub CutStands : Type 0
CutStands = (path : PathValue) (size : ℕ) (bytes : List ℕ) (c d : Contents) → entry_at c path ≡ Some (FileEntry bytes) → file_cut path size c ≡ Ok d → entry_at d path ≡ Some (FileEntry (take size bytes))

-- where none stands nothing is cut
abbrev pub CutOfNone : Type 0
CutOfNone = (path : PathValue) (size : ℕ) (c : Contents) → entry_at c path ≡ None → file_cut path size c ≡ Ok c

-- and every other path holds what it held
abbrev pub CutElsewhere : Type 0
CutElsewhere = (path : PathValue) (size : ℕ) (c d : Contents) (q : PathValue) → file_cut path size c ≡ Ok d → q ≢ path → entry_at d q ≡ entry_at c q

-- nothing stands where a file was removed
abbrev pub RemovedIsGone : Type 0
RemovedIsGone = (path : PathValue) (c d : Contents) → 0 < length path.parts → file_removed path c ≡ Ok d → entry_at d path ≡ None

-- and every other path holds what it held
abbrev pub RemovedElsewhere : Type 0
RemovedElsewhere = (path : PathValue) (c d : Contents) (q : PathValue) → file_removed path c ≡ Ok d → q ≢ path → entry_at d q ≡ entry_at c q

-- of a folder that was removed with all that it holds every other path holds what it held
abbrev pub TreeElsewhere : Type 0
TreeElsewhere = (path : PathValue) (c d : Contents) (q : PathValue) → tree_removed path c ≡ Ok d → is_held path q ≡ false → entry_at d q ≡ entry_at c q

-- and nothing stands there or below, whatever stands lying in a folder
abbrev pub TreeIsGone : Type 0
TreeIsGone = (path : PathValue) (c d : Contents) (q : PathValue) → IsTree d → 0 < length path.parts → tree_removed path c ≡ Ok d → is_held path q ≡ true → entry_at d q ≡ None

-- calls at own paths, whatever they answered: every other path holds what it held
abbrev pub OwnElsewhere : Type 0
OwnElsewhere = (own : PathValue → Bool) (old new : State) (path : PathValue) → Run old new → GoesOn own old.calls new.calls → own path ≡ false → entry_at new.contents path ≡ entry_at old.contents path

-- calls at own paths after others are such calls together
abbrev pub OwnInTurn : Type 0
OwnInTurn = (own : PathValue → Bool) (old mid new : List ChangeCall) → GoesOn own old mid → GoesOn own mid new → GoesOn own old new

-- and more paths may be own
abbrev pub OwnIsWider : Type 0
OwnIsWider = (own more : PathValue → Bool) (old new : List ChangeCall) → ((q : PathValue) → own q ≡ true → more q ≡ true) → GoesOn own old new → GoesOn more old new

-- calls that spare a piece of a file, whatever they answered, leave its bytes
abbrev pub SparedStays : Type 0
SparedStays = (piece : Piece) (bytes : List ℕ) (old new : State) → Run old new → GoesBy (spares piece) old.calls new.calls → Shows piece bytes old.contents → Shows piece bytes new.contents

-- and so does a stop at any moment, where all that a stop might leave before had them
abbrev pub SparedAtAnyStop : Type 0
SparedAtAnyStop = (piece : Piece) (bytes : List ℕ) (old new : Moment) → Course old new → GoesBy (spares piece) old.state.calls new.state.calls → Shows piece bytes old.state.contents → ((c : Contents) → MayBeLeft old.stops c → Shows piece bytes c) → LeavesOnly (Shows piece bytes) old.stops new.stops

-- such calls after others are such calls together
abbrev pub SparedInTurn : Type 0
SparedInTurn = (piece : Piece) (old mid new : List ChangeCall) → GoesBy (spares piece) old mid → GoesBy (spares piece) mid new → GoesBy (spares piece) old new

-- calls at own paths spare each piece of a file elsewhere
abbrev pub OwnSpares : Type 0
OwnSpares = (own : PathValue → Bool) (piece : Piece) (old new : List ChangeCall) → own piece.path ≡ false → GoesOn own old new → GoesBy (spares piece) old new

-- an edit that makes alike files of alike ones leaves alike trees alike, and is refused in both or in neither
abbrev pub EditedAlike : Type 0
EditedAlike = (like : List (List ℕ) → List ℕ → List ℕ → Bool) (root other : PathValue) (parts : List (List ℕ)) (edit after : List ℕ → List ℕ) (c d : Contents) → like parts [] [] ≡ true → ((a b : List ℕ) → like parts a b ≡ true → like parts (edit a) (after b) ≡ true) → Alike like c root d other → AlikeAnswers like root other (file_edited root (below root parts) edit c) (file_edited other (below other parts) after d)

-- so does making the folders on the way
abbrev pub WayAlike : Type 0
WayAlike = (like : List (List ℕ) → List ℕ → List ℕ → Bool) (root other : PathValue) (parts : List (List ℕ)) (c d : Contents) → Alike like c root d other → AlikeAnswers like root other (way_made root (below root parts) c) (way_made other (below other parts) d)

-- so does a cut, where the first bytes of alike ones are alike
abbrev pub CutAlike : Type 0
CutAlike = (like : List (List ℕ) → List ℕ → List ℕ → Bool) (root other : PathValue) (parts : List (List ℕ)) (size : ℕ) (c d : Contents) → ((a b : List ℕ) → like parts a b ≡ true → like parts (take size a) (take size b) ≡ true) → Alike like c root d other → AlikeAnswers like root other (file_cut (below root parts) size c) (file_cut (below other parts) size d)

-- so does the removal of a file
abbrev pub RemovedAlike : Type 0
RemovedAlike = (like : List (List ℕ) → List ℕ → List ℕ → Bool) (root other : PathValue) (parts : List (List ℕ)) (c d : Contents) → 0 < length parts → Alike like c root d other → AlikeAnswers like root other (file_removed (below root parts) c) (file_removed (below other parts) d)

-- and that of a folder with all that it holds, where it is removed in both
abbrev pub TreeAlike : Type 0
TreeAlike = (like : List (List ℕ) → List ℕ → List ℕ → Bool) (root other : PathValue) (parts : List (List ℕ)) (c d e f : Contents) → 0 < length parts → Alike like c root d other → IsTree e → IsTree f → tree_removed (below root parts) c ≡ Ok e → tree_removed (below other parts) d ≡ Ok f → Alike like e root f other

-- and it is removed in both or refused in both alike. How many parts a path has hangs on its root:
-- so the roots have as many, or no path below the folder has too many in either tree
abbrev pub TreeAnswersAlike : Type 0
TreeAnswersAlike = (like : List (List ℕ) → List ℕ → List ℕ → Bool) (root other : PathValue) (parts : List (List ℕ)) (c d : Contents) → 0 < length parts → Alike like c root d other → AsDeep c (below root parts) d (below other parts) → AlikeAnswers like root other (tree_removed (below root parts) c) (tree_removed (below other parts) d)

-- in alike trees a folder is there in both or in neither
abbrev pub FolderAlike : Type 0
FolderAlike = (like : List (List ℕ) → List ℕ → List ℕ → Bool) (root other : PathValue) (parts : List (List ℕ)) (c d : Contents) → Alike like c root d other → SameAnswers root other (folder_asked (below root parts) (entry_at c (below root parts))) (folder_asked (below other parts) (entry_at d (below other parts)))

-- a file of which alike bytes are as many has the same size
abbrev pub SizeAlike : Type 0
SizeAlike = (like : List (List ℕ) → List ℕ → List ℕ → Bool) (root other : PathValue) (parts : List (List ℕ)) (c d : Contents) → ((a b : List ℕ) → like parts a b ≡ true → length a ≡ length b) → Alike like c root d other → SameAnswers root other (size_asked (file_asked (below root parts) (entry_at c (below root parts)))) (size_asked (file_asked (below other parts) (entry_at d (below other parts))))

-- a folder has the same names
abbrev pub NamesAlike : Type 0
NamesAlike = (like : List (List ℕ) → List ℕ → List ℕ → Bool) (root other : PathValue) (parts : List (List ℕ)) (c d : Contents) → Alike like c root d other → SameAnswers root other (names_asked c (below root parts) (entry_at c (below root parts))) (names_asked d (below other parts) (entry_at d (below other parts)))

-- and a file of which alike bytes are the same reads the same
abbrev pub ReadAlike : Type 0
ReadAlike = (like : List (List ℕ) → List ℕ → List ℕ → Bool) (root other : PathValue) (parts : List (List ℕ)) (at n : ℕ) (c d : Contents) → ((a b : List ℕ) → like parts a b ≡ true → a ≡ b) → Alike like c root d other → SameAnswers root other (read_asked c (below root parts) at n) (read_asked d (below other parts) at n)
