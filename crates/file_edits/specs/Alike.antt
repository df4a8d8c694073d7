-- Trees that are alike below two roots: what an edit answers doesn't hang on where a tree stands. Own: "Alike trees".
use Rattle.std.specs.Prelude.{◌≡◌, ◌⊎◌, ◌≤◌, Bool, true, ℕ, List, length, drop, Option, None, Some, is_some, Result, Ok, Err}
use Rattle.cluster_tree.specs.Apart.{is_held}
use Rattle.cluster_tree.specs.PathValue.{PathValue, below}
use Rattle.cluster_tree.specs.Below.{tree_below}
use Rattle.cluster_tree.specs.Contents.{Contents, Entry, FolderEntry, FileEntry, LinkEntry, entry_at}
use Rattle.cluster_tree.specs.declared.file_fault.FileFault.{FileFault}
use Rattle.cluster_tree.specs.declared.file_fault.FileFault.TheVariants as fault

-- entries of one kind, files of bytes that a test takes for alike
pub data AlikeEntries (like : List ℕ → List ℕ → Bool) : Option Entry → Option Entry → Type 0 where
  Neither : AlikeEntries like None None
  Folders : (has_bad_name : Bool) → AlikeEntries like (Some (FolderEntry has_bad_name)) (Some (FolderEntry has_bad_name))
  Files : (bytes other : List ℕ) → like bytes other ≡ true → AlikeEntries like (Some (FileEntry bytes)) (Some (FileEntry other))
  Links : AlikeEntries like (Some LinkEntry) (Some LinkEntry)

-- at every path below the roots; the test may be another at each
abbrev pub Alike : (List (List ℕ) → List ℕ → List ℕ → Bool) → Contents → PathValue → Contents → PathValue → Type 0
Alike like c root d other = (parts : List (List ℕ)) → AlikeEntries (like parts) (tree_below c root parts) (tree_below d other parts)

-- a path below a root, below another
abbrev pub moved_path : PathValue → PathValue → PathValue → PathValue
moved_path root other path = below other (drop (length root.parts) path.parts)

-- and a refusal with such a path
abbrev pub moved : PathValue → PathValue → FileFault → FileFault
moved root other fault.ReadFault = fault.ReadFault
moved root other fault.WriteFault = fault.WriteFault
moved root other (fault.Link path) = fault.Link (moved_path root other path)
moved root other (fault.NotFolder path) = fault.NotFolder (moved_path root other path)
moved root other (fault.IsFolder path) = fault.IsFolder (moved_path root other path)
moved root other (fault.NameNotText path) = fault.NameNotText (moved_path root other path)
moved root other (fault.TooDeep path) = fault.TooDeep (moved_path root other path)
moved root other (fault.Changed path) = fault.Changed (moved_path root other path)
moved root other fault.OutOfMemory = fault.OutOfMemory

-- both are refused alike, or neither is and the contents are alike
abbrev pub AlikeAnswers : (List (List ℕ) → List ℕ → List ℕ → Bool) → PathValue → PathValue → Result Contents FileFault → Result Contents FileFault → Type 0
AlikeAnswers like root other (Ok c) (Ok d) = Alike like c root d other
AlikeAnswers like root other (Ok c) (Err f) = ⊥
AlikeAnswers like root other (Err e) (Ok d) = ⊥
AlikeAnswers like root other (Err e) (Err f) = f ≡ moved root other e

-- or the same is told
abbrev pub SameAnswers : {A : Type 0} → PathValue → PathValue → Result A FileFault → Result A FileFault → Type 0
SameAnswers root other (Ok a) (Ok b) = a ≡ b
SameAnswers root other (Ok a) (Err f) = ⊥
SameAnswers root other (Err e) (Ok b) = ⊥
SameAnswers root other (Err e) (Err f) = f ≡ moved root other e

-- no path that a folder holds has more parts than a path may have
abbrev pub IsShallow : Contents → PathValue → Type 0
IsShallow c folder = (q : PathValue) → is_held folder q ≡ true → is_some (entry_at c q) ≡ true → length q.parts ≤ 64

-- two folders have as many parts, or neither holds a path of too many
abbrev pub AsDeep : Contents → PathValue → Contents → PathValue → Type 0
AsDeep c folder d other = (length folder.parts ≡ length other.parts) ⊎ (IsShallow c folder × IsShallow d other)
