-- Which bytes of a file the changing calls of a function leave as they are. Own: "Calls that spare bytes".
use Rattle.std.specs.Prelude.{◌≡◌, ℕ, ◌+◌, ◌-◌, ◌≤◌, Bool, true, not, ◌||◌, nat_le, List, length, take, drop}
use Rattle.cluster_tree.specs.PathValue.{PathValue}
use Rattle.cluster_tree.specs.PathOrder.{path_eq}
use Rattle.cluster_tree.specs.Contents.{Contents, entry_at, is_file}
use Rattle.cluster_tree.specs.Frame.{state_of}
use Rattle.cluster_tree.specs.Run.{State}
use Rattle.cluster_tree.specs.Tree.{bytes_at}
use Rattle.cluster_tree.specs.declared.tree.ChangeCall.{ChangeCall}
use Rattle.cluster_tree.specs.declared.tree.ChangeCall.TheVariants.{Write, Cut, MakeFile, MakeFolder, Remove, Sync}
use Rattle.cluster_tree.specs.declared.tree.Tree.{Ghosts}
use Rattle.file_edits.specs.Own.{GoesBy}

-- a piece of a file: its bytes from an offset on, up to another
pub record Piece : Type 0 where
  pub path : PathValue
  pub from : ℕ
  pub to : ℕ

-- a changing call leaves the piece as it is, carried out whole, in part or not at all, where a file stands there that has it:
-- nothing is made where something stands
abbrev pub spares : Piece → ChangeCall → Bool
spares piece (Write path at n) = not (path_eq piece.path path) || nat_le (at + n) piece.from || nat_le piece.to at
spares piece (Cut path size) = not (path_eq piece.path path) || nat_le piece.to size
spares piece (MakeFile path) = true
spares piece (MakeFolder path) = true
spares piece (Remove path) = not (path_eq piece.path path)
spares piece Sync = true

-- a file stands there that has the piece, and these are its bytes
pub record Shows (piece : Piece) (bytes : List ℕ) (c : Contents) : Type 0 where
  pub file : is_file (entry_at c piece.path) ≡ true
  pub whole : piece.to ≤ length (bytes_at c piece.path)
  pub shown : take (piece.to - piece.from) (drop piece.from (bytes_at c piece.path)) ≡ bytes

-- the changing calls since a list of them each spare the piece, and it has these bytes
pub record Spared (piece : Piece) (bytes : List ℕ) (first : List ChangeCall) (now : State) : Type 0 where
  pub calls : GoesBy (spares piece) first now.calls
  pub shows : Shows piece bytes now.contents

-- each changing call that came spares the piece, which keeps its bytes: so where the calls before spared it, all do
abbrev pub Spares : {F : Type 0} → Ghosts F → Piece → F → F → Type 0
Spares tree piece old new = (bytes : List ℕ) (first : List ChangeCall) → Spared piece bytes first (state_of tree old) → Spared piece bytes first (state_of tree new)
