-- What a changing call leaves, whatever it answered: a write or a cut may be torn, another change was made or not. Own: "The tree of files".
use Rattle.std.specs.Prelude.{◌≡◌, ℕ, ◌+◌, ◌≤◌, ◌⊎◌, false, max, List, [], length, take, drop, Option, None}
use Rattle.std.specs.FinMap.{insert, remove}
use Rattle.cluster_tree.specs.PathValue.{PathValue}
use Rattle.cluster_tree.specs.Contents.{Contents, FileEntry, FolderEntry}
use Rattle.cluster_tree.specs.Tree.{write_refusal, cut_refusal, make_refusal, bytes_at}
use Rattle.cluster_tree.specs.Folders.{remove_refusal}
use Rattle.cluster_tree.specs.declared.tree.TreeFault.{TreeFault}
use Rattle.cluster_tree.specs.declared.tree.ChangeCall.{ChangeCall}
use Rattle.cluster_tree.specs.declared.tree.ChangeCall.TheVariants.{Write, Cut, MakeFile, MakeFolder, Remove, Sync}

-- any bytes in the range, the same elsewhere, and a size between the one before and the range's end
pub record TornBytes (at n : ℕ) (old new : List ℕ) : Type 0 where
  pub before : take at new ≡ take at old
  pub after : drop (at + n) new ≡ drop (at + n) old
  pub no_shorter : length old ≤ length new
  pub no_longer : length new ≤ max (length old) (at + n)

-- a write that may have happened in part, where it wasn't refused
pub record TornFile (path : PathValue) (at n : ℕ) (old new : Contents) : Type 0 where
  pub torn : List ℕ
  pub unrefused : write_refusal old path at ≡ None
  pub range : TornBytes at n (bytes_at old path) torn
  pub is : new ≡ insert old path (FileEntry torn)

-- nothing changed, or a write happened at least in part
abbrev pub MayTear : PathValue → ℕ → ℕ → Contents → Contents → Type 0
MayTear path at n old new = (new ≡ old) ⊎ TornFile path at n old new

-- the first of these bytes, at least so many
pub record CutBytes (size : ℕ) (old new : List ℕ) : Type 0 where
  pub no_shorter : size ≤ length new
  pub front : take (length new) old ≡ new

-- a cut that may have happened in part, where it wasn't refused
pub record CutFile (path : PathValue) (size : ℕ) (old new : Contents) : Type 0 where
  pub cut : List ℕ
  pub unrefused : cut_refusal old path size ≡ None
  pub range : CutBytes size (bytes_at old path) cut
  pub is : new ≡ insert old path (FileEntry cut)

-- nothing changed, or a cut happened at least in part
abbrev pub MayCut : PathValue → ℕ → Contents → Contents → Type 0
MayCut path size old new = (new ≡ old) ⊎ CutFile path size old new

-- a change that may have happened or not, where it wasn't refused
abbrev pub MayBe : Option TreeFault → Contents → Contents → Contents → Type 0
MayBe refusal old changed new = (new ≡ old) ⊎ ((refusal ≡ None) × (new ≡ changed))

-- what a changing call makes of the contents
abbrev pub Step : ChangeCall → Contents → Contents → Type 0
Step (Write path at n) old new = MayTear path at n old new
Step (Cut path size) old new = MayCut path size old new
Step (MakeFile path) old new = MayBe (make_refusal old path) old (insert old path (FileEntry [])) new
Step (MakeFolder path) old new = MayBe (make_refusal old path) old (insert old path (FolderEntry false)) new
Step (Remove path) old new = MayBe (remove_refusal old path) old (remove old path) new
Step Sync old new = new ≡ old
