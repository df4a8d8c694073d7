-- Entries that are to be made, and the changes that make them. Own: "Changes with their bytes".
use Rattle.std.specs.Prelude.{◌≡◌, ℕ, ◌+◌, false, List, [], ◌∷◌, ◌++◌, map, Option}
use Rattle.std.specs.List.{flat_map}
use Rattle.cluster_tree.specs.Change.{Change, MakesFile, MakesFolder, Writes}
use Rattle.cluster_tree.specs.Contents.{Entry, FileEntry, FolderEntry, LinkEntry}
use Rattle.cluster_tree.specs.PathValue.{PathValue, below}
use Rattle.reset_plan.specs.Plan.{padded}
use Rattle.wal_records.specs.Writer.{in_pages}
use Rattle.pair_maker.specs.Blocks.{block_page}
use Rattle.pair_maker.specs.Clusters.{Named}
use Rattle.pair_maker.specs.declared.entries.NewEntry.{NewEntry}
use Rattle.pair_maker.specs.declared.entries.NewEntry.TheVariants.{Folder, File, Log, Relation}
use Rattle.pair_maker.specs.declared.entries.Placed.{Placed}

-- pages of a relation from a block on, whose inserts end so
abbrev pub pages_from : (seed block : ℕ) → List (Option ℕ) → List ℕ
pages_from seed block [] = []
pages_from seed block (end ∷ ends) = block_page seed block end ++ pages_from seed (block + 1) ends

-- what is to stand there
abbrev pub made_of : NewEntry → Entry
made_of Folder = FolderEntry false
made_of (File bytes) = FileEntry bytes.items
made_of (Log writer) = FileEntry (padded (in_pages writer.bytes) 0x10_0000)
made_of (Relation relation) = FileEntry (pages_from relation.seed 0 relation.ends.items)

-- a path, and what is to stand there
pub record Standing : Type 0 where
  pub path : PathValue
  pub entry : Entry

abbrev pub standing_of : Placed → Standing
standing_of placed = record { path = placed.path; entry = made_of placed.entry }

-- an entry below a root, by its path
abbrev pub standing_at : PathValue → Named → Standing
standing_at root n = record { path = below root n.parts; entry = n.entry }

-- behind the old entries that are to be made there are these, below a root
pub record AddsBelow (root : PathValue) (old new : List Placed) (more : List Named) : Type 0 where
  pub is : map standing_of new ≡ map standing_of old ++ map (standing_at root) more

-- the changes that make an entry, with its bytes
abbrev pub changes_at : PathValue → Entry → List Change
changes_at path (FolderEntry bad) = MakesFolder path ∷ []
changes_at path (FileEntry bytes) = MakesFile path ∷ Writes path 0 bytes ∷ []
changes_at path LinkEntry = []

-- those that make entries one after another
abbrev pub changes_of : List Standing → List Change
changes_of entries = flat_map (λ s. changes_at s.path s.entry) entries
