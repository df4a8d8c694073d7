-- What the definitions come to, in plain cases. Own: "The folder of a dump", "The bounds of a dump".
use Rattle.std.specs.Prelude.{◌≡◌, ◌⊎◌, ℕ, ◌+◌, ◌*◌, true, false, List, [], ◌∷◌, Option, None, Some, Ok, unwrap_or}
use Rattle.std.specs.declared.cmp.Ordering.TheVariants.{Less}
use Rattle.std.specs.Ordering.{nat_cmp}
use Rattle.std.specs.Cmp.Lexicographic.{slice_cmp}
use Rattle.cluster_tree.specs.PathValue.{PathValue, below}
use Rattle.cluster_tree.specs.Contents.{Contents, entry_at}
use Rattle.cluster_tree.specs.Folders.{list_refusal}
use Rattle.wal_base.specs.Segment.{bytes_of, segment_named}
use Rattle.wal_base.specs.declared.lsn.Lsn.{Lsn}
use Rattle.wal_base.specs.declared.seg_size.SegSize.{SegSize}
use Rattle.wal_base.specs.declared.segment.Segment.{Segment}
use Rattle.commands.specs.declared.waldump.DumpWords.{DumpWords}
use Rattle.commands.specs.declared.waldump.Filters.{Filters}
use Rattle.log_folder.specs.Listing.{is_segment, least_segment}
use Rattle.log_folder.specs.Folder.{wal_in}
use Rattle.log_folder.specs.Segment.{head_at, size_in}
use Rattle.log_folder.specs.Bounds.{lsn_at, end_at}
use Rattle.log_folder.specs.Found.{found_log, found_in}

-- a file of the folder with the name of a segment, and no other such name is below it
pub record IsLeast (c : Contents) (folder : PathValue) (name : List ℕ) : Type 0 where
  pub one : is_segment c folder name ≡ true
  pub least : (other : List ℕ) → is_segment c folder other ≡ true → (name ≡ other) ⊎ (slice_cmp nat_cmp name other ≡ Less)

-- the least segment is the least one
abbrev pub LeastIsLeast : Type 0
LeastIsLeast = (c : Contents) (folder : PathValue) (name : List ℕ) → least_segment c folder ≡ Some name → IsLeast c folder name

-- and where there is none, no file has the name of a segment
abbrev pub NoneIsNone : Type 0
NoneIsNone = (c : Contents) (folder : PathValue) (other : List ℕ) → least_segment c folder ≡ None → is_segment c folder other ≡ false

-- in a folder that can be listed stands a segment of this name, whose first 40 bytes tell the size
pub record HasSegment (c : Contents) (folder : PathValue) (name : List ℕ) (size : SegSize) : Type 0 where
  pub listed : list_refusal (entry_at c folder) ≡ None
  pub head : List ℕ
  pub bytes : head_at c (below folder (name ∷ [])) ≡ Ok head
  pub sized : size_in head ≡ Some size

-- the words that give STARTSEG in a folder, and a timeline or none
abbrev pub segment_words : PathValue → List ℕ → Option ℕ → Filters → DumpWords
segment_words folder name timeline filters = record { folder = folder; first = Some name; last = None; start = None; stop = None; timeline = timeline; filters = filters }

-- STARTSEG alone: its own bytes are dumped, on its timeline, whatever else lies in its folder
abbrev pub SegmentIsFound : Type 0
SegmentIsFound = (c : Contents) (folder : PathValue) (name : List ℕ) (timeline : Option ℕ) (filters : Filters) (size : SegSize) (segment : Segment)
    → HasSegment c folder name size → segment_named size name ≡ Some segment
    → found_in c (segment_words folder name timeline filters) ≡ Ok (found_log folder size (record {
      tli = segment.tli;
      start = lsn_at (segment.number * bytes_of segment.size);
      stop = end_at (segment.number * bytes_of segment.size + bytes_of segment.size);
    }) filters)

-- the words that give a folder and -s, and a stop and a timeline or none
abbrev pub folder_words : PathValue → Lsn → Option Lsn → Option ℕ → Filters → DumpWords
folder_words folder start stop timeline filters = record { folder = folder; first = None; last = None; start = Some start; stop = stop; timeline = timeline; filters = filters }

-- a folder that is a cluster, whose log lies in pg_wal: that is dumped from -s on, on the timeline given, or 1
abbrev pub WalIsTaken : Type 0
WalIsTaken = (c : Contents) (folder : PathValue) (start : Lsn) (stop : Option Lsn) (timeline : Option ℕ) (filters : Filters) (name : List ℕ) (size : SegSize)
    → list_refusal (entry_at c folder) ≡ None → least_segment c folder ≡ None
    → least_segment c (wal_in folder) ≡ Some name → HasSegment c (wal_in folder) name size
    → found_in c (folder_words folder start stop timeline filters) ≡ Ok (found_log (wal_in folder) size (record { tli = unwrap_or timeline 1; start = start; stop = stop }) filters)
