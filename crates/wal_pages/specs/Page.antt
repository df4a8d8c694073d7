-- The page at a position of a log, or the one reason why there is none.
use Rattle.std.specs.Prelude.{◌≡◌, ◌⊎◌, ℕ, ◌+◌, ◌%◌, List, length, take, drop, Option, Some, None, Result, Ok, Err, nat_lt, if◌then◌else◌}
use Rattle.wal_base.specs.Segment.{bytes_of}
use Rattle.wal_base.specs.declared.segment.Segment.{Segment}
use Rattle.wal_pages.specs.declared.log_path.LogPath.{LogPath}
use Rattle.wal_pages.specs.declared.header.PageHeader.{PageHeader}
use Rattle.wal_pages.specs.declared.field.PageField.{PageField}
use Rattle.wal_pages.specs.declared.fault.PageFault.{PageFault}
use Rattle.wal_pages.specs.declared.fault.PageFault.TheVariants as fault
use Rattle.cluster_tree.specs.Causes.{given}
use Rattle.wal_pages.specs.Folder.{Folder}
use Rattle.wal_pages.specs.LogBytes.{segment_at, segment_bytes}
use Rattle.wal_pages.specs.Header.{header_of}
use Rattle.wal_pages.specs.ValidPage.{first_bad_field}

-- Why there is no page: no file of its segment's name, a file that ends before it does, or a rule that it breaks.
pub data Refusal : Type 0 where
  Missing : (segment : Segment) → Refusal
  Short : (segment : Segment) → Refusal
  Bad : (at : ℕ) (field : PageField) → Refusal

-- the 8192 bytes from an offset of a segment's file, where there is that file and it reaches so far
abbrev pub bytes_from : Segment → ℕ → Option (List ℕ) → Result (List ℕ) Refusal
bytes_from segment offset None = Err (Missing segment)
bytes_from segment offset (Some bytes) = if nat_lt (length bytes) (offset + 8192) then Err (Short segment) else Ok (take 8192 (drop offset bytes))

-- the page, unless it breaks a rule
abbrev pub unless_bad : ℕ → List ℕ → Option PageField → Result (List ℕ) Refusal
unless_bad at page None = Ok page
unless_bad at page (Some field) = Err (Bad at field)

-- the valid page that begins at a position of a log, or why there is none
unfoldable pub page_at : LogPath → Folder → ℕ → Result (List ℕ) Refusal
page_at log files at =
    given (bytes_from (segment_at log at) (at % bytes_of log.size) (segment_bytes log files at))
    (λ page. unless_bad at page (first_bad_field log at page))

-- a refusal as the fault that is answered
abbrev pub fault_of : Refusal → PageFault
fault_of (Missing segment) = fault.SegmentMissing segment
fault_of (Short segment) = fault.ShortSegment segment
fault_of (Bad at field) = fault.BadPage (record { 0 = at }) field

-- what is told of a refusal
abbrev pub told : {A : Type 0} → Result A Refusal → Result A PageFault
told (Ok v) = Ok v
told (Err refusal) = Err (fault_of refusal)

-- what is answered of a page: its header, or the fault
abbrev pub answer_of : Result (List ℕ) Refusal → Result PageHeader PageFault
answer_of (Ok page) = Ok (header_of page)
answer_of (Err refusal) = Err (fault_of refusal)

-- a fault of the device or want of memory, which may come at any page
abbrev pub IsFree : PageFault → Type 0
IsFree e = (e ≡ fault.ReadFault) ⊎ (e ≡ fault.OutOfMemory)

-- a fault names the segment of the page at a position, or that position
abbrev pub NamesPage : LogPath → ℕ → PageFault → Type 0
NamesPage log at (fault.SegmentMissing segment) = segment ≡ segment_at log at
NamesPage log at (fault.ShortSegment segment) = segment ≡ segment_at log at
NamesPage log at (fault.BadPage place field) = place.0 ≡ at
NamesPage log at fault.ReadFault = Unit {0}
NamesPage log at fault.OutOfMemory = Unit {0}
