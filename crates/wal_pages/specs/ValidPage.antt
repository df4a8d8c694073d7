-- Valid pages of a log: PostgreSQL 16, src/backend/access/transam/xlogreader.c, XLogReaderValidatePageHeader;
-- src/include/access/xlog_internal.h, XLOG_PAGE_MAGIC and XLP_ALL_FLAGS. Own: "The order of a page's rules".
use Rattle.std.specs.Prelude.{◌≡◌, ◌≤◌, ◌<◌, ℕ, ◌%◌, ◌==◌, ◌&&◌, ◌||◌, not, Bool, true, List, [], ◌∷◌, Option, Some, None, find, nat_lt, nat_le, if◌then◌else◌}
use Rattle.layout.specs.Readers.{u16_at, u32_at, u64_at}
use Rattle.wal_base.specs.Segment.{bytes_of}
use Rattle.wal_pages.specs.declared.log_path.LogPath.{LogPath}
use Rattle.wal_pages.specs.declared.field.PageField.{PageField}
use Rattle.wal_pages.specs.declared.field.PageField.TheVariants.{Magic, Info, Timeline, Address, System, SegmentSize, BlockSize}
use Rattle.wal_pages.specs.Header.{has_bit}
use Rattle.wal_pages.specs.LogBytes.{segment_at}

-- the page at a position is its segment's first
abbrev pub is_first : LogPath → ℕ → Bool
is_first log at = at % bytes_of log.size == 0

-- a bit is set exactly where something holds
abbrev pub set_where : Bool → Bool → Bool
set_where holds bit = if holds then bit else not bit

-- the system that is wanted, if one is
abbrev pub is_wanted : Option ℕ → ℕ → Bool
is_wanted None system = true
is_wanted (Some wanted) system = system == wanted

-- whether the page at a position keeps the rule of a field
abbrev pub keeps : LogPath → ℕ → List ℕ → PageField → Bool
keeps log at page Magic = u16_at 0 page == 0xD113
keeps log at page Info = nat_lt (u16_at 2 page) 16 && set_where (is_first log at) (has_bit (u16_at 2 page) 2)
keeps log at page Timeline = nat_le 1 (u32_at 4 page) && nat_le (u32_at 4 page) (segment_at log at).tli
keeps log at page Address = u64_at 8 page == at
keeps log at page System = not (is_first log at) || is_wanted log.system (u64_at 24 page)
keeps log at page SegmentSize = not (is_first log at) || u32_at 32 page == bytes_of log.size
keeps log at page BlockSize = not (is_first log at) || u32_at 36 page == 8192

-- the fields in the order in which their rules are tried
abbrev pub fields : List PageField
fields = Magic ∷ Info ∷ Timeline ∷ Address ∷ System ∷ SegmentSize ∷ BlockSize ∷ []

-- the first field whose rule is broken
unfoldable pub first_bad_field : LogPath → ℕ → List ℕ → Option PageField
first_bad_field log at page = find (λ field. not (keeps log at page field)) fields

-- a valid page of a log: each field keeps its rule
pub record IsValidPage (log : LogPath) (at : ℕ) (page : List ℕ) : Type 0 where
  pub magic : u16_at 0 page ≡ 0xD113
  pub known_bits : u16_at 2 page < 16
  pub long : has_bit (u16_at 2 page) 2 ≡ is_first log at
  pub timeline : (1 ≤ u32_at 4 page) × (u32_at 4 page ≤ (segment_at log at).tli)
  pub address : u64_at 8 page ≡ at
  pub system : is_first log at ≡ true → (wanted : ℕ) → log.system ≡ Some wanted → u64_at 24 page ≡ wanted
  pub segment_size : is_first log at ≡ true → u32_at 32 page ≡ bytes_of log.size
  pub block_size : is_first log at ≡ true → u32_at 36 page ≡ 8192
