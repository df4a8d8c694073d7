-- Which files of an archive a clean-up removes: PostgreSQL 16 manual, reference page of pg_archivecleanup; src/include/access/xlog_internal.h, IsXLogFileName,
-- IsPartialXLogFileName and IsBackupHistoryFileName. Own: "The names of an archive".
use Rattle.std.specs.Prelude.{ℕ, ◌-◌, ◌==◌, Bool, ◌&&◌, ◌||◌, if◌then◌else◌, List, [], length, take, drop, filter, codes, bytes_eq, Option, None, Some, option_map}
use Rattle.std.specs.List.{list_all}
use Rattle.std.specs.Ordering.{is_lt, nat_cmp}
use Rattle.std.specs.Cmp.Lexicographic.{slice_cmp}
use Rattle.wal_base.specs.Hex.{is_long_name, is_upper_hex}

-- a name without this end, where it has it
abbrev pub without_end : List ℕ → List ℕ → List ℕ
without_end end name = if bytes_eq (drop (length name - length end) name) end then take (length name - length end) name else name

-- a name less the extension that is given, if one is
abbrev pub less : Option (List ℕ) → List ℕ → List ℕ
less None name = name
less (Some extension) name = without_end extension name

-- what follows the 24 digits of a segment's file: nothing, or that it is one that was not finished
abbrev pub ends_segment : List ℕ → Bool
ends_segment end = bytes_eq end [] || bytes_eq end (codes ".partial")

-- what follows them in the name of a backup's history: a dot, the offset of its start in eight digits 0 to 9 and A to F, and `.backup`
abbrev pub ends_backup : List ℕ → Bool
ends_backup end = bytes_eq (take 1 end) (codes ".") && (length (take 8 (drop 1 end)) == 8) && list_all is_upper_hex (take 8 (drop 1 end)) && bytes_eq (drop 9 end) (codes ".backup")

-- the name of a segment's file, finished or not
abbrev pub is_segment : List ℕ → Bool
is_segment name = is_long_name (take 24 name) && ends_segment (drop 24 name)

-- a name that a clean-up can be given to keep
abbrev pub is_kept : List ℕ → Bool
is_kept name = is_long_name (take 24 name) && (ends_segment (drop 24 name) || ends_backup (drop 24 name))

-- the segment from which on files are kept, by the name that is given
unfoldable pub kept_of : Option (List ℕ) → List ℕ → Option (List ℕ)
kept_of extension kept = if is_kept (less extension kept) then Some (take 24 (less extension kept)) else None

-- a name stands before another in the order of bytes, behind the eight digits of the timeline
abbrev pub stands_before : List ℕ → List ℕ → Bool
stands_before name other = is_lt (slice_cmp nat_cmp (drop 8 name) (drop 8 other))

-- whether a file of this name goes, where this segment is the first that is kept
unfoldable pub goes : Option (List ℕ) → List ℕ → List ℕ → Bool
goes extension first name = is_segment (less extension name) && stands_before (less extension name) first

-- the names of those that go, in the order in which they are given; none where the name to keep has no form
abbrev pub removed_by_cleanup : List (List ℕ) → List ℕ → Option (List ℕ) → Option (List (List ℕ))
removed_by_cleanup names kept extension = option_map (λ first. filter (goes extension first) names) (kept_of extension kept)
