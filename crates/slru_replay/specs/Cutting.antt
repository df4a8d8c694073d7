-- Which files a truncation removes: PostgreSQL 16, src/backend/access/transam/slru.c, SimpleLruTruncate and SlruScanDirectory;
-- clog.c, CLOGPagePrecedes; multixact.c, PerformMembersTruncation. Own: "Cutting status and multixacts".
use Rattle.std.specs.Prelude.{ℕ, ◌+◌, ◌-◌, ◌*◌, ◌/◌, ◌%◌, ◌^◌, ◌==◌, ◌&&◌, Bool, false, not, if◌then◌else◌, List, [], ◌∷◌, length, nat_lt, nat_le, slice_index, Option, Some, None, Result, Ok}
use Rattle.std.specs.List.{list_all}
use Rattle.wal_base.specs.Hex.{hex_value, is_upper_hex}
use Rattle.cluster_tree.specs.PathValue.{PathValue, below}
use Rattle.cluster_tree.specs.Contents.{Contents, entry_at}
use Rattle.cluster_tree.specs.Causes.{given}
use Rattle.cluster_tree.specs.declared.file_fault.FileFault.{FileFault}
use Rattle.file_edits.specs.Asking.{names_asked}
use Rattle.file_edits.specs.Clearing.{in_turn}
use Rattle.file_edits.specs.Edits.{file_removed}
use Rattle.slru_replay.specs.Area.{folder_of}
use Rattle.slru_replay.specs.declared.area.Area.{Area}
use Rattle.slru_replay.specs.declared.area.Area.TheVariants.{Status, Offsets, Members}

-- four to six of them
abbrev pub is_name_length : ℕ → Bool
is_name_length n = nat_le 4 n && nat_le n 6

-- a 0 (48) in front of four or more
abbrev pub has_extra_zero : List ℕ → Bool
has_extra_zero name = nat_lt 4 (length name) && slice_index name 0 == 48

-- digits 0 to 9 and A to F, as %04X writes them
abbrev pub is_file_name : List ℕ → Bool
is_file_name name = list_all is_upper_hex name && is_name_length (length name) && not (has_extra_zero name)

-- the number of the file of this name
abbrev pub file_number : List ℕ → Option ℕ
file_number name = if is_file_name name then Some (hex_value name) else None

-- a page precedes another, by the wrapped difference of their first entries
unfoldable pub precedes : (per_page page other : ℕ) → Bool
precedes per_page page other = nat_le (2 ^ 31) ((page * per_page % 2 ^ 32 + 2 ^ 32 - other * per_page % 2 ^ 32) % 2 ^ 32)

-- all 32 pages of a file do: the first and the last
abbrev pub file_precedes : (per_page number page : ℕ) → Bool
file_precedes per_page number page = precedes per_page (number * 32) page && precedes per_page (number * 32 + 31) page

-- a file of members has 52352, and the last is 82040; from the first's file, going round, up to but without the end's
unfoldable pub members_cut : (first last number : ℕ) → Bool
members_cut first last number = nat_le number 82040 && nat_lt ((number + 82041 - first / 52352) % 82041) ((last / 52352 + 82041 - first / 52352) % 82041)

-- whether the file of a number goes: before the page `last`, or of the members from `first` up to but without `last`
abbrev pub is_cut : Area → (first last number : ℕ) → Bool
is_cut Status first last number = file_precedes 32768 number last
is_cut Offsets first last number = file_precedes 2048 number last
is_cut Members first last number = members_cut first last number

abbrev pub number_cut : Area → (first last : ℕ) → Option ℕ → Bool
number_cut area first last None = false
number_cut area first last (Some number) = is_cut area first last number

abbrev pub name_cut : Area → (first last : ℕ) → List ℕ → Bool
name_cut area first last name = number_cut area first last (file_number name)

-- one file of a folder, if it goes
unfoldable pub file_cut : Area → (first last : ℕ) → PathValue → List ℕ → Contents → Result Contents FileFault
file_cut area first last folder name c = if name_cut area first last name then file_removed (below folder (name ∷ [])) c else Ok c

-- an area without the files that go, each in turn
unfoldable pub area_cut : PathValue → Area → (first last : ℕ) → Contents → Result Contents FileFault
area_cut root area first last c = given (names_asked c (folder_of root area) (entry_at c (folder_of root area))) (λ names. in_turn (file_cut area first last (folder_of root area)) names c)
