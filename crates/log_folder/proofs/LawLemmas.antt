-- What is found in plain cases.
use Rattle.std.proofs.Common.{◌≡◌, ◌∙◌, ℕ, ◌+◌, ◌*◌, Bool, true, false, ◌&&◌, if◌then◌else◌, List, [], ◌∷◌, Option, None, Some, Result, Ok, Err, unwrap_or, refl, ap, ap₂, sym, true≢false}
use Rattle.std.specs.Result.{is_ok}
use Rattle.cluster_tree.specs.PathValue.{PathValue, below}
use Rattle.cluster_tree.specs.Contents.{Contents, entry_at}
use Rattle.cluster_tree.specs.Folders.{list_refusal}
use Rattle.cluster_tree.specs.Tree.{file_of, range_of}
use Rattle.cluster_tree.specs.Causes.{given}
use Rattle.cluster_tree.specs.declared.tree.TreeFault.{TreeFault}
use Rattle.wal_base.specs.Hex.{is_long_name}
use Rattle.wal_base.specs.Segment.{bytes_of, segment_named}
use Rattle.wal_base.specs.declared.lsn.Lsn.{Lsn}
use Rattle.wal_base.specs.declared.seg_size.SegSize.{SegSize}
use Rattle.wal_base.specs.declared.segment.Segment.{Segment}
use Rattle.wal_pages.proofs.PartLemmas.{named_long}
use Rattle.commands.specs.declared.waldump.DumpWords.{DumpWords}
use Rattle.commands.specs.declared.waldump.Filters.{Filters}
use Rattle.log_folder.specs.declared.bounds.Bounds.{Bounds}
use Rattle.log_folder.specs.declared.taken.Taken.{Taken}
use Rattle.log_folder.specs.Listing.{segment_path, is_segment, least_segment}
use Rattle.log_folder.specs.Folder.{listed_or, least_in, taken_at, wal_in, or_no_wal, wal_taken, or_wal, taken_of}
use Rattle.log_folder.specs.Segment.{or_bad, size_read, head_at, size_at, size_of}
use Rattle.log_folder.specs.Bounds.{lsn_at, end_at, stretch_of, stretch_or, stretch_named, some_stretch, holds_start, goes_on, start_from, stop_at, timeline_of, bounds_in, bounds_of}
use Rattle.log_folder.specs.Found.{name_read, found_log, found_in}
use Rattle.log_folder.specs.Laws.{HasSegment, segment_words, folder_words, SegmentIsFound, WalIsTaken}
use Rattle.log_folder.proofs.LeastLemmas.{none_is_none, least_is_least}

-- what is found, by what each stage gives
stages : (c : Contents) (words : DumpWords) (taken : Taken) (size : SegSize) (bounds : Bounds)
    → taken_of c words.folder ≡ Ok taken → size_of c taken.folder (name_read taken.least words.first) ≡ Ok size → bounds_of size words ≡ Ok bounds
    → found_in c words ≡ Ok (found_log taken.folder size bounds words.filters)
unfolding found_in
stages c words taken size bounds at_taken at_size at_bounds =
    ap (λ r. given r (λ t. given (size_of c t.folder (name_read t.least words.first)) (λ s. given (bounds_of s words) (λ b. Ok (found_log t.folder s b words.filters))))) at_taken
    ∙ ap (λ r. given r (λ s. given (bounds_of s words) (λ b. Ok (found_log taken.folder s b words.filters)))) at_size
    ∙ ap (λ r. given r (λ b. Ok (found_log taken.folder size b words.filters))) at_bounds

least_is : (c : Contents) (folder : PathValue) (least : Option (List ℕ)) → list_refusal (entry_at c folder) ≡ None → least_segment c folder ≡ least → least_in c folder ≡ Ok least
unfolding least_in
least_is c folder least listed is = ap₂ (listed_or folder) listed is

taken_here : (c : Contents) (folder : PathValue) (least : List ℕ) → list_refusal (entry_at c folder) ≡ None → least_segment c folder ≡ Some least → taken_of c folder ≡ Ok (taken_at folder least)
unfolding taken_of
taken_here c folder least listed is = ap (λ r. given r (or_wal c folder)) (least_is c folder (Some least) listed is)

taken_below : (c : Contents) (folder : PathValue) (least : List ℕ) → list_refusal (entry_at c folder) ≡ None → least_segment c folder ≡ None → list_refusal (entry_at c (wal_in folder)) ≡ None
    → least_segment c (wal_in folder) ≡ Some least → taken_of c folder ≡ Ok (taken_at (wal_in folder) least)
unfolding taken_of wal_taken
taken_below c folder least listed none listed_wal is =
    ap (λ r. given r (or_wal c folder)) (least_is c folder None listed none) ∙ ap (or_no_wal folder (wal_in folder)) (least_is c (wal_in folder) (Some least) listed_wal is)

file_read : (r : Result (List ℕ) TreeFault) (head : List ℕ) → range_of r 0 40 ≡ Ok head → is_ok r ≡ true
file_read (Ok bytes) head e = refl
file_read (Err f) head e = absurd (let no : ◌≡◌ {A = Result (List ℕ) TreeFault} (Err f) (Ok head) = e in cc)

-- a segment whose first bytes are read is one of its folder
stands : (c : Contents) (folder : PathValue) (name head : List ℕ) → is_long_name name ≡ true → head_at c (below folder (name ∷ [])) ≡ Ok head → is_segment c folder name ≡ true
unfolding is_segment
stands c folder name head long read = ap₂ (λ a b. a && b) long (file_read (file_of (entry_at c (below folder (name ∷ [])))) head read)

size_told : (c : Contents) (folder : PathValue) (name : List ℕ) (size : SegSize) → is_long_name name ≡ true → HasSegment c folder name size → size_of c folder name ≡ Ok size
unfolding size_of segment_path
size_told c folder name size long has =
    let file : PathValue = below folder (name ∷ []) in
    ap (λ t. size_at c folder (if t then Some file else None)) long ∙ ap (size_read folder file) has.bytes ∙ ap (or_bad file) has.sized

some_taken : (c : Contents) (folder : PathValue) (name : List ℕ) → list_refusal (entry_at c folder) ≡ None → is_segment c folder name ≡ true → (least : List ℕ) × (taken_of c folder ≡ Ok (taken_at folder least))
some_taken c folder name listed here =
    elim (least_segment c folder) as (λ o. least_segment c folder ≡ o → (least : List ℕ) × (taken_of c folder ≡ Ok (taken_at folder least))) [
      | Some least ↦ λ is. (least, taken_here c folder least listed is)
      | None ↦ λ none. absurd (true≢false (sym here ∙ none_is_none c folder name none))
    ] refl

segment_bounds : (folder : PathValue) (name : List ℕ) (timeline : Option ℕ) (filters : Filters) (size : SegSize) (segment : Segment) → segment_named size name ≡ Some segment → bounds_of size (segment_words folder name timeline filters) ≡ Ok (record {
  tli = segment.tli;
  start = lsn_at (segment.number * bytes_of segment.size);
  stop = end_at (segment.number * bytes_of segment.size + bytes_of segment.size);
})
unfolding bounds_of stretch_named bounds_in holds_start goes_on start_from stop_at timeline_of stretch_of
segment_bounds folder name timeline filters size segment is =
    ap (λ o. given (given (stretch_or o) some_stretch) (λ first. given (Ok None) (λ last. bounds_in first last (segment_words folder name timeline filters)))) is

pub segment_found : SegmentIsFound
segment_found c folder name timeline filters size segment has named =
    let long = named_long size name segment named in
    let taken = some_taken c folder name has.listed (stands c folder name has.head long has.bytes) in
    stages c (segment_words folder name timeline filters) (taken_at folder taken.0) size _ taken.1 (size_told c folder name size long has) (segment_bounds folder name timeline filters size segment named)

folder_bounds : (folder : PathValue) (start : Lsn) (stop : Option Lsn) (timeline : Option ℕ) (filters : Filters) (size : SegSize) → bounds_of size (folder_words folder start stop timeline filters) ≡ Ok (record { tli = unwrap_or timeline 1; start = start; stop = stop })
unfolding bounds_of bounds_in holds_start goes_on start_from stop_at timeline_of
folder_bounds folder start None timeline filters size = refl
folder_bounds folder start (Some stop) timeline filters size = refl

long_of : (a b : Bool) → a && b ≡ true → a ≡ true
long_of true b e = refl
long_of false b e = absurd (true≢false (sym e))

segment_long : (c : Contents) (folder : PathValue) (name : List ℕ) → is_segment c folder name ≡ true → is_long_name name ≡ true
unfolding is_segment
segment_long c folder name e = long_of (is_long_name name) _ e

pub wal_found : WalIsTaken
wal_found c folder start stop timeline filters name size listed none least has =
    let long = segment_long c (wal_in folder) name (least_is_least c (wal_in folder) name least).one in
    stages c (folder_words folder start stop timeline filters) (taken_at (wal_in folder) name) size _ (taken_below c folder name listed none has.listed least) (size_told c (wal_in folder) name size long has) (folder_bounds folder start stop timeline filters size)
