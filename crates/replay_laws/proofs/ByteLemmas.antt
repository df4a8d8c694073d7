-- The records of a log that is read off bytes are of bytes.
use Rattle.std.proofs.Common.{◌≡◌, ℕ, zero, suc, ◌+◌, ◌-◌, ◌%◌, ◌^◌, ◌<◌, nat_lt, nat_le, Bool, true, false, List, [], ◌∷◌, ◌++◌, length, take, drop, Option, None, Some, Result, Ok, Err, refl, ap, sym, subst, ◌∙◌, arith}
use Rattle.std.specs.Prelude.{if◌then◌else◌}
use Rattle.std.specs.List.{AllByRecursion, flat_map}
use Rattle.cluster_tree.specs.Contents.{Contents, Entry, FileEntry, FolderEntry, LinkEntry, entry_at}
use Rattle.cluster_tree.specs.PathValue.{PathValue, below}
use Rattle.clusters.specs.Roots.{wal_folder}
use Rattle.layout.specs.Readers.{u32_at}
use Rattle.layout_readers.specs.Rows.{AreBytes}
use Rattle.wal_base.specs.Segment.{bytes_of, name_of}
use Rattle.wal_pages.specs.Folder.{file_in, folder_of}
use Rattle.wal_pages.specs.Header.{header_of as page_header, header_size, page_of}
use Rattle.wal_pages.specs.LogBytes.{segment_at, segment_bytes}
use Rattle.wal_pages.specs.Page.{Refusal, Short, bytes_from, page_at, unless_bad}
use Rattle.wal_pages.specs.ValidPage.{first_bad_field}
use Rattle.wal_pages.specs.declared.field.PageField.{PageField}
use Rattle.wal_pages.specs.declared.log_path.LogPath.{LogPath}
use Rattle.wal_records.specs.Further.{FurtherPage, Gathered, Pages, further, further_page, gathered, pages_of, piece, piece_in, room, stop_at}
use Rattle.wal_records.specs.Header.{header_fault, header_of, length_fault}
use Rattle.wal_records.specs.Log.{Log, ended, log_from, log_in, log_step}
use Rattle.wal_records.specs.Place.{is_place, place_at}
use Rattle.wal_records.specs.Reading.{Reading, Spelled, Stopped, after_first, after_front, after_header, after_rest, continues_at, ends, reading, reading_in, seal_fault, unless}
use Rattle.wal_records.specs.declared.why.Stop.{Stop}
use Rattle.wal_records.specs.declared.why.Stop.TheVariants.{Ends, Dropped}
use Rattle.wal_records.specs.declared.why.Why.TheVariants as why
use Rattle.replay_laws.specs.Log.{HasBytes, HoldsBytes}
use Rattle.replay_laws.proofs.WorldLemmas.{given-ok}

-- lists of bytes, number by number

abbrev Small : List ℕ → Type 0
Small bytes = AllByRecursion (λ b. b < 256) bytes

small : (bytes : List ℕ) → AreBytes bytes → Small bytes
small [] are = tt
small (b ∷ bytes) are = (are 0, small bytes (λ i. are (suc i)))

are_bytes : (bytes : List ℕ) → Small bytes → AreBytes bytes
are_bytes [] all i = omega arith
are_bytes (b ∷ bytes) all zero = all.0
are_bytes (b ∷ bytes) all (suc i) = are_bytes bytes all.1 i

small_take : (n : ℕ) (bytes : List ℕ) → Small bytes → Small (take n bytes)
small_take zero bytes all = tt
small_take (suc n) [] all = tt
small_take (suc n) (b ∷ bytes) all = (all.0, small_take n bytes all.1)

small_drop : (n : ℕ) (bytes : List ℕ) → Small bytes → Small (drop n bytes)
small_drop zero bytes all = all
small_drop (suc n) [] all = tt
small_drop (suc n) (b ∷ bytes) all = small_drop n bytes all.1

small_both : (xs ys : List ℕ) → Small xs → Small ys → Small (xs ++ ys)
small_both [] ys a b = b
small_both (x ∷ xs) ys a b = (a.0, small_both xs ys a.1 b)

-- pages

abbrev pub AreSmall : Pages → Type 0
AreSmall pages = (at : ℕ) (page : List ℕ) → pages at ≡ Ok page → Small page

abbrev OkPage : List ℕ → Result (List ℕ) Refusal
OkPage page = Ok page

one_page : (p q : List ℕ) → OkPage p ≡ OkPage q → p ≡ q
one_page p q e = cc

file_small : (c : Contents) (path : PathValue) (bytes : List ℕ) → ((own : List ℕ) → entry_at c path ≡ Some (FileEntry own) → AreBytes own) → file_in (entry_at c path) ≡ Some bytes → Small bytes
file_small c path bytes holds is = by (entry_at c path) refl is
  where
    by : (o : Option Entry) → entry_at c path ≡ o → file_in o ≡ Some bytes → Small bytes
    by None there e = absurd cc
    by (Some (FolderEntry bad)) there e = absurd cc
    by (Some (FileEntry own)) there e = let same : own ≡ bytes = cc in small bytes (holds bytes (there ∙ ap (λ b. Some (FileEntry b)) same))
    by (Some LinkEntry) there e = absurd cc

segment_small : (log : LogPath) (c : Contents) (root : PathValue) (at : ℕ) (bytes : List ℕ) → log.folder ≡ wal_folder root → HoldsBytes c root → segment_bytes log (folder_of c log.folder) at ≡ Some bytes → Small bytes
segment_small log c root at bytes lies holds is = by (nat_lt at (2 ^ 64)) is
  where
    by : (b : Bool) → (if b then folder_of c log.folder (name_of (segment_at log at)) else None) ≡ Some bytes → Small bytes
    by true e =
        file_small c (below log.folder (name_of (segment_at log at) ∷ [])) bytes
        (λ own there. holds (name_of (segment_at log at)) own (ap (λ f. entry_at c (below f (name_of (segment_at log at) ∷ []))) (sym lies) ∙ there)) e
    by false e = absurd cc

taken_small : (log : LogPath) (offset at : ℕ) (o : Option (List ℕ)) (page : List ℕ) → ((bytes : List ℕ) → o ≡ Some bytes → Small bytes) → bytes_from (segment_at log at) offset o ≡ Ok page → Small page
taken_small log offset at None page all is = absurd cc
taken_small log offset at (Some bytes) page all is = by (nat_lt (length bytes) (offset + 8192)) is
  where
    by : (b : Bool) → (if b then Err (Short (segment_at log at)) else OkPage (take 8192 (drop offset bytes))) ≡ OkPage page → Small page
    by true e = absurd cc
    by false e = subst Small (one_page (take 8192 (drop offset bytes)) page e) (small_take 8192 (drop offset bytes) (small_drop offset bytes (all bytes refl)))

good : (at : ℕ) (p page : List ℕ) (o : Option PageField) → unless_bad at p o ≡ OkPage page → p ≡ page
good at p page None e = one_page p page e
good at p page (Some field) e = absurd cc

pub pages-small : (log : LogPath) (c : Contents) (root : PathValue) → log.folder ≡ wal_folder root → HoldsBytes c root → AreSmall (pages_of log c)
unfolding page_at
pages-small log c root lies holds at page made =
    let offset : ℕ = at % bytes_of log.size in
    let two = given-ok (bytes_from (segment_at log at) offset (segment_bytes log (folder_of c log.folder) at)) (λ p. unless_bad at p (first_bad_field log at p)) page made in
    subst Small (good at two.0 page (first_bad_field log at two.0) two.2)
    (taken_small log offset at (segment_bytes log (folder_of c log.folder) at) two.0 (λ bytes is. segment_small log c root at bytes lies holds is) two.1)

-- records

abbrev IsSmall : Reading → Type 0
IsSmall (Spelled r) = Small r.body
IsSmall (Stopped stop) = Unit {0}

unless_small : (o : Option Stop) (r : Reading) → IsSmall r → IsSmall (unless o r)
unless_small None r all = all
unless_small (Some stop) r all = tt

module _ (pages : Pages) (all : AreSmall pages) (size : ℕ) where
  piece_small : (further : FurtherPage) → Small (piece pages size further)
  piece_small further = by (pages further.at) refl
    where
      by : (r : Result (List ℕ) Refusal) → pages further.at ≡ r → Small (piece_in size further r)
      by (Ok page) is = small_take further.left _ (small_drop (header_size size further.at) page (all further.at page is))
      by (Err refusal) is = tt

  pieces_small : (rest : List FurtherPage) → Small (flat_map (piece pages size) rest)
  pieces_small [] = tt
  pieces_small (further ∷ rest) = small_both (piece pages size further) _ (piece_small further) (pieces_small rest)

  rest_small : (place total : ℕ) (found : Gathered) → Small found.bytes → IsSmall (after_rest size place total found)
  unfolding after_rest
  rest_small place total found own = unless_small found.stop _ (unless_small (ends (seal_fault size place total found.bytes)) _ (small_drop 24 found.bytes own))

  header_small : (before : Option ℕ) (place total : ℕ) (rest : List FurtherPage) (bytes : List ℕ) → Small bytes → IsSmall (after_header pages size before place total rest bytes)
  unfolding after_header gathered
  header_small before place total rest bytes own =
      unless_small (ends (header_fault before place (header_of bytes))) _ (rest_small place total (gathered pages size bytes rest) (small_both bytes (flat_map (piece pages size) rest) own (pieces_small rest)))

  front_small : (before : Option ℕ) (place total : ℕ) (next : FurtherPage) (first : List ℕ) → Small first → IsSmall (after_front pages size before place total next first)
  unfolding after_front
  front_small before place total next first own =
      unless_small (stop_at pages next) _ (header_small before place total (further size (next.at + 8192) (next.left - room size next.at)) (first ++ piece pages size next) (small_both first (piece pages size next) own (piece_small next)))

  first_small : (before : Option ℕ) (place total : ℕ) (first : List ℕ) → Small first → IsSmall (after_first pages size before place total first)
  unfolding after_first
  first_small before place total first own = by (nat_lt (length first) 24)
    where
      page : ℕ
      page = page_of place + 8192

      left : ℕ
      left = total - length first

      by : (b : Bool) → IsSmall (if b then after_front pages size before place total (further_page page left) first else after_header pages size before place total (further size page left) first)
      by true = front_small before place total (further_page page left) first own
      by false = header_small before place total (further size page left) first own

  reading_in_small : (before : Option ℕ) (place : ℕ) (r : Result (List ℕ) Refusal) → pages (page_of place) ≡ r → IsSmall (reading_in pages size before place r)
  unfolding reading_in
  reading_in_small before place (Err refusal) is = tt
  reading_in_small before place (Ok page) is = by (continues_at size place (page_header page).info)
    where
      total : ℕ
      total = u32_at (place % 8192) page

      by : (b : Bool) → IsSmall (if b then Stopped (Ends why.Continuation) else unless (ends (length_fault total)) (after_first pages size before place total (take total (drop (place % 8192) page))))
      by true = tt
      by false = unless_small (ends (length_fault total)) _ (first_small before place total _ (small_take total _ (small_drop (place % 8192) page (all (page_of place) page is))))

  reading_small : (before : Option ℕ) (place : ℕ) → IsSmall (reading pages size before place)
  unfolding reading
  reading_small before place = by (is_place size place)
    where
      by : (b : Bool) → IsSmall (if b then reading_in pages size before place (pages (page_of place)) else Stopped (Ends why.Place))
      by true = reading_in_small before place (pages (page_of place)) refl
      by false = tt

  step_bytes : (go : Option ℕ → ℕ → Log) (before : Option ℕ) (place : ℕ) (r : Reading) → IsSmall r → ((b : Option ℕ) (p : ℕ) → AllByRecursion HasBytes (go b p).records) → AllByRecursion HasBytes (log_step go size before place r).records
  step_bytes go before place (Spelled r) own behind = (are_bytes r.body own, behind (Some r.start) (place_at size r.end))
  step_bytes go before place (Stopped (Dropped page)) own behind = behind before (place_at size page)
  step_bytes go before place (Stopped (Ends why)) own behind = tt

  in_bytes : (n : ℕ) (before : Option ℕ) (place : ℕ) → AllByRecursion HasBytes (log_in pages size n before place).records
  unfolding log_in
  in_bytes zero before place = tt
  in_bytes (suc n) before place = by (nat_le (2 ^ 64) place) (λ b p. in_bytes n b p)
    where
      by : (b : Bool) → ((b : Option ℕ) (p : ℕ) → AllByRecursion HasBytes (log_in pages size n b p).records)
          → AllByRecursion HasBytes (if b then ended place why.NoSegment else log_step (log_in pages size n) size before place (reading pages size before place)).records
      by true behind = tt
      by false behind = step_bytes (log_in pages size n) before place (reading pages size before place) (reading_small before place) behind

  pub log-bytes : (before : Option ℕ) (place : ℕ) → AllByRecursion HasBytes (log_from pages size before place).records
  unfolding log_from
  log-bytes before place = in_bytes (2 ^ 64 - place) before place
