-- The further pages of a record: PostgreSQL 16, src/include/access/xlog_internal.h, XLogPageHeaderData (xlp_info,
-- xlp_rem_len); src/backend/access/transam/xlogreader.c, XLogDecodeNextRecord.
use Rattle.std.specs.Prelude.{ℕ, zero, suc, ◌+◌, ◌-◌, ◌==◌, ◌&&◌, List, [], ◌∷◌, ◌++◌, take, drop, Option, Some, None, Result, Ok, Err, if◌then◌else◌}
use Rattle.std.specs.List.{flat_map}
use Rattle.cluster_tree.specs.Contents.{Contents}
use Rattle.wal_pages.specs.declared.header.PageHeader.{PageHeader}
use Rattle.wal_pages.specs.declared.log_path.LogPath.{LogPath}
use Rattle.wal_pages.specs.Folder.{folder_of}
use Rattle.wal_pages.specs.Header.{header_of as page_header, header_size, has_bit}
use Rattle.wal_pages.specs.Page.{Refusal, Missing, Short, Bad, page_at}
use Rattle.wal_records.specs.declared.why.Why.{Why}
use Rattle.wal_records.specs.declared.why.Why.TheVariants as why
use Rattle.wal_records.specs.declared.why.Stop.{Stop}
use Rattle.wal_records.specs.declared.why.Stop.TheVariants.{Ends, Dropped}

-- the valid page that starts at a position, or why there is none
abbrev pub Pages : Type 0
Pages = ℕ → Result (List ℕ) Refusal

-- the pages of a log
abbrev pub pages_of : LogPath → Contents → Pages
pages_of log contents = page_at log (folder_of contents log.folder)

-- why the log ends where a page is needed that isn't there
abbrev pub why_refused : Refusal → Why
why_refused (Missing segment) = why.NoSegment
why_refused (Short segment) = why.ShortSegment
why_refused (Bad at field) = why.Page

-- a page that a record goes on at: where it starts, and how many bytes of the record are still to come there
pub record FurtherPage : Type 0 where
  pub at : ℕ
  pub left : ℕ

abbrev pub further_page : ℕ → ℕ → FurtherPage
further_page at left = record { at = at; left = left }

-- how many bytes of a page stand behind its header
abbrev pub room : ℕ → ℕ → ℕ
room size page = 8192 - header_size size page

-- at most so many further pages
unfoldable pub further_in : ℕ → ℕ → ℕ → ℕ → List FurtherPage
further_in size zero page left = []
further_in size (suc pages) page left =
    if left == 0 then [] else further_page page left ∷ further_in size pages (page + 8192) (left - room size page)

-- The further pages of a record from a page on, where `left` of its bytes are still to come. Each has one of them at
-- least, so there are no more pages than bytes.
unfoldable pub further : ℕ → ℕ → ℕ → List FurtherPage
further size page left = further_in size left page left

-- What a further page says by its header: that the record was dropped, else that it goes on with so many bytes still to
-- come. Own: "Which bit of a further page counts".
abbrev pub stop_of : FurtherPage → PageHeader → Option Stop
stop_of further header =
    if has_bit header.info 8 then Some (Dropped further.at)
    else if has_bit header.info 1 && header.remaining == further.left then None
    else Some (Ends why.Continuation)

abbrev pub stop_in : FurtherPage → Result (List ℕ) Refusal → Option Stop
stop_in further (Err refusal) = Some (Ends (why_refused refusal))
stop_in further (Ok page) = stop_of further (page_header page)

-- why a record doesn't go on at a further page, if it doesn't
abbrev pub stop_at : Pages → FurtherPage → Option Stop
stop_at pages further = stop_in further (pages further.at)

abbrev pub or_stop : Option Stop → Option Stop → Option Stop
or_stop (Some stop) other = Some stop
or_stop None other = other

-- why a record doesn't go on over these pages, by the first of them at which it doesn't
abbrev pub first_stop : Pages → List FurtherPage → Option Stop
first_stop pages [] = None
first_stop pages (further ∷ rest) = or_stop (stop_at pages further) (first_stop pages rest)

abbrev pub piece_in : ℕ → FurtherPage → Result (List ℕ) Refusal → List ℕ
piece_in size further (Err refusal) = []
piece_in size further (Ok page) = take further.left (drop (header_size size further.at) page)

-- what a further page has of the record: its bytes behind the header, as many as are still to come
abbrev pub piece : Pages → ℕ → FurtherPage → List ℕ
piece pages size further = piece_in size further (pages further.at)

-- what further pages make of the first bytes of a record: why it doesn't go on, if so, and all its bytes
pub record Gathered : Type 0 where
  pub stop : Option Stop
  pub bytes : List ℕ

unfoldable pub gathered : Pages → ℕ → List ℕ → List FurtherPage → Gathered
gathered pages size bytes rest = record { stop = first_stop pages rest; bytes = bytes ++ flat_map (piece pages size) rest }
