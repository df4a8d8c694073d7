-- The log of a cluster of a pair, as it is read: PostgreSQL 16 manual, chapter "Reliability and the Write-Ahead Log", section "WAL Internals". Own: "A pair from a number".
use Rattle.std.specs.Prelude.{◌≡◌, ℕ, ◌<◌, ◌≤◌, List, [], ◌∷◌, ◌++◌, Some}
use Rattle.cluster_tree.specs.Contents.{Contents, FileEntry, entry_at}
use Rattle.cluster_tree.specs.PathValue.{below}
use Rattle.wal_base.specs.Segment.{name_of}
use Rattle.wal_pages.specs.LogBytes.{segment_of}
use Rattle.wal_pages.specs.declared.log_path.LogPath.{LogPath}
use Rattle.wal_records.specs.Again.{log_records, new_log_record}
use Rattle.wal_records.specs.Further.{Pages, pages_of}
use Rattle.wal_records.specs.Log.{log_from}
use Rattle.wal_records.specs.Place.{place_at}
use Rattle.wal_records.specs.Reading.{Spelled, reading}
use Rattle.wal_records.specs.Sound.{AllNew}
use Rattle.wal_records.specs.Stored.{IsPathOf, end_why}
use Rattle.wal_records.specs.Writer.{NewRecord, begun, written}
use Rattle.pair_maker.specs.Files.{segment_bytes}
use Rattle.pair_maker.specs.Logs.{origin_of, records_of}
use Rattle.pair_maker.specs.declared.side.Side.{Side}

-- Of these pages the records of a cluster's log are read, each at its place; and from where any first ones end the others, one after another,
-- up to where the log ends, which is within its one segment.
pub record IsRead (pages : Pages) (side : Side) (records : List NewRecord) : Type 0 where
  pub each : AllNew (begun (origin_of side)) records
  pub low : (written (origin_of side) records).end < 0x20_0000
  pub spelled : (front : List NewRecord) (r : NewRecord) (back : List NewRecord) → records ≡ front ++ r ∷ back
      → reading pages 0x10_0000 (written (origin_of side) front).before (place_at 0x10_0000 (written (origin_of side) front).end)
      ≡ Spelled (new_log_record (written (origin_of side) front) r)
  pub from : (front back : List NewRecord) → records ≡ front ++ back
      → log_from pages 0x10_0000 (written (origin_of side) front).before (place_at 0x10_0000 (written (origin_of side) front).end)
      ≡ record {
        records = log_records (written (origin_of side) front) back;
        place = place_at 0x10_0000 (written (origin_of side) records).end;
        why = end_why (written (origin_of side) records);
      }

-- where its segment of number 1 stands at its path
abbrev pub PairLogsAreRead : Type 0
PairLogsAreRead = (log : LogPath) (c : Contents) (side : Side) (seed blocks : ℕ) → blocks ≤ 4096 → IsPathOf log (origin_of side)
    → entry_at c (below log.folder (name_of (segment_of log 1) ∷ [])) ≡ Some (FileEntry (segment_bytes side (records_of side seed blocks)))
    → IsRead (pages_of log c) side (records_of side seed blocks)
