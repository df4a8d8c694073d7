-- The log of a pair's target lies in its one segment, and so is read.
use Rattle.std.proofs.Common.{◌≡◌, ℕ, [], ◌∷◌, None, Some, refl, ap, ◌∙◌, append_assoc, codes, lit<, lit≤}
use Rattle.cluster_tree.specs.Contents.{Contents, FileEntry, entry_at}
use Rattle.cluster_tree.specs.PathValue.{PathValue, below, kept_parts, path_of}
use Rattle.clusters.specs.RootLog.{log_at}
use Rattle.wal_base.specs.Hex.{hex_digits}
use Rattle.wal_base.specs.Segment.{name_of}
use Rattle.wal_pages.specs.LogBytes.{segment_of}
use Rattle.wal_pages.specs.declared.log_path.LogPath.{LogPath}
use Rattle.wal_records.specs.Further.{pages_of}
use Rattle.wal_records.specs.Stored.{IsPathOf}
use Rattle.pair_maker.specs.Files.{segment_bytes}
use Rattle.pair_maker.specs.Logs.{megabyte, origin_of, records_of}
use Rattle.pair_maker.specs.declared.side.Side.TheVariants.{Target}
use Rattle.pair_laws.specs.Read.{IsRead}
use Rattle.pair_laws.specs.Stands.{HasPair, target_of}
use Rattle.pair_laws.proofs.HistoryLemmas.{target_spans}
use Rattle.pair_laws.proofs.NamedLemmas.{pair-at-t}
use Rattle.pair_laws.proofs.ReadLemmas.{side-read}

module _ (root : PathValue) (seed blocks : ℕ) (c : Contents) (pair : HasPair root seed blocks c) where
  abbrev log : LogPath
  log = log_at (target_of root) None target_spans megabyte

  is_path : IsPathOf log (origin_of Target)
  is_path = record { size = refl; timeline = lit< tt; later = λ number from. lit≤ tt; system = λ wanted h. absurd (cc) }

  stands : entry_at c (below log.folder (name_of (segment_of log 1) ∷ [])) ≡ Some (FileEntry (segment_bytes Target (records_of Target seed blocks)))
  unfolding hex_digits
  stands =
      ap (λ l. entry_at c (path_of root.absolute l)) (append_assoc (target_of root).parts (codes "pg_wal" ∷ []) (name_of (segment_of log 1) ∷ []))
      ∙ pair-at-t root seed blocks c pair.stands (kept_parts (codes "pg_wal/000000010000000000000001"))

  pub target-log_read : IsRead (pages_of log c) Target (records_of Target seed blocks)
  target-log_read = side-read log c Target seed blocks pair.few is_path stands
