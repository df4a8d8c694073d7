-- What stands at the fixed places of a pair, and what the files there say.
use Rattle.std.proofs.Common.{◌≡◌, ℕ, false, [], ◌∷◌, None, Some, refl, ap, ◌∙◌, codes, append_assoc}
use Rattle.cluster_tree.specs.Contents.{Contents, FileEntry, FolderEntry, entry_at}
use Rattle.cluster_tree.specs.PathValue.{PathValue, below, kept_parts, path_of}
use Rattle.clusters.specs.Marks.{unfinished}
use Rattle.clusters.specs.Roots.{history_name, history_path, path_in}
use Rattle.control_file.specs.Writing.{control_bytes}
use Rattle.wal_base.specs.Hex.{hex_digits}
use Rattle.pair_maker.specs.Files.{control_of, history_bytes}
use Rattle.pair_maker.specs.Pair.{PairStands}
use Rattle.pair_maker.specs.declared.side.Side.TheVariants.{Target, Source}
use Rattle.pair_laws.specs.Stands.{source_of, target_of}
use Rattle.pair_laws.proofs.NamedLemmas.{pair-at-s, pair-at-t}

module _ (root : PathValue) (seed blocks : ℕ) (c : Contents) (stands : PairStands root seed blocks c) where
  pub target-root : entry_at c (below (target_of root) []) ≡ Some (FolderEntry false)
  target-root = pair-at-t root seed blocks c stands []

  pub source-root : entry_at c (below (source_of root) []) ≡ Some (FolderEntry false)
  source-root = pair-at-s root seed blocks c stands []

  pub target-control : entry_at c (path_in (target_of root) (codes "global/pg_control")) ≡ Some (FileEntry (control_bytes (control_of Target seed blocks)))
  unfolding path_in
  target-control = pair-at-t root seed blocks c stands (kept_parts (codes "global/pg_control"))

  pub source-control : entry_at c (path_in (source_of root) (codes "global/pg_control")) ≡ Some (FileEntry (control_bytes (control_of Source seed blocks)))
  unfolding path_in
  source-control = pair-at-s root seed blocks c stands (kept_parts (codes "global/pg_control"))

  pub target-finished : unfinished c (target_of root) ≡ None
  unfolding unfinished
  target-finished =
      let one : entry_at c (below (target_of root) (codes "pg_rewind.unfinished" ∷ [])) ≡ None = pair-at-t root seed blocks c stands (codes "pg_rewind.unfinished" ∷ []) in
      let two : entry_at c (below (target_of root) (codes "pg_walreplay.unfinished" ∷ [])) ≡ None = pair-at-t root seed blocks c stands (codes "pg_walreplay.unfinished" ∷ []) in
      let three : entry_at c (below (target_of root) (codes "pg_resetwal.unfinished" ∷ [])) ≡ None = pair-at-t root seed blocks c stands (codes "pg_resetwal.unfinished" ∷ []) in
      rw (one, two, three) refl

  pub source-finished : unfinished c (source_of root) ≡ None
  unfolding unfinished
  source-finished =
      let one : entry_at c (below (source_of root) (codes "pg_rewind.unfinished" ∷ [])) ≡ None = pair-at-s root seed blocks c stands (codes "pg_rewind.unfinished" ∷ []) in
      let two : entry_at c (below (source_of root) (codes "pg_walreplay.unfinished" ∷ [])) ≡ None = pair-at-s root seed blocks c stands (codes "pg_walreplay.unfinished" ∷ []) in
      let three : entry_at c (below (source_of root) (codes "pg_resetwal.unfinished" ∷ [])) ≡ None = pair-at-s root seed blocks c stands (codes "pg_resetwal.unfinished" ∷ []) in
      rw (one, two, three) refl

  pub source-history : entry_at c (history_path (source_of root) 2) ≡ Some (FileEntry history_bytes)
  unfolding history_name hex_digits
  source-history =
      ap (λ l. entry_at c (path_of root.absolute l)) (append_assoc (source_of root).parts (codes "pg_wal" ∷ []) (history_name 2 ∷ []))
      ∙ pair-at-s root seed blocks c stands (kept_parts (codes "pg_wal/00000002.history"))
