-- Two replays of the same log, behind the last record.
use Rattle.std.proofs.Common.{◌≡◌, ℕ, List, [], ◌∷◌, codes, length, Option, Some, Result, Ok, Err, refl, ap, sym, ◌∙◌, true≢false}
use Rattle.std.specs.FinMap.{remove}
use Rattle.block_refs.specs.declared.names.BlockName.{BlockName}
use Rattle.block_replay.specs.declared.faults.RecordFault.{RecordFault}
use Rattle.cluster_laws.proofs.SkippedLemmas.{log-main, none-skipped}
use Rattle.cluster_tree.specs.Causes.{given, unless}
use Rattle.cluster_tree.specs.Change.{all_changed}
use Rattle.cluster_tree.specs.Contents.{Contents, FileEntry, entry_at}
use Rattle.cluster_tree.specs.PathValue.{PathValue, below}
use Rattle.cluster_tree.specs.Tree.{bytes_at, bytes_in, written}
use Rattle.cluster_tree.proofs.ContentsLemmas.{entry-put, entry-put_other, entry-removed, entry-removed_other}
use Rattle.cluster_tree.proofs.TreeLemmas.{same_or_other}
use Rattle.control_file.specs.Reading.{timeline_of}
use Rattle.control_file.specs.Writing.{control_bytes}
use Rattle.control_file.specs.declared.control.Control.{Control}
use Rattle.layout.specs.Splice.{splice}
use Rattle.replay_control.specs.Following.{control_left}
use Rattle.replay_core.specs.Faults.{recorded}
use Rattle.replay_core.specs.Replayed.{After, closing_files, control_path, end_of, label_path, missing_page}
use Rattle.replay_core.specs.Under.{left_under, left_under_or, replayed_under, world_under}
use Rattle.replay_core.proofs.PathLemmas.{control_path-is}
use Rattle.replay_laws.specs.Held.{IsMainBlock, is_among}
use Rattle.replay_laws.specs.Log.{AreTaken}
use Rattle.replay_start.specs.Checked.{Start}
use Rattle.replay_start.specs.declared.fault.ReplayFault.{ReplayFault}
use Rattle.replay_world.specs.Records.{records_after}
use Rattle.replay_world.specs.World.{World}
use Rattle.replayed_bytes.specs.Bytes.{HaveSameFiles}
use Rattle.restarted_laws.specs.Files.{AreSameFiles, EndWithSameFiles}
use Rattle.rmgr_hooks.specs.Custom.{Extension}
use Rattle.restart_laws.specs.Stopped.{AreSameEnd, EndAsOne}

-- ---- the control file is written, and the label removed

module _ (root : PathValue) (c d : Contents) (same : HaveSameFiles c root d root) where
  control_same : bytes_at c (control_path root) ≡ bytes_at d (control_path root)
  control_same =
      ap (bytes_at c) (control_path-is root) ∙ ap bytes_in (same (codes "global" ∷ codes "pg_control" ∷ [])) ∙ ap (bytes_at d) (sym (control_path-is root))

  module _ (bytes : List ℕ) where
    put_same : (parts : List (List ℕ)) → entry_at (written c (control_path root) 0 bytes) (below root parts) ≡ entry_at (written d (control_path root) 0 bytes) (below root parts)
    put_same parts = same_or_other (below root parts) (control_path root)
        (λ is.
        ap (entry_at (written c (control_path root) 0 bytes)) is ∙ entry-put c (control_path root) (FileEntry (splice (bytes_at c (control_path root)) 0 bytes))
        ∙ ap (λ b. Some (FileEntry (splice b 0 bytes))) control_same
        ∙ sym (ap (entry_at (written d (control_path root) 0 bytes)) is ∙ entry-put d (control_path root) (FileEntry (splice (bytes_at d (control_path root)) 0 bytes))))
        (λ other. entry-put_other c (control_path root) (below root parts) _ other ∙ same parts ∙ sym (entry-put_other d (control_path root) (below root parts) _ other))

    closed_same : HaveSameFiles (remove (written c (control_path root) 0 bytes) (label_path root)) root (remove (written d (control_path root) 0 bytes) (label_path root)) root
    closed_same parts = same_or_other (below root parts) (label_path root)
        (λ is.
        ap (entry_at (remove (written c (control_path root) 0 bytes) (label_path root))) is ∙ entry-removed (written c (control_path root) 0 bytes) (label_path root)
        ∙ sym (ap (entry_at (remove (written d (control_path root) 0 bytes) (label_path root))) is ∙ entry-removed (written d (control_path root) 0 bytes) (label_path root)))
        (λ other.
        entry-removed_other (written c (control_path root) 0 bytes) (label_path root) (below root parts) other ∙ put_same parts
        ∙ sym (entry-removed_other (written d (control_path root) 0 bytes) (label_path root) (below root parts) other))

  pub closing-same : (k : Control) → HaveSameFiles (all_changed c (closing_files root k)) root (all_changed d (closing_files root k)) root
  closing-same k = closed_same (control_bytes k)

-- ---- both end, or neither

-- changes were skipped in both, or in neither
ending : (root : PathValue) (a b : List BlockName) (v y : After) → (a ≡ [] → b ≡ []) → (b ≡ [] → a ≡ []) → AreSameEnd root v y
    → EndAsOne root (unless (missing_page a) (Ok v)) (unless (missing_page b) (Ok y))
ending root [] [] v y one two same = same
ending root [] (name ∷ more) v y one two same = let wrong : name ∷ more ≡ [] = one refl in absurd cc
ending root (name ∷ more) [] v y one two same = let wrong : name ∷ more ≡ [] = two refl in absurd cc
ending root (name ∷ more) (other ∷ others) v y one two same = tt

module _ (custom : Option Extension) (root : PathValue) (s : Start) (d b : Contents) (taken : AreTaken custom s.label.start.0 s.records) where
  abbrev per : ℕ
  per = s.control.relseg

  abbrev last : World → Result After ReplayFault
  last = left_under_or root (timeline_of s.control) (length s.records) (end_of s)

  abbrev left : World → After
  left = left_under root (timeline_of s.control) (length s.records) (end_of s)

  left_same : (v y : World) → AreSameFiles root root per v y → AreSameEnd root (left v) (left y)
  left_same v y same = record {
    files = λ parts.
        closing-same root v.files y.files same.files (control_left (timeline_of s.control) (end_of s) v.control) parts
        ∙ ap (λ k. entry_at (all_changed y.files (closing_files root (control_left (timeline_of s.control) (end_of s) k))) (below root parts)) same.same.alike.control;
    records = refl;
    end = refl;
    tli = refl;
  }

  none_too : (c : Contents) (y : World) → records_after custom root per s.records (world_under s c) ≡ Ok y → (v : World)
      → ((name : BlockName) → IsMainBlock name → is_among name v.skipped ≡ is_among name y.skipped) → v.skipped ≡ [] → y.skipped ≡ []
  none_too c y is v skips none =
      none-skipped y.skipped
      (log-main custom root per s.label.start.0 s.records (world_under s c) y taken (λ name among. absurd (true≢false (sym among))) is)
      (λ name main. sym (skips name main) ∙ ap (is_among name) none)

  by_records : (r q : Result World RecordFault) → records_after custom root per s.records (world_under s d) ≡ r → records_after custom root per s.records (world_under s b) ≡ q
      → EndWithSameFiles root root per r q → EndAsOne root (given (recorded r) last) (given (recorded q) last)
  by_records (Ok v) (Ok y) is so same =
      ending root v.skipped y.skipped (left v) (left y)
      (none_too b y so v same.same.skips) (none_too d v is y (λ name main. sym (same.same.skips name main))) (left_same v y same)
  by_records (Ok v) (Err f) is so same = absurd same
  by_records (Err e) (Ok y) is so same = absurd same
  by_records (Err e) (Err f) is so same = tt

  pub ends-as_one : EndWithSameFiles root root per (records_after custom root per s.records (world_under s d)) (records_after custom root per s.records (world_under s b))
      → EndAsOne root (replayed_under custom root s d) (replayed_under custom root s b)
  ends-as_one same = by_records (records_after custom root per s.records (world_under s d)) (records_after custom root per s.records (world_under s b)) refl refl same
