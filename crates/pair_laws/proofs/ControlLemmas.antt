-- The control files of both clusters of a pair, as they are read again.
use Rattle.std.proofs.Common.{◌≡◌, ℕ, ◌^◌, ◌<◌, Some, Ok, refl, sym, ap, ◌∙◌, lit<}
use Rattle.std.specs.List.{AllByRecursion}
use Rattle.cluster_tree.specs.Contents.{Contents}
use Rattle.cluster_tree.specs.PathValue.{PathValue}
use Rattle.cluster_tree.specs.Tree.{file_of}
use Rattle.clusters.specs.RootControl.{at_root, control_at, control_in}
use Rattle.control_file.specs.Admission.{control_of as read_control}
use Rattle.control_file.specs.Rows.{build_rows, head_rows, recovery_rows, rows_of, setting_rows}
use Rattle.control_file.specs.Writing.{control_bytes}
use Rattle.control_file.specs.declared.control.Control.{Control}
use Rattle.control_file.proofs.TableLemmas.{fits_of_parts}
use Rattle.control_file.proofs.WritingLemmas.{control_again}
use Rattle.layout.specs.Rows.{RowFits}
use Rattle.wal_base.specs.SizeOfBytes.{is_size, size_of_bytes}
use Rattle.wal_base.proofs.SizeMade.{size_made}
use Rattle.pair_maker.proofs.ControlLemmas.{control-holds}
use Rattle.pair_maker.specs.Files.{control_of, control_with}
use Rattle.pair_maker.specs.Logs.{is_megabyte, last_checkpoint, last_place, megabyte}
use Rattle.pair_maker.specs.Pair.{PairStands}
use Rattle.pair_maker.specs.declared.side.Side.{Side}
use Rattle.pair_maker.specs.declared.side.Side.TheVariants.{Target, Source}
use Rattle.pair_laws.specs.Stands.{source_of, target_of}
use Rattle.pair_laws.proofs.BodyLemmas.{last-fits}
use Rattle.pair_laws.proofs.SmallLemmas.{time-fits}
use Rattle.pair_laws.proofs.PlaceLemmas.{source-control, target-control}

-- a control file of a cluster of a pair, in a state, and consistent from a position of a timeline on
abbrev pub control_in_state : Side → (place state point tli : ℕ) → Control
control_in_state side place state point tli = record (control_with (last_checkpoint side place)) { state = state; minRecoveryPoint = point; minRecoveryPointTli = tli }

pub control-fits : (side : Side) (place state point tli : ℕ) → place < 2 ^ 64 → state < 2 ^ 32 → point < 2 ^ 64 → tli < 2 ^ 32
    → AllByRecursion RowFits (rows_of (control_in_state side place state point tli))
unfolding head_rows recovery_rows setting_rows build_rows
control-fits side place state point tli low s p t =
    fits_of_parts (control_in_state side place state point tli) (lit< tt, (lit< tt, (lit< tt, (s, (time-fits, (low, tt))))))
    (last-fits side place 40 low)
    (lit< tt, (p, (t, (lit< tt, (lit< tt, (lit< tt, tt))))))
    (lit< tt, (lit< tt, (lit< tt, (lit< tt, (lit< tt, (lit< tt, (lit< tt, (lit< tt, tt))))))))
    (lit< tt, (lit< tt, (lit< tt, (lit< tt, (lit< tt, (lit< tt, (lit< tt, (lit< tt, (lit< tt, (lit< tt, (lit< tt, (lit< tt, (refl, tt)))))))))))))

-- as it was shut down
pub place-again : (side : Side) (place : ℕ) → place < 2 ^ 64 → read_control (control_bytes (control_with (last_checkpoint side place))) ≡ Ok (control_with (last_checkpoint side place))
place-again side place low =
    control_again (control_with (last_checkpoint side place)) (control-fits side place 1 0 0 low (lit< tt) (lit< tt) (lit< tt)) (control-holds side place (control_with (last_checkpoint side place)) refl)

module _ (root : PathValue) (seed blocks : ℕ) (c : Contents) (stands : PairStands root seed blocks c) where
  pub target-control_at : last_place Target seed blocks < 2 ^ 64 → control_at c (target_of root) ≡ Ok (control_of Target seed blocks)
  unfolding control_at
  target-control_at low =
      ap (λ o. control_in (target_of root) (file_of o)) (target-control root seed blocks c stands)
      ∙ ap (λ r. at_root (target_of root) r) (place-again Target (last_place Target seed blocks) low)

  pub source-control_at : last_place Source seed blocks < 2 ^ 64 → control_at c (source_of root) ≡ Ok (control_of Source seed blocks)
  unfolding control_at
  source-control_at low =
      ap (λ o. control_in (source_of root) (file_of o)) (source-control root seed blocks c stands)
      ∙ ap (λ r. at_root (source_of root) r) (place-again Source (last_place Source seed blocks) low)

pub size-is : size_of_bytes 0x10_0000 ≡ Some megabyte
size-is = sym (size_made 0x10_0000 (Some megabyte) ((λ _. is_size 0x10_0000 is_megabyte), (λ _. refl)) refl)
