-- The control file that the replay of a pair's copy leaves is read.
use Rattle.std.proofs.Common.{None, ◌≡◌, ◌∙◌, ℕ, ◌≤◌, List, ◌++◌, length, drop, Some, Ok, refl, sym, ap, lit<, zero-add}
use Rattle.std.proofs.Math.Seq.{drop-length}
use Rattle.std.proofs.lemmas.List.{append-nil}
use Rattle.cluster_laws.proofs.EndLemmas.{control_parts}
use Rattle.cluster_laws.proofs.StartLemmas.{control-path}
use Rattle.cluster_tree.specs.Contents.{Contents, FileEntry, entry_at}
use Rattle.cluster_tree.specs.PathValue.{PathValue, below}
use Rattle.cluster_tree.specs.Tree.{bytes_in, file_of}
use Rattle.clusters.specs.RootControl.{at_root, control_at, control_in}
use Rattle.control_file.specs.Admission.{control_of as read_control}
use Rattle.control_file.specs.Reading.{timeline_of}
use Rattle.control_file.specs.Writing.{control_bytes}
use Rattle.control_file.specs.declared.control.Control.{Control}
use Rattle.control_file.proofs.ReadingLemmas.{ok_is}
use Rattle.control_file.proofs.WritingLemmas.{control_again}
use Rattle.layout.specs.Splice.{splice}
use Rattle.pair_maker.proofs.ControlLemmas.{rewound-holds}
use Rattle.pair_maker.specs.Logs.{last_place}
use Rattle.pair_maker.specs.declared.side.Side.TheVariants.{Source}
use Rattle.replay_core.specs.Replayed.{After, after_replay, end_of}
use Rattle.replay_start.specs.Checked.{start_of}
use Rattle.pair_laws.specs.Stands.{CopyStands}
use Rattle.pair_laws.specs.Start.{copy_control, copy_start}
use Rattle.pair_laws.proofs.ControlLemmas.{control-fits}
use Rattle.pair_laws.proofs.SmallLemmas.{last_low}
use Rattle.pair_laws.proofs.compared.CloseLemmas.{control-left, control-run, left_control}
use Rattle.pair_laws.proofs.compared.ControlLemmas.{IsKept, end-low, log-controls, tli-low}
use Rattle.pair_laws.proofs.compared.CopyLemmas.{copy-control_there}
use Rattle.pair_laws.proofs.compared.KeepLemmas.{HasRelation}

-- bytes written over as many
written-over : (old new : List ℕ) → length old ≡ length new → splice old 0 new ≡ new
unfolding splice
written-over old new same = ap (λ n. new ++ drop n old) (zero-add (length new) ∙ sym same) ∙ ap (λ l. new ++ l) (drop-length old) ∙ append-nil new

copy_again : (seed blocks : ℕ) → blocks ≤ 4096 → read_control (control_bytes (copy_control seed blocks)) ≡ Ok (copy_control seed blocks)
copy_again seed blocks few =
    let place = last_place Source seed blocks in
    let low = last_low Source seed blocks few in
    control_again (copy_control seed blocks) (control-fits Source place 5 place 2 low (lit< tt) low (lit< tt)) (rewound-holds Source place (copy_control seed blocks) refl)

module _ (other : PathValue) (seed blocks : ℕ) (few : blocks ≤ 4096) (d : Contents) (after : After) (stands : CopyStands other seed blocks d) (passes : start_of None d other ≡ Ok (copy_start other seed blocks))
    (has : HasRelation other blocks d) (ends : after_replay None d other ≡ Ok after) where
  abbrev left : Control
  left = left_control other seed blocks few d (copy_start other seed blocks) after passes refl refl has ends

  kept : IsKept left
  kept =
      let run = control-run other seed blocks few d (copy_start other seed blocks) after passes refl refl has ends in
      log-controls other seed blocks (timeline_of (copy_control seed blocks)) (end_of (copy_start other seed blocks)) run.0 _ few (tli-low seed blocks) (end-low other seed blocks few) run.1 run.2

  as_long : length (control_bytes (copy_control seed blocks)) ≡ length (control_bytes left)
  as_long = (ok_is (control_bytes (copy_control seed blocks)) (copy_control seed blocks) (copy_again seed blocks few)).size ∙ sym kept.long

  file_left : entry_at after.files (below other control_parts) ≡ Some (FileEntry (control_bytes left))
  file_left =
      control-left other seed blocks few d (copy_start other seed blocks) after passes refl refl has ends
      ∙ ap (λ o. Some (FileEntry (splice (bytes_in o) 0 (control_bytes left)))) (copy-control_there other seed blocks d stands)
      ∙ ap (λ b. Some (FileEntry b)) (written-over (control_bytes (copy_control seed blocks)) (control_bytes left) as_long)

  pub kept-left : (control : Control) × (control_at after.files other ≡ Ok control) × (control.relseg ≡ 131072)
  unfolding control_at
  kept-left = (
    left,
    ap (λ p. control_in other (file_of (entry_at after.files p))) (control-path other) ∙ ap (λ o. control_in other (file_of o)) file_left ∙ ap (at_root other) kept.again,
    kept.per,
  )
