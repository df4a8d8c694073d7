-- The copy of a pair before its replay.
use Rattle.std.proofs.Common.{◌≡◌, ℕ, List, [], ◌∷◌, codes, false, None, Some, refl, sym, ap, ◌∙◌, lit≤, pos}
use Rattle.backup_label.specs.Text.{label_text}
use Rattle.cluster_tree.specs.Contents.{Contents, FileEntry, FolderEntry, entry_at}
use Rattle.cluster_tree.specs.PathValue.{PathValue, below, path_of}
use Rattle.cluster_laws.proofs.EndLemmas.{control_parts, label_parts}
use Rattle.cluster_laws.proofs.StartLemmas.{control-not_main}
use Rattle.control_file.specs.Writing.{control_bytes}
use Rattle.file_walk.specs.Relations.{relation_of}
use Rattle.pair_maker.specs.Clusters.{Named, control_entry, copy_entries, file, shared_entries}
use Rattle.pair_maker.specs.Files.{control_of, pair_label, relation_bytes}
use Rattle.pair_maker.specs.Logs.{made_at}
use Rattle.pair_maker.specs.declared.side.Side.TheVariants.{Source}
use Rattle.rewound_tree.specs.RewoundControl.{rewound_control}
use Rattle.pair_laws.specs.Stands.{CopyStands}
use Rattle.pair_laws.specs.Start.{copy_control}
use Rattle.pair_laws.proofs.FileLemmas.{relation-long}
use Rattle.pair_laws.proofs.NamedLemmas.{AllNamed, named-all}
use Rattle.pair_laws.proofs.ThereLemmas.{Holds, all-append, shared-hold}
use Rattle.pair_laws.proofs.compared.CloseLemmas.{relation-path, relation_parts}
use Rattle.pair_laws.proofs.compared.FineLemmas.{AreFine, IsFine}
use Rattle.pair_laws.proofs.compared.KeepLemmas.{HasRelation}
use Rattle.pair_laws.proofs.compared.PlainLemmas.{plain-fine}

hold_fine : (bytes : List ℕ) (entries : List Named) → AllNamed (Holds bytes) entries → AllNamed IsFine entries
hold_fine bytes [] all = tt
hold_fine bytes (n ∷ rest) all = (record { short = all.0.short; proper = all.0.proper; sound = all.0.sound }, hold_fine bytes rest all.1)

label_plain : relation_of (path_of false label_parts) ≡ None
unfolding relation_of
label_plain = refl

copy_fine : (seed blocks : ℕ) → AllNamed IsFine (copy_entries seed blocks)
copy_fine seed blocks =
    all-append IsFine (shared_entries seed blocks) (control_entry (rewound_control (control_of Source seed blocks) (pos made_at)) ∷ file (codes "backup_label") (label_text pair_label) ∷ [])
    (hold_fine (relation_bytes Source seed blocks) (shared_entries seed blocks) (shared-hold seed blocks)) (
      plain-fine control_parts (control_bytes (rewound_control (control_of Source seed blocks) (pos made_at))) (lit≤ tt) refl control-not_main,
      (plain-fine label_parts (label_text pair_label) (lit≤ tt) refl label_plain, tt),
    )

module _ (other : PathValue) (seed blocks : ℕ) (d : Contents) (stands : CopyStands other seed blocks d) where
  pub copy-fine : AreFine other d
  copy-fine parts e there = named-all IsFine (copy_entries seed blocks) parts (copy_fine seed blocks) e (sym (stands parts) ∙ there)

  pub copy-top : entry_at d (below other []) ≡ Some (FolderEntry false)
  copy-top = stands []

  pub copy-control_there : entry_at d (below other control_parts) ≡ Some (FileEntry (control_bytes (copy_control seed blocks)))
  copy-control_there = stands control_parts

  pub copy-relation : HasRelation other blocks d
  copy-relation = record {
    bytes = relation_bytes Source seed blocks;
    there = ap (λ p. entry_at d p) (relation-path other) ∙ stands relation_parts;
    long = relation-long Source seed blocks;
  }
