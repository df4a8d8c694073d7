-- Answers that agree, one after another.
use Rattle.std.proofs.Common.{◌≡◌, ℕ, Result, Ok, Err, refl, subst}
use Rattle.block_refs.specs.declared.names.BlockName.{BlockName}
use Rattle.block_replay.specs.Faults.{of_files}
use Rattle.block_replay.specs.declared.faults.RecordFault.{RecordFault}
use Rattle.block_replay.specs.declared.faults.RecordFault.TheVariants.{RedoFailed, File}
use Rattle.cluster_tree.specs.Causes.{given}
use Rattle.cluster_tree.specs.Contents.{Contents}
use Rattle.cluster_tree.specs.PathValue.{PathValue}
use Rattle.cluster_tree.specs.declared.file_fault.FileFault.{FileFault}
use Rattle.file_edits.specs.Alike.{SameAnswers}
use Rattle.page_layout.specs.declared.refusal.RedoWhy.{RedoWhy}
use Rattle.wal_base.specs.declared.lsn.Lsn.{Lsn}
use Rattle.alike_clusters.specs.Clusters.{AlikeClusters, AreLeftAlike}
use Rattle.cluster_laws.specs.Agree.{AgreeOn}

module _ (per : ℕ) (root other : PathValue) where
  abbrev pub BothFiles : Contents → Contents → Type 0
  BothFiles c d = AlikeClusters per c root d other

  refused_redo : {B : Type 0} (Q : B → B → Type 0) (q : Result B RecordFault) (start : Lsn) (name : BlockName) (why : RedoWhy) → AgreeOn Q root other q (Err (RedoFailed start name why))
  refused_redo Q (Ok b) start name why = tt
  refused_redo Q (Err (RedoFailed at of because)) start name why = tt
  refused_redo Q (Err (File e)) start name why = tt

  -- one after another
  pub agree-given : {A B : Type 0} (P : A → A → Type 0) (Q : B → B → Type 0) (r s : Result A RecordFault) (next after : A → Result B RecordFault)
      → AgreeOn P root other r s → ((a b : A) → P a b → AgreeOn Q root other (next a) (after b)) → AgreeOn Q root other (given r next) (given s after)
  agree-given P Q (Ok a) (Ok b) next after agree later = later a b agree
  agree-given P Q (Ok a) (Err (RedoFailed start name why)) next after agree later = refused_redo Q (next a) start name why
  agree-given P Q (Ok a) (Err (File f)) next after agree later = absurd agree
  agree-given P Q (Err (RedoFailed start name why)) s next after agree later = tt
  agree-given P Q (Err (File e)) (Ok b) next after agree later = absurd agree
  agree-given P Q (Err (File e)) (Err (RedoFailed start name why)) next after agree later = tt
  agree-given P Q (Err (File e)) (Err (File f)) next after agree later = agree

  -- answers about files
  pub files-agree : (r s : Result Contents FileFault) → AreLeftAlike per root other r s → AgreeOn BothFiles root other (of_files r) (of_files s)
  files-agree (Ok c) (Ok d) left = left
  files-agree (Ok c) (Err f) left = absurd left
  files-agree (Err e) (Ok d) left = absurd left
  files-agree (Err e) (Err f) left = left

  -- the same was told of both, by what it is
  pub told-agree_is : {A B : Type 0} (Q : B → B → Type 0) (r s : Result A FileFault) (next after : A → Result B RecordFault) → SameAnswers root other r s
      → ((a : A) → r ≡ Ok a → AgreeOn Q root other (next a) (after a)) → AgreeOn Q root other (given (of_files r) next) (given (of_files s) after)
  told-agree_is Q (Ok a) (Ok b) next after same later = subst (λ x. AgreeOn Q root other (next a) (after x)) same (later a refl)
  told-agree_is Q (Ok a) (Err f) next after same later = absurd same
  told-agree_is Q (Err e) (Ok b) next after same later = absurd same
  told-agree_is Q (Err e) (Err f) next after same later = same
