-- The histories of both clusters of a pair.
use Rattle.std.proofs.Common.{◌≡◌, ℕ, List, [], ◌∷◌, Ok, refl, ap, ◌∙◌}
use Rattle.cluster_tree.specs.Contents.{Contents}
use Rattle.cluster_tree.specs.PathValue.{PathValue}
use Rattle.cluster_tree.specs.Tree.{file_of}
use Rattle.clusters.specs.RootHistory.{history_at, history_in, with_root}
use Rattle.timeline_history.specs.Ancestor.{divergence_of}
use Rattle.timeline_history.specs.History.{fault_at, history_of, spans_of}
use Rattle.timeline_history.specs.Line.{entry_of, reading_of}
use Rattle.timeline_history.specs.Lines.{lines_of}
use Rattle.timeline_history.specs.declared.ancestor.Ancestor.TheVariants.{Common}
use Rattle.wal_base.specs.Decimal.{decimal_number}
use Rattle.wal_base.specs.Lsn.{lsn_of}
use Rattle.wal_base.specs.Spans.{ended, open_span}
use Rattle.wal_base.specs.declared.lsn.Lsn.{Lsn}
use Rattle.wal_base.specs.declared.spans.Span.{Span}
use Rattle.pair_maker.specs.Files.{history_bytes}
use Rattle.pair_maker.specs.Pair.{PairStands}
use Rattle.pair_laws.specs.Stands.{source_of, target_of}
use Rattle.pair_laws.proofs.PlaceLemmas.{source-history}

abbrev pub zero_lsn : Lsn
zero_lsn = record { 0 = 0 }

abbrev pub fork_lsn : Lsn
fork_lsn = record { 0 = 0x10_00A0 }

abbrev pub target_spans : List Span
target_spans = open_span 1 zero_lsn ∷ []

abbrev pub source_spans : List Span
source_spans = ended fork_lsn (open_span 1 zero_lsn) ∷ open_span 2 fork_lsn ∷ []

pub history-read : history_of 2 history_bytes ≡ Ok source_spans
unfolding history_of spans_of fault_at lines_of reading_of entry_of decimal_number lsn_of
history-read = refl

module _ (root : PathValue) (seed blocks : ℕ) (c : Contents) (stands : PairStands root seed blocks c) where
  pub target-history_at : history_at c (target_of root) 1 ≡ Ok target_spans
  unfolding history_at
  target-history_at = refl

  pub source-history_at : history_at c (source_of root) 2 ≡ Ok source_spans
  unfolding history_at
  source-history_at =
      ap (λ o. history_in (source_of root) 2 (file_of o)) (source-history root seed blocks c stands) ∙ ap (λ r. with_root (source_of root) 2 r) history-read

pub forks-apart : divergence_of target_spans source_spans ≡ Common (record { tli = 1; at = fork_lsn })
unfolding divergence_of
forks-apart = refl
