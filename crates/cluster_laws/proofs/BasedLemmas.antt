-- One cluster before a log, of which each block fits the base or is changed by no record: none is refused, and no change is skipped.
use Rattle.std.proofs.Common.{◌≡◌, ℕ, false, List, [], Option, Ok, Err, refl, ap, sym, ◌∙◌, inl, inr, true≢false}
use Rattle.rmgr_hooks.specs.Custom.{Extension, IsSound}
use Rattle.alike_clusters.specs.Clusters.{AlikeClusters, is_alike}
use Rattle.alike_clusters.proofs.NameLemmas.{file-lies, file_parts}
use Rattle.block_refs.specs.declared.names.BlockName.{BlockName}
use Rattle.block_refs.specs.declared.names.Fork.TheVariants.{Init}
use Rattle.block_refs.specs.declared.names.RelName.{RelName}
use Rattle.block_replay.specs.declared.faults.RecordFault.TheVariants.{RedoFailed}
use Rattle.cluster_compare.specs.Same.{has_init}
use Rattle.cluster_tree.specs.Contents.{Contents, Entry, entry_at, is_file}
use Rattle.cluster_tree.specs.PathValue.{PathValue, below}
use Rattle.file_edits.specs.Alike.{AlikeEntries, Files, Folders, Links, Neither}
use Rattle.page_layout.specs.declared.refusal.RedoWhy.{RedoWhy}
use Rattle.replay_law.specs.Replay.{Held}
use Rattle.replay_laws.specs.Converging.{IsFit}
use Rattle.replay_laws.specs.Held.{IsMainBlock, is_among}
use Rattle.replay_laws.specs.Log.{AreTaken}
use Rattle.replay_laws.specs.Refusals.{SomeLacksLayout}
use Rattle.replay_laws.proofs.ConvergeLemmas.{blocks-converge, unchanged-ends}
use Rattle.replay_laws.proofs.RefusalLemmas.{not-refused_at}
use Rattle.replay_world.specs.Records.{records_after}
use Rattle.replay_world.specs.World.{World}
use Rattle.storage_laws.proofs.NumberLemmas.{by_test}
use Rattle.wal_base.specs.declared.lsn.Lsn.{Lsn}
use Rattle.wal_records.specs.Reading.{LogRecord}
use Rattle.cluster_laws.specs.Converging.{IsBased}
use Rattle.cluster_laws.proofs.SkippedLemmas.{log-main, none-skipped}

module _ (custom : Option Extension) (sound : IsSound custom) (base : BlockName → Option (List ℕ)) (start redo : ℕ) (records : List LogRecord) (root : PathValue) (per : ℕ) (w : World) (taken : AreTaken custom start records) (based : IsBased custom base redo records root per w) where
  fit : (name : BlockName) → IsMainBlock name → IsFit custom root per redo name (base name) records w
  fit name main = by_test (has_init w.files root name.rel)
      (λ so. inr (based.unchanged name main so))
      (λ logged. inl (based.life name main logged, based.fits name main logged))

  pub based-goes : (SomeLacksLayout records → ⊥) → (at : Lsn) (name : BlockName) (why : RedoWhy) → records_after custom root per records w ≡ Err (RedoFailed at name why) → ⊥
  based-goes enough at name why is = not-refused_at custom sound root per start redo base records at name why w taken enough based.begins fit is

  no_skip : (v : World) → records_after custom root per records w ≡ Ok v → (name : BlockName) → IsMainBlock name → is_among name v.skipped ≡ false
  no_skip v is name main = by_test (has_init w.files root name.rel)
      (λ so. ap (λ (h : Held). h.skipped) (unchanged-ends custom sound name start records root per w v main taken (based.unchanged name main so) based.begins is))
      (λ logged.
      (blocks-converge custom sound name start redo (base name) records root root per per w v w v main taken (based.life name main logged)
      based.begins (based.fits name main logged) based.begins (based.fits name main logged) is is).0)

  pub none-left : (v : World) → records_after custom root per records w ≡ Ok v → v.skipped ≡ []
  none-left v is =
      none-skipped v.skipped
      (log-main custom root per start records w v taken (λ name among. absurd (true≢false (sym among ∙ ap (is_among name) based.begins.none))) is)
      (no_skip v is)

-- in alike clusters the same relations have an init fork
file_both : (per : ℕ) (parts : List (List ℕ)) (o p : Option Entry) → AlikeEntries (is_alike per parts) o p → is_file o ≡ is_file p
file_both per parts o p Neither = refl
file_both per parts o p (Folders bad) = refl
file_both per parts o p (Files a b like) = refl
file_both per parts o p Links = refl

pub inits-alike : (per : ℕ) (c d : Contents) (root other : PathValue) (rel : RelName) → AlikeClusters per c root d other → has_init c root rel ≡ has_init d other rel
inits-alike per c d root other rel both =
    let parts : List (List ℕ) = file_parts rel Init 0 in
    ap (λ p. is_file (entry_at c p)) (file-lies root rel Init 0)
    ∙ file_both per parts (entry_at c (below root parts)) (entry_at d (below other parts)) (both.alike parts)
    ∙ ap (λ p. is_file (entry_at d p)) (sym (file-lies other rel Init 0))
