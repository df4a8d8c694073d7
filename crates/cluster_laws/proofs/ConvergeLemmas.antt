-- Alike clusters converge under one log.
use Rattle.std.proofs.Common.{◌≡◌, ℕ, false, List, Option, Result, Ok, Err, refl, sym, ◌∙◌}
use Rattle.rmgr_hooks.specs.Custom.{Extension, IsSound}
use Rattle.block_refs.specs.declared.names.BlockName.{BlockName}
use Rattle.block_replay.specs.declared.faults.RecordFault.{RecordFault}
use Rattle.block_replay.specs.declared.faults.RecordFault.TheVariants.{RedoFailed, File}
use Rattle.cluster_compare.specs.Same.{has_init}
use Rattle.cluster_tree.specs.PathValue.{PathValue}
use Rattle.page_layout.specs.declared.refusal.RedoWhy.{RedoWhy}
use Rattle.page_masks.specs.Law.{view}
use Rattle.replay_law.specs.Stage.{Matches}
use Rattle.replay_laws.specs.Held.{IsMainBlock}
use Rattle.replay_laws.specs.Log.{AreTaken}
use Rattle.replay_laws.specs.Refusals.{SomeLacksLayout}
use Rattle.replay_laws.proofs.ConvergeLemmas.{blocks-converge}
use Rattle.replay_world.specs.Records.{records_after}
use Rattle.replay_world.specs.World.{World}
use Rattle.storage_laws.specs.States.{page_in}
use Rattle.storage_laws.proofs.NumberLemmas.{by_test}
use Rattle.cluster_laws.proofs.unlogged.ConvergeLemmas.{unlogged-alike}
use Rattle.wal_base.specs.declared.lsn.Lsn.{Lsn}
use Rattle.wal_records.specs.Reading.{LogRecord}
use Rattle.cluster_laws.specs.Agree.{AgreeOn}
use Rattle.cluster_laws.specs.Alike.{AlikeWorlds}
use Rattle.cluster_laws.specs.Converging.{EndAlike, IsBased}
use Rattle.cluster_laws.proofs.BasedLemmas.{based-goes, inits-alike, none-left}
use Rattle.cluster_laws.proofs.RecordLemmas.{log-agree}

module _ (custom : Option Extension) (sound : IsSound custom) (base : BlockName → Option (List ℕ)) (start redo : ℕ) (records : List LogRecord) (root other : PathValue) (per : ℕ) (w x : World)
    (taken : AreTaken custom start records) (enough : ¬ (SomeLacksLayout records)) (both : AlikeWorlds root other per w x)
    (one : IsBased custom base redo records root per w) (two : IsBased custom base redo records other per x) where
  refused : (at : Lsn) (name : BlockName) (why : RedoWhy) → records_after custom root per records w ≡ Err (RedoFailed at name why) → ⊥
  refused at name why is = based-goes custom sound base start redo records root per w taken one enough at name why is

  other_refused : (at : Lsn) (name : BlockName) (why : RedoWhy) → records_after custom other per records x ≡ Err (RedoFailed at name why) → ⊥
  other_refused at name why is = based-goes custom sound base start redo records other per x taken two enough at name why is

  -- a relation without an init fork at the end had none, and its blocks fit the base, or lost it on the way
  pages_match : (v y : World) → records_after custom root per records w ≡ Ok v → records_after custom other per records x ≡ Ok y → (name : BlockName) → IsMainBlock name → has_init v.files root name.rel ≡ false
      → Matches (view name.block) (page_in root per name v.files) (page_in other per name y.files)
  pages_match v y is so name main none = by_test (has_init w.files root name.rel)
      (λ unlogged. (unlogged-alike custom sound name start records root other per per w v x y main taken (one.unchanged name main unlogged) one.begins two.begins unlogged none is so).2)
      (λ logged.
      (blocks-converge custom sound name start redo (base name) records root other per per w v x y main taken (one.life name main logged) one.begins (one.fits name main logged)
      two.begins (two.fits name main (sym (inits-alike per w.files x.files root other name.rel both.files) ∙ logged)) is so).2)

  end_alike : (r s : Result World RecordFault) → records_after custom root per records w ≡ r → records_after custom other per records x ≡ s → AgreeOn (AlikeWorlds root other per) root other r s → EndAlike root other per r s
  end_alike (Ok v) (Ok y) is so agree = record {
    alike = agree;
    none = none-left custom sound base start redo records root per w taken one v is;
    other_none = none-left custom sound base start redo records other per x taken two y so;
    pages = pages_match v y is so;
  }
  end_alike (Ok v) (Err (RedoFailed at name why)) is so agree = other_refused at name why so
  end_alike (Ok v) (Err (File f)) is so agree = agree
  end_alike (Err (RedoFailed at name why)) s is so agree = refused at name why is
  end_alike (Err (File e)) (Ok y) is so agree = agree
  end_alike (Err (File e)) (Err (RedoFailed at name why)) is so agree = other_refused at name why so
  end_alike (Err (File e)) (Err (File f)) is so agree = agree

  pub converge : EndAlike root other per (records_after custom root per records w) (records_after custom other per records x)
  converge = end_alike (records_after custom root per records w) (records_after custom other per records x) refl refl (log-agree custom sound root other per one.begins.some start records w x taken both)
