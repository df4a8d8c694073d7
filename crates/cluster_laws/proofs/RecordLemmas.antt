-- What a record leaves, and a log, over alike clusters.
use Rattle.std.proofs.Common.{Option, ◌≡◌, ℕ, ◌<◌, true, false, List, [], ◌∷◌, None, Some, Result, Ok, Err, refl, ap}
use Rattle.rmgr_hooks.specs.Custom.{Extension, IsSound}
use Rattle.std.specs.Prelude.{if◌then◌else◌}
use Rattle.alike_clusters.specs.Clusters.{AlikeClusters}
use Rattle.alike_clusters.proofs.EffectLemmas.{effects-left}
use Rattle.block_effects.proofs.MeetLemmas.{meets}
use Rattle.block_refs.specs.Outcomes.{record_parts, start_of}
use Rattle.block_refs.specs.Parts.{PartsView}
use Rattle.block_refs.specs.declared.placed.Placed.{Placed}
use Rattle.block_replay.specs.Blocks.{block_after, blocks_after, each_after}
use Rattle.block_replay.specs.Faults.{of_files}
use Rattle.block_replay.specs.World.{BlockWorld, without_gone}
use Rattle.block_replay.specs.declared.faults.RecordFault.{RecordFault}
use Rattle.block_replay.specs.declared.faults.RecordFault.TheVariants.{RedoFailed, File}
use Rattle.cluster_tree.specs.Causes.{given, unless}
use Rattle.cluster_tree.specs.PathValue.{PathValue}
use Rattle.file_effects.specs.Done.{files_after}
use Rattle.page_layout.specs.declared.refusal.RedoWhy.TheVariants.{Layout}
use Rattle.record_effects.specs.Acts.{act_on}
use Rattle.record_effects.specs.Managers.{rules_of}
use Rattle.replay_laws.proofs.RuleLemmas.{managers_are}
use Rattle.replay_control.specs.Following.{control_after}
use Rattle.replay_laws.specs.Log.{AreTaken, IsTaken}
use Rattle.replay_laws.specs.Whole.{AreWhole}
use Rattle.replay_laws.proofs.LogLemmas.{first-taken}
use Rattle.replay_laws.proofs.NameLemmas.{AreOwn}
use Rattle.replay_laws.proofs.RecordLemmas.{IsRead, record-whole, taken-read}
use Rattle.replay_laws.proofs.RefLemmas.{AreReady, all-ready, one-stepped}
use Rattle.replay_profile.specs.Profile.{is_short, parts_or_none}
use Rattle.replay_world.specs.Records.{first_block, name_or_none, others_after, record_after, records_after}
use Rattle.replay_world.specs.World.{World, blocks_of}
use Rattle.wal_records.specs.Reading.{LogRecord}
use Rattle.cluster_laws.specs.Agree.{AgreeOn}
use Rattle.cluster_laws.specs.Alike.{AlikeWorlds}
use Rattle.cluster_laws.proofs.AgreeLemmas.{BothFiles, agree-given, files-agree}
use Rattle.cluster_laws.proofs.ChangeLemmas.{act-agree}

module _ (custom : Option Extension) (sound : IsSound custom) (root other : PathValue) (per : ℕ) (some : 0 < per) where
  -- what else is known of what is left
  agree_with : {A : Type 0} (P Q : A → A → Type 0) (r s : Result A RecordFault) → AgreeOn P root other r s → ((a b : A) → r ≡ Ok a → s ≡ Ok b → P a b → Q a b) → AgreeOn Q root other r s
  agree_with P Q (Ok a) (Ok b) agree more = more a b refl refl agree
  agree_with P Q (Ok a) (Err (RedoFailed start name why)) agree more = tt
  agree_with P Q (Ok a) (Err (File f)) agree more = absurd agree
  agree_with P Q (Err (RedoFailed start name why)) s agree more = tt
  agree_with P Q (Err (File e)) (Ok b) agree more = absurd agree
  agree_with P Q (Err (File e)) (Err (RedoFailed start name why)) agree more = tt
  agree_with P Q (Err (File e)) (Err (File f)) agree more = agree

  record AlikeBlocks (w : BlockWorld) (x : BlockWorld) : Type 0 where
    files : AlikeClusters per w.files root x.files other
    whole : AreWhole root per w.files
    other_whole : AreWhole other per x.files

  abbrev BothBlocks : BlockWorld → BlockWorld → Type 0
  BothBlocks w x = AlikeClusters per w.files root x.files other

  module _ (rec : LogRecord) (parts : PartsView) (is : IsTaken custom rec parts) where
    of : IsRead rec parts
    of = taken-read custom rec parts is

    -- one reference after another
    each_agree : (blocks : List Placed) (w x : BlockWorld) → AreReady custom sound root per some rec parts of.of_rec is.ends blocks → AreReady custom sound other per some rec parts of.of_rec is.ends blocks → AreOwn blocks → AlikeBlocks w x
        → AgreeOn AlikeBlocks root other (each_after custom root per rec parts blocks w) (each_after custom other per rec parts blocks x)
    unfolding each_after block_after
    each_agree [] w x ready other_ready own both = both
    each_agree (placed ∷ more) w x ready other_ready own both =
        agree-given per root other AlikeBlocks AlikeBlocks (block_after custom root per rec parts placed w) (block_after custom other per rec parts placed x) (each_after custom root per rec parts more) (each_after custom other per rec parts more)
        (agree_with BothBlocks AlikeBlocks (block_after custom root per rec parts placed w) (block_after custom other per rec parts placed x)
        (act-agree custom root other per some rec parts of.of_rec is.ends placed.block own.0.block (act_on custom rec parts placed.block) w x
        (both.whole.no_gap placed.block.name.rel placed.block.name.fork own.0.block.rel) (both.other_whole.no_gap placed.block.name.rel placed.block.name.fork own.0.block.rel)
        refl ready.0.done (meets (rules_of custom rec) rec parts placed.block.name (managers_are custom sound rec) of.of_rec is.ends) both.files)
        (λ v y made other_made files. record {
          files = files;
          whole = (one-stepped custom sound root per some rec parts of.of_rec is.ends placed more w v ready.0 own.0 both.whole made).left.whole;
          other_whole = (one-stepped custom sound other per some rec parts of.of_rec is.ends placed more x y other_ready.0 own.0 both.other_whole other_made).left.whole;
        }))
        (λ v y left. each_agree more v y ready.1 other_ready.1 own.1 left)

    module _ (w x : World) (both : AlikeWorlds root other per w x) where
      record AlikeFiles (v : World) (y : World) : Type 0 where
        files : AlikeClusters per v.files root y.files other
        control : v.control ≡ y.control

      others_agree : (b e : BlockWorld) → AlikeBlocks b e → AgreeOn AlikeFiles root other (others_after root per rec parts w b) (others_after other per rec parts x e)
      others_agree b e left =
          agree-given per root other (BothFiles per root other) AlikeFiles (of_files (files_after root per rec parts b.files)) (of_files (files_after other per rec parts e.files))
          (λ c. Ok (record { files = c; control = control_after rec parts w.control; skipped = without_gone rec parts b.skipped }))
          (λ d. Ok (record { files = d; control = control_after rec parts x.control; skipped = without_gone rec parts e.skipped }))
          (files-agree per root other (files_after root per rec parts b.files) (files_after other per rec parts e.files) (effects-left per root other rec parts b.files e.files left.files))
          (λ c d files. record { files = files; control = ap (control_after rec parts) both.control })

      files_agree : AgreeOn AlikeFiles root other (record_after custom root per rec parts w) (record_after custom other per rec parts x)
      unfolding record_after
      files_agree =
          elim (is_short rec parts) as (λ t. AgreeOn AlikeFiles root other
          (unless (if t then Some (RedoFailed (start_of rec) (name_or_none (first_block parts)) Layout) else None) (given (blocks_after custom root per rec parts (blocks_of w)) (others_after root per rec parts w)))
          (unless (if t then Some (RedoFailed (start_of rec) (name_or_none (first_block parts)) Layout) else None) (given (blocks_after custom other per rec parts (blocks_of x)) (others_after other per rec parts x)))) [
            | true ↦ tt
            | false ↦ agree-given per root other AlikeBlocks AlikeFiles (blocks_after custom root per rec parts (blocks_of w)) (blocks_after custom other per rec parts (blocks_of x)) (others_after root per rec parts w) (others_after other per rec parts x)
                (each_agree parts.blocks (blocks_of w) (blocks_of x) (all-ready custom sound root per some rec parts of.of_rec is.ends of.known) (all-ready custom sound other per some rec parts of.of_rec is.ends of.known) of.own
                (record { files = both.files; whole = both.whole; other_whole = both.other_whole }))
                others_agree
          ]

      pub record-agree : AgreeOn (AlikeWorlds root other per) root other (record_after custom root per rec parts w) (record_after custom other per rec parts x)
      record-agree =
          agree_with AlikeFiles (AlikeWorlds root other per) (record_after custom root per rec parts w) (record_after custom other per rec parts x) files_agree
          (λ v y made other_made left. record {
            files = left.files;
            whole = record-whole custom sound root per rec parts w v some is both.whole made;
            other_whole = record-whole custom sound other per rec parts x y some is both.other_whole other_made;
            control = left.control;
          })

  pub log-agree : (start : ℕ) (records : List LogRecord) (w x : World) → AreTaken custom start records → AlikeWorlds root other per w x
      → AgreeOn (AlikeWorlds root other per) root other (records_after custom root per records w) (records_after custom other per records x)
  unfolding records_after
  log-agree start [] w x taken both = both
  log-agree start (rec ∷ records) w x taken both =
      let two = first-taken custom start rec records taken in
      agree-given per root other (AlikeWorlds root other per) (AlikeWorlds root other per) (record_after custom root per rec (parts_or_none (record_parts rec)) w) (record_after custom other per rec (parts_or_none (record_parts rec)) x)
      (records_after custom root per records) (records_after custom other per records)
      (record-agree rec (parts_or_none (record_parts rec)) two.0 w x both)
      (λ v y left. log-agree rec.end records v y two.1 left)
