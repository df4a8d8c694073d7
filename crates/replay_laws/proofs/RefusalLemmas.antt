-- A replay is refused at a block only where the run of the effects on that block is.
use Rattle.std.proofs.Common.{◌≡◌, ◌⊎◌, ℕ, suc, ◌<◌, Bool, true, false, List, [], ◌∷◌, Option, None, Some, Result, Ok, Err, inl, inr, refl, ap, sym, subst, ◌∙◌, true≢false}
use Rattle.rmgr_hooks.specs.Custom.{Extension, IsSound}
use Rattle.std.specs.Prelude.{if◌then◌else◌}
use Rattle.std.proofs.lemmas.Bool.{or_left, or_right}
use Rattle.block_refs.specs.Outcomes.{start_of}
use Rattle.block_refs.specs.Parts.{ArePartsOf, PartsView}
use Rattle.block_refs.specs.declared.names.BlockName.{BlockName}
use Rattle.block_refs.specs.declared.placed.Placed.{Placed}
use Rattle.block_replay.specs.Blocks.{block_after, blocks_after, each_after}
use Rattle.block_replay.specs.Faults.{of_files}
use Rattle.block_replay.specs.World.{BlockWorld, without_gone}
use Rattle.block_replay.specs.declared.faults.RecordFault.{RecordFault}
use Rattle.block_replay.specs.declared.faults.RecordFault.TheVariants.{RedoFailed}
use Rattle.cluster_tree.specs.Causes.{given, unless}
use Rattle.cluster_tree.specs.Contents.{Contents}
use Rattle.cluster_tree.specs.PathValue.{PathValue}
use Rattle.cluster_tree.specs.declared.file_fault.FileFault.{FileFault}
use Rattle.file_effects.specs.Done.{files_after}
use Rattle.page_layout.specs.declared.refusal.RedoWhy.{RedoWhy}
use Rattle.page_layout.specs.declared.refusal.RedoWhy.TheVariants.{Layout}
use Rattle.page_masks.specs.Law.{view}
use Rattle.record_effects.specs.Acts.{act_on}
use Rattle.record_effects.specs.Managers.{effect_on}
use Rattle.replay_control.specs.Following.{control_after}
use Rattle.replay_law.specs.Effect.{Step, At}
use Rattle.replay_law.specs.Replay.{Held, replay_block, replay_on, replay_step}
use Rattle.replay_profile.specs.Names.{is_block, is_named}
use Rattle.replay_profile.specs.Profile.{is_short}
use Rattle.replay_world.specs.Records.{first_block, name_or_none, others_after, record_after, records_after}
use Rattle.replay_world.specs.World.{World, blocks_of}
use Rattle.storage_laws.proofs.NumberLemmas.{by_test}
use Rattle.wal_base.specs.declared.lsn.Lsn.{Lsn}
use Rattle.wal_records.specs.Reading.{LogRecord}
use Rattle.replay_laws.specs.Converging.{Begins, IsFit}
use Rattle.replay_laws.specs.Held.{IsMainBlock, held}
use Rattle.replay_laws.specs.Log.{AreTaken, IsTaken, steps}
use Rattle.replay_laws.specs.Refusals.{LacksLayout, SomeLacksLayout}
use Rattle.replay_laws.specs.Whole.{AreWhole}
use Rattle.replay_laws.proofs.ConvergeLemmas.{fitting-goes, unchanged-goes}
use Rattle.replay_laws.proofs.LogLemmas.{first-taken, parts_in}
use Rattle.replay_laws.proofs.NameLemmas.{AreOwn, name-is}
use Rattle.replay_laws.proofs.RecordLemmas.{OkWorld, record-steps, record-whole, taken-read}
use Rattle.replay_laws.proofs.RefLemmas.{AreReady, all-ready, one-stepped}
use Rattle.replay_laws.proofs.RefusedLemmas.{given-err, refused-at}
use Rattle.replay_laws.proofs.WorldLemmas.{held_in, is-own, left-other}

abbrev ErrHeld : RedoWhy → Result Held RedoWhy
ErrHeld why = Err why

module _ (custom : Option Extension) (sound : IsSound custom) (root : PathValue) (per : ℕ) (some : 0 < per) (start : Lsn) (name : BlockName) (why : RedoWhy) where
  abbrev Fault : RecordFault
  Fault = RedoFailed start name why

  module _ (rec : LogRecord) (parts : PartsView) (of_rec : ArePartsOf rec parts) (ends : 0 < rec.end) where
    -- the record says too little, or the block's step is refused
    abbrev IsStep : BlockName → BlockWorld → Type 0
    IsStep p w = LacksLayout rec parts ⊎ (IsMainBlock p × (replay_step (view p.block) (held_in root per p w) rec.end (effect_on custom rec parts p) ≡ ErrHeld why))

    -- a block that is refused is named once, so that the references before its own leave it

    later_differs : (placed : Placed) (more : List Placed) → is_named placed.block.name more ≡ false → is_named name more ≡ true → is_block name placed.block.name ≡ false
    later_differs placed more alone named = by_test (is_block name placed.block.name)
        (λ so. absurd (true≢false (sym named ∙ ap (λ n. is_named n more) (name-is name placed.block.name so) ∙ alone)))
        (λ else_so. else_so)

    still : (w mid : BlockWorld) → (IsMainBlock name → held_in root per name mid ≡ held_in root per name w) → IsStep name mid → IsStep name w
    still w mid same (inl lacks) = inl lacks
    still w mid same (inr step) = inr (step.0, ap (λ h. replay_step (view name.block) h rec.end (effect_on custom rec parts name)) (sym (same step.0)) ∙ step.1)

    each_refused : (blocks : List Placed) (w : BlockWorld) → AreReady custom sound root per some rec parts of_rec ends blocks → AreOwn blocks → AreWhole root per w.files → each_after custom root per rec parts blocks w ≡ Err Fault → (is_named name blocks ≡ true) × IsStep name w
    unfolding each_after block_after
    each_refused [] w ready own whole e = absurd cc
    each_refused (placed ∷ more) w ready own whole e =
        by (given-err (block_after custom root per rec parts placed w) (each_after custom root per rec parts more) Fault e) (λ mid left run. each_refused more mid ready.1 own.1 left run)
      where
        here : (p : BlockName) → p ≡ name → IsStep p w → (is_block name p ≡ true) × IsStep name w
        here p same step = (sym (ap (is_block name) (sym same)) ∙ is-own name, subst (λ n. IsStep n w) same step)

        by : (block_after custom root per rec parts placed w ≡ Err Fault) ⊎ ((mid : BlockWorld) × (block_after custom root per rec parts placed w ≡ Ok mid) × (each_after custom root per rec parts more mid ≡ Err Fault))
            → ((mid : BlockWorld) → AreWhole root per mid.files → each_after custom root per rec parts more mid ≡ Err Fault → (is_named name more ≡ true) × IsStep name mid)
            → (is_named name (placed ∷ more) ≡ true) × IsStep name w
        by (inl refused) later =
            let at = refused-at custom root per some rec parts placed.block own.0.block own.0.proper w whole start name why (act_on custom rec parts placed.block) refl ready.0.done refused in
            let two = here placed.block.name at.0 at.1 in
            (or_left (is_block name placed.block.name) (is_named name more) two.0, two.1)
        by (inr next) later =
            let first = one-stepped custom sound root per some rec parts of_rec ends placed more w next.0 ready.0 own.0 whole next.1 in
            let rest = later next.0 first.left.whole next.2 in (
              or_right (is_block name placed.block.name) (is_named name more) rest.0,
              still w next.0 (λ is. left-other root per placed.block.name w next.0 first.page first.skips name first.left is (later_differs placed more own.0.alone rest.0)) rest.1,
            )

  -- a record: its blocks alone are refused so

  module _ (rec : LogRecord) (parts : PartsView) (w : World) (is : IsTaken custom rec parts) (whole : AreWhole root per w.files) where
    abbrev pub IsRefused : Type 0
    IsRefused = LacksLayout rec parts ⊎ (IsMainBlock name × (replay_step (view name.block) (held root per w name) rec.end (effect_on custom rec parts name) ≡ ErrHeld why))

    pub others-free : (mid : BlockWorld) → others_after root per rec parts w mid ≡ Err Fault → ⊥
    others-free mid own = by (files_after root per rec parts mid.files) own
      where
        by : (r : Result Contents FileFault) → given (of_files r) (λ c. OkWorld (record { files = c; control = control_after rec parts w.control; skipped = without_gone rec parts mid.skipped })) ≡ Err Fault → ⊥
        by (Ok c) run = absurd cc
        by (Err fault) run = absurd cc

    blocks_refused : (blocks_after custom root per rec parts (blocks_of w) ≡ Err Fault) ⊎ ((mid : BlockWorld) × (blocks_after custom root per rec parts (blocks_of w) ≡ Ok mid) × (others_after root per rec parts w mid ≡ Err Fault)) → IsRefused
    blocks_refused (inl refused) =
        let of = taken-read custom rec parts is in
        (each_refused rec parts of.of_rec is.ends parts.blocks (blocks_of w) (all-ready custom sound root per some rec parts of.of_rec is.ends of.known) of.own whole refused).1
    blocks_refused (inr next) = absurd (others-free next.0 next.2)

    pub record-refused : record_after custom root per rec parts w ≡ Err Fault → IsRefused
    unfolding record_after
    record-refused e = by (is_short rec parts) refl e
      where
        by : (b : Bool) → is_short rec parts ≡ b
            → unless (if b then Some (RedoFailed (start_of rec) (name_or_none (first_block parts)) Layout) else None) (given (blocks_after custom root per rec parts (blocks_of w)) (others_after root per rec parts w)) ≡ Err Fault → IsRefused
        by true short own = inl (inl short)
        by false whole_layout own = blocks_refused (given-err (blocks_after custom root per rec parts (blocks_of w)) (others_after root per rec parts w) Fault own)

  -- a log

  refused_on : (block : BlockName) (log : List Step) → replay_on (view block.block) (ErrHeld why) log ≡ ErrHeld why
  refused_on block [] = refl
  refused_on block (At end effect ∷ log) = refl

  abbrev IsRun : List LogRecord → World → Type 0
  IsRun records w = SomeLacksLayout records ⊎ (IsMainBlock name × (replay_block (view name.block) (held root per w name) (steps custom name records) ≡ ErrHeld why))

  pub log-refused : (from : ℕ) (records : List LogRecord) (w : World) → AreTaken custom from records → AreWhole root per w.files → records_after custom root per records w ≡ Err Fault → IsRun records w
  unfolding records_after
  log-refused from [] w taken whole e = absurd cc
  log-refused from (rec ∷ records) w taken whole e =
      let one = first-taken custom from rec records taken in
      by one.0 (given-err (record_after custom root per rec (parts_in rec) w) (records_after custom root per records) Fault e)
      (λ mid made run. log-refused rec.end records mid one.1 (record-whole custom sound root per rec (parts_in rec) w mid some one.0 whole made) run)
    where
      here : LacksLayout rec (parts_in rec) ⊎ (IsMainBlock name × (replay_step (view name.block) (held root per w name) rec.end (effect_on custom rec (parts_in rec) name) ≡ ErrHeld why)) → IsRun (rec ∷ records) w
      here (inl lacks) = inl (0, rec, refl, lacks)
      here (inr step) = inr (step.0, ap (λ r. replay_on (view name.block) r (steps custom name records)) step.1 ∙ refused_on name (steps custom name records))

      behind : (mid : World) → IsTaken custom rec (parts_in rec) → record_after custom root per rec (parts_in rec) w ≡ Ok mid → IsRun records mid → IsRun (rec ∷ records) w
      behind mid is made (inl lacks) = inl (suc lacks.0, lacks.1, lacks.2, lacks.3)
      behind mid is made (inr run) = inr (run.0, ap (λ r. replay_on (view name.block) r (steps custom name records)) (record-steps custom sound root per rec (parts_in rec) w mid some is whole made name run.0) ∙ run.1)

      by : IsTaken custom rec (parts_in rec) → (record_after custom root per rec (parts_in rec) w ≡ Err Fault) ⊎ ((mid : World) × (record_after custom root per rec (parts_in rec) w ≡ Ok mid) × (records_after custom root per records mid ≡ Err Fault))
          → ((mid : World) → record_after custom root per rec (parts_in rec) w ≡ Ok mid → records_after custom root per records mid ≡ Err Fault → IsRun records mid) → IsRun (rec ∷ records) w
      by is (inl refused) later = here (record-refused rec (parts_in rec) w is whole refused)
      by is (inr next) later = behind next.0 is next.1 (later next.0 next.1 next.2)

-- where each block is fit none is refused
pub not-refused_at : (custom : Option Extension) (sound : IsSound custom) (root : PathValue) (per from redo : ℕ) (base : BlockName → Option (List ℕ)) (records : List LogRecord) (start : Lsn) (name : BlockName) (why : RedoWhy) (w : World) → AreTaken custom from records → (SomeLacksLayout records → ⊥) → Begins root per w
    → ((block : BlockName) → IsMainBlock block → IsFit custom root per redo block (base block) records w)
    → records_after custom root per records w ≡ Err (RedoFailed start name why) → ⊥
not-refused_at custom sound root per from redo base records start name why w taken enough begins fit e = by (log-refused custom sound root per begins.some start name why from records w taken begins.whole e)
  where
    by_fit : IsFit custom root per redo name (base name) records w → replay_block (view name.block) (held root per w name) (steps custom name records) ≡ ErrHeld why → ⊥
    by_fit (inl two) run = fitting-goes custom sound root per name redo (base name) records w why begins two.0 two.1 run
    by_fit (inr none) run = unchanged-goes custom root per name records w why begins none run

    by : SomeLacksLayout records ⊎ (IsMainBlock name × (replay_block (view name.block) (held root per w name) (steps custom name records) ≡ ErrHeld why)) → ⊥
    by (inl lacks) = enough lacks
    by (inr run) = by_fit (fit name run.0) run.1
